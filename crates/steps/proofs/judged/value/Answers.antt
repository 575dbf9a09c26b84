use Rattle.std.proofs.Common.{arith}
use Rattle.steps.proofs.DigitLemmas.{digit_here, value_more}
use Rattle.steps.proofs.judged.value.Goals as goal

pub overflow_mul-value : goal.overflow_mul-value
overflow_mul-value c =
    let here = digit_here c.args.digits.now c.loop-digit.digit-index c.requires c.loop-digit-test.true in
    let so_far = c.loop-digit.invariant in omega (arith, here.2, so_far)

pub overflow_sub-digit : goal.overflow_sub-digit
overflow_sub-digit c = (digit_here c.args.digits.now c.loop-digit.digit-index c.requires c.loop-digit-test.true).0

pub overflow_add-value : goal.overflow_add-value
overflow_add-value c =
    let here = digit_here c.args.digits.now c.loop-digit.digit-index c.requires c.loop-digit-test.true in
    let so_far = c.loop-digit.invariant in omega (arith, here.1, here.2, so_far)

pub loop-digit-preserved : goal.loop-digit-preserved
loop-digit-preserved c =
    value_more c.args.digits.now c.loop-digit.digit-index c.loop-digit.value c.from.result c.requires c.loop-digit-test.true c.loop-digit.invariant c.from.ensures
