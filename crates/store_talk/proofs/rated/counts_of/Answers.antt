use Rattle.std.proofs.Common.{take, arith}
use Rattle.house_rows.specs.Ratings.{is_minus, is_plus, is_zero}
use Rattle.std.proofs.Math.ListN.{length-take}
use Rattle.store_rows.proofs.Counted.{counted_few}
use Rattle.store_talk.proofs.rated.counts_of.Goals as goal

pub overflow_add-plus : goal.overflow_add-plus
overflow_add-plus c =
    let seen = take c.loop-feedback.feedback-index c.args.given.now in
    omega (arith, c.loop-feedback.invariant.plus, counted_few (λ f. is_plus f.rating) seen, length-take c.loop-feedback.feedback-index c.args.given.now)

pub overflow_add-zero : goal.overflow_add-zero
overflow_add-zero c =
    let seen = take c.loop-feedback.feedback-index c.args.given.now in
    omega (arith, c.loop-feedback.invariant.zero, counted_few (λ f. is_zero f.rating) seen, length-take c.loop-feedback.feedback-index c.args.given.now)

pub overflow_add-minus : goal.overflow_add-minus
overflow_add-minus c =
    let seen = take c.loop-feedback.feedback-index c.args.given.now in
    omega (arith, c.loop-feedback.invariant.minus, counted_few (λ f. is_minus f.rating) seen, length-take c.loop-feedback.feedback-index c.args.given.now)
