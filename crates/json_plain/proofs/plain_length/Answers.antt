use Rattle.std.proofs.Common.{arith, refl}
use Rattle.json_plain.proofs.Plain.{plain_step}
use Rattle.json_plain.proofs.plain_length.Goals as goal

pub loop-end-preserved : goal.loop-end-preserved
loop-end-preserved c = (
  plain_step c.args.bytes.now c.loop-end.end c.loop-end-test.true c.loop-end.invariant.0
      (c.if-is_plain.ensures.0 refl),
  omega (arith, c.loop-end-test.true),
)
