use Rattle.std.proofs.Common.{arith, refl}
use Rattle.json_plain.proofs.Plain.{plain_step}
use Rattle.site_bodies.proofs.Walked.{ascii_step}
use Rattle.site_bodies.proofs.flat.name_length.Goals as goal

pub loop-end-init : goal.loop-end-init
loop-end-init c = (omega arith, refl, λ i. omega arith)

pub loop-end-preserved : goal.loop-end-preserved
loop-end-preserved c = (
  omega (arith, c.loop-end-test.true),
  plain_step c.args.bytes.now c.loop-end.end c.loop-end-test.true c.loop-end.invariant.1 (c.if-is_name_byte.ensures.plain refl),
  ascii_step c.args.bytes.now c.loop-end.end c.loop-end-test.true c.loop-end.invariant.2 (c.if-is_name_byte.ensures.ascii refl),
)
