use Rattle.std.proofs.Common.{arith, refl}
use Rattle.site_bodies.proofs.Walked.{nothing_passed, space_more, spaces_passed}
use Rattle.site_bodies.proofs.flat.after_spaces.Goals as goal

pub loop-end-init : goal.loop-end-init
loop-end-init c = (nothing_passed c.args.bytes.now, omega arith)

pub loop-end-preserved : goal.loop-end-preserved
loop-end-preserved c = (
  space_more c.loop-end.end _ c.loop-end-test.true (c.if-is_space.ensures refl) refl c.loop-end.invariant.0,
  omega (arith, c.loop-end-test.true),
)

pub returns : goal.returns
returns c = spaces_passed c.loop-end.end c.loop-end.invariant.0
