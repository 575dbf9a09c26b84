use Rattle.std.proofs.Common.{arith, length-set, refl}
use Rattle.site_bodies.proofs.Walked.{walk_begins, walk_done, walk_more}
use Rattle.site_bodies.proofs.flat.flat_object.Goals as goal

pub loop-place-init : goal.loop-place-init
loop-place-init c = (refl, walk_begins c.in_ok-rest.ensures)

pub returns-then-ends : goal.returns-then-ends
returns-then-ends c = walk_done c.loop-place.slots c.loop-place.place c.in_ok-slot.slot
    (omega (arith, c.loop-place-test.true, c.loop-place.invariant.0)) c.loop-place.invariant.1 c.in_ok-slot.ensures
    (c.if-ends.ensures refl)

pub loop-place-preserved : goal.loop-place-preserved
loop-place-preserved c = (
  omega (arith, length-set c.loop-place.slots c.loop-place.place c.in_ok-slot.slot, c.loop-place.invariant.0),
  walk_more c.loop-place.slots c.loop-place.place c.in_ok-slot.slot
      (omega (arith, c.loop-place-test.true, c.loop-place.invariant.0)) c.loop-place.invariant.1 c.in_ok-slot.ensures
      c.in_ok-more.ensures,
)
