use Rattle.std.proofs.Common.{arith, sym}
use Rattle.site_bodies.proofs.Walked.{last_begins, last_found, last_none, last_passed}
use Rattle.site_bodies.proofs.flat.last.Goals as goal

pub loop-end-init : goal.loop-end-init
loop-end-init c = (omega arith, last_begins c.args.name.now c.args.slots.now)

pub returns-then-is_named : goal.returns-then-is_named
returns-then-is_named c = last_found c.args.name.now c.args.slots.now c.loop-end.end _
    (omega (arith, c.loop-end-test.true)) c.loop-end.invariant.0 c.loop-end.invariant.1
    (sym c.if-is_named.ensures)

pub loop-end-preserved : goal.loop-end-preserved
loop-end-preserved c = (
  omega (arith, c.loop-end.invariant.0),
  last_passed c.args.name.now c.args.slots.now c.loop-end.end _
      (omega (arith, c.loop-end-test.true)) c.loop-end.invariant.0 c.loop-end.invariant.1
      (sym c.if-is_named.ensures),
)

pub returns : goal.returns
returns c = last_none c.args.name.now c.args.slots.now c.loop-end.end (omega (arith, c.loop-end-test.false))
    c.loop-end.invariant.1
