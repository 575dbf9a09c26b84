use Rattle.std.proofs.Common.{arith, rules, ◌∙◌}
use Rattle.sqlite.specs.State.{HasCleanDisk}
use Rattle.sqlite.specs.Held.{state}
use Rattle.store_rows.proofs.tables.add_tables.Goals as goal

pub loop-step-preserved : goal.loop-step-preserved
loop-step-preserved g c = (
  omega (arith, c.loop-step.invariant.0),
  search rules,
  λ clean.
      let held = c.loop-step.invariant in
      let early : HasCleanDisk (state g.S.Store c.loop-step.conn) = omega (arith, c.add_step.ensures.crash.clean) in
      let was = held.2 early in
      let inside = c.in_ok-add_step.ensures.inside clean in
      (inside.is_open, inside.mode, inside.committed ∙ was.2, c.in_ok-add_step.ensures.ok clean _ was.3),
)
