use Rattle.std.proofs.Common.{◌≡◌, ◌≤◌, IsTrue}
use Rattle.sqlite.specs.State.{HasCleanDisk, Survives}
use Rattle.sqlite.specs.Held.{state}
use Rattle.store_rows.specs.Making.{IsGrown}
use Rattle.store_rows.proofs.tables.add_tables.Given as goal

abbrev pub invariant-loop-step : goal.invariant-loop-step
invariant-loop-step g l =
    let old = state g.S.Store l.fn.conn in
    let now = state g.S.Store l.conn in
    (16 ≤ l.step) × Survives old now (λ _. ⊥)
    × (HasCleanDisk now → IsTrue now.is_open × IsTrue now.in_transaction × (now.committed ≡ old.committed) × IsGrown l.step old.now.trees now.now)
