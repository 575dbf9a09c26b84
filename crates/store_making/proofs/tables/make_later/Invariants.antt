use Rattle.std.proofs.Common.{◌≡◌, IsTrue}
use Rattle.sqlite.specs.State.{HasCleanDisk, Survives}
use Rattle.sqlite.specs.Held.{state}
use Rattle.store_making.specs.Made.{IsMadeWith}
use Rattle.store_making.proofs.tables.make_later.Given as goal

abbrev pub invariant-loop-step : goal.invariant-loop-step
invariant-loop-step g l =
    let old = state g.S.Store l.fn.tx.conn.now in
    let now = state g.S.Store l.tx.conn.now in
    (l.tx.conn.ghost_name ≡ l.fn.tx.conn.ghost_name)
    × Survives old now (λ _. ⊥)
    × (HasCleanDisk now → IsTrue now.is_open × IsTrue now.in_transaction × (now.committed ≡ old.committed) × IsMadeWith l.step now.now)
