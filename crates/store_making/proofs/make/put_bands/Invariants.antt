use Rattle.std.proofs.Common.{◌≡◌, IsTrue, take}
use Rattle.sqlite.specs.State.{HasCleanDisk, Survives}
use Rattle.sqlite.specs.Held.{state}
use Rattle.store_making.specs.Made.{HasBands}
use Rattle.store_making.proofs.make.put_bands.Given as goal

abbrev pub invariant-loop-from : goal.invariant-loop-from
invariant-loop-from g l =
    let old = state g.S.Store l.fn.tx.conn.now in
    let now = state g.S.Store l.tx.conn.now in
    (l.tx.conn.ghost_name ≡ l.fn.tx.conn.ghost_name)
    × Survives old now (λ _. ⊥)
    × (HasCleanDisk now → IsTrue now.is_open × IsTrue now.in_transaction × (now.committed ≡ old.committed) × HasBands (take l.from-index l.bands) now.now)
