use Rattle.std.proofs.Common.{◌≡◌, IsTrue, take}
use Rattle.sqlite.specs.State.{HasCleanDisk, Survives}
use Rattle.sqlite.specs.Held.{state}
use Rattle.store_open.specs.Setting.{AddsLaterBands}
use Rattle.store_open.proofs.new_bands.put_bands.Given as goal

abbrev pub invariant-loop-from : goal.invariant-loop-from
invariant-loop-from g l =
    let old = state g.S.Store l.fn.tx.conn.now in
    let now = state g.S.Store l.tx.conn.now in
    (l.tx.conn.ghost_name ≡ l.fn.tx.conn.ghost_name)
    × Survives old now (λ _. ⊥)
    × (HasCleanDisk now → IsTrue now.is_open × IsTrue now.in_transaction × (now.committed ≡ old.committed) × AddsLaterBands l.edition (take l.from-index l.bands) old.now now.now)
