-- Who serves by some reserves serves, and goes on so after a read.
use Rattle.std.proofs.Common.{List}
use Rattle.sqlite.specs.State.{State, HasCleanDisk, IsUnchanged, Survives}
use Rattle.store_rows.specs.declared.reserve.ReserveRow.{ReserveRow}
use Rattle.store_rows.specs.House.{Serves, ServesBy}
use Rattle.store_rows.proofs.Steps.{clean_before}

pub serves : (reserves : List ReserveRow) (s : State) → ServesBy reserves s → Serves s
serves reserves s by clean = let h = by clean in (h.0, h.1)

pub serves_still : (reserves : List ReserveRow) (old new : State) → Survives old new (λ _. ⊥) → (HasCleanDisk new → IsUnchanged old new) → ServesBy reserves old → ServesBy reserves new
serves_still reserves old new crash same by clean =
    let h = by (clean_before old new crash clean) in
    let it = (same clean).0 in
    (it.is_open, rw it.now_is h.1, rw it.now_is h.2)
