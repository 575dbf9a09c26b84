use Rattle.std.proofs.Common.{◌≡◌, IsTrue, drop}
use Rattle.sqlite.specs.State.{HasCleanDisk, Survives}
use Rattle.sqlite.specs.Held.{state}
use Rattle.store_selling.proofs.Closed.{IsClosing}
use Rattle.store_selling.proofs.auction_end.close_items.Given as goal

abbrev pub invariant-loop-terms : goal.invariant-loop-terms
invariant-loop-terms g l =
    let old = state g.S.Store l.fn.tx.conn.now in
    let now = state g.S.Store l.tx.conn.now in
    (l.tx.conn.ghost_name ≡ l.fn.tx.conn.ghost_name)
    × Survives old now (λ _. ⊥)
    × (HasCleanDisk now → IsTrue now.is_open × IsTrue now.in_transaction × (now.committed ≡ old.committed) × IsClosing l.due (drop l.terms-index l.due) old.now now.now)
