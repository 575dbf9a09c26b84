-- What is left of a connection where a change is undone in its midst.
use Rattle.std.proofs.Common.{◌≡◌, ◌∙◌, true, ap, subst, IsTrue}
use Rattle.sqlite_trees.specs.declared.store.Store.{Ghosts}
use Rattle.sqlite.specs.Held.{Held, state}
use Rattle.sqlite.specs.State.{IsRolledBack, KeepsCommit, State, Survives}
use Rattle.sqlite.proofs.StateLemmas.{survives_then}
use Rattle.house_rows.specs.declared.change.Change.{Change}
use Rattle.store_rows.specs.Commits.{IsBack, MadeBy}

-- a crash leaves what it left before
pub survives_undone : {S : Type 0} (g : Ghosts S) (old begun mid : Held S) (new : State) (change : Change) → begun ≡ record old { in_transaction = true }
    → Survives (state g begun) (state g mid) (λ _. ⊥) → Survives (state g mid) new (λ _. ⊥) → Survives (state g old) new (MadeBy change (state g old))
survives_undone {S} g old begun mid new change is one two =
    let first = subst (λ (h : Held S). Survives (state g h) (state g mid) (λ _. ⊥)) is one in
    let both = survives_then (state g (record old { in_transaction = true })) (state g mid) new (λ _. ⊥) (λ _. ⊥) (MadeBy change (state g old)) (λ _ db none. absurd none) (λ _ db none. absurd none) first two in
    record { clean = both.clean; shield = both.shield; counts = both.counts; limit = both.limit; closes = both.closes; crash = both.crash }

-- what was committed is shown again
pub back_undone : {S : Type 0} (g : Ghosts S) (old begun mid : Held S) (new : State) → begun ≡ record old { in_transaction = true }
    → KeepsCommit (state g begun) (state g mid) → IsRolledBack (state g mid) new → IsTrue new.is_open → IsBack (state g old) new
back_undone {S} g old begun mid new is kept undone open' =
    let both = undone.undone open' in
    let stays : (state g mid).committed ≡ (state g old).committed = kept.committed (undone.was_open open') ∙ ap (λ (h : Held S). (state g h).committed) is in
    (both.0 ∙ stays, both.1 ∙ stays)
