-- What the steps of a change leave of a connection, one after another.
use Rattle.std.proofs.Common.{◌≡◌, true, subst, arith}
use Rattle.sqlite_trees.specs.declared.store.Store.{Ghosts}
use Rattle.sqlite.specs.Held.{Held, state}
use Rattle.sqlite.specs.Effect.{Database}
use Rattle.sqlite.specs.State.{State, HasCleanDisk, IsUnchanged, Survives}
use Rattle.sqlite.proofs.StateLemmas.{survives_then}
use Rattle.house_rows.specs.declared.change.Change.{Change}
use Rattle.store_rows.specs.Tables.{Changes}
use Rattle.store_rows.specs.Commits.{MadeBy}

-- A commit leaves the change that was made in the transaction, or what was there.
pub survives_commit : {S : Type 0} (g : Ghosts S) (old begun mid : Held S) (new : State) (change : Change) → begun ≡ record old { in_transaction = true }
    → Survives (state g begun) (state g mid) (λ _. ⊥) → Survives (state g mid) new (λ db. db ≡ (state g mid).now.trees)
    → (HasCleanDisk (state g mid) → Changes change (state g begun).now (state g mid).now) → Survives (state g old) new (MadeBy change (state g old))
survives_commit {S} g old begun mid new change is one two made =
    let first = subst (λ (h : Held S). Survives (state g h) (state g mid) (λ _. ⊥)) is one in
    let both = survives_then (state g (record old { in_transaction = true })) (state g mid) new (λ _. ⊥) (λ db. db ≡ (state g mid).now.trees) (MadeBy change (state g old)) (λ _ db none. absurd none)
    (λ clean db at. ((state g mid).now, subst (λ (h : Held S). Changes change (state g h).now (state g mid).now) is (made (omega (arith, two.clean))), at)) first two in
    record { clean = both.clean; shield = both.shield; counts = both.counts; limit = both.limit; closes = both.closes; crash = both.crash }

-- A change after a look-up.
pub survives_change : (old mid new : State) (change : Change) → (HasCleanDisk mid → IsUnchanged old mid) → Survives old mid (λ _. ⊥) → Survives mid new (MadeBy change mid) → Survives old new (MadeBy change old)
survives_change old mid new change same one two =
    survives_then old mid new (λ _. ⊥) (MadeBy change mid) (MadeBy change old) (λ _ db none. absurd none)
    (λ clean db made. (made.0, subst (λ (d : Database). Changes change d made.0) (same (omega (arith, two.clean))).0.now_is made.1, made.2)) one two
