-- What an opening and an upgrade leave of a store whose trees are shown in the order of a house.
use Rattle.std.proofs.Common.{◌≡◌, ◌≤◌, ◌∙◌, IsTrue, ap, arith, inl, inr, subst, sym}
use Rattle.sqlite.specs.Effect.{Database}
use Rattle.sqlite.specs.Held.{Held, state}
use Rattle.sqlite.specs.State.{HasCleanDisk}
use Rattle.sqlite_trees.specs.Tree.{Trees}
use Rattle.sqlite_trees.specs.declared.store.Store.{Ghosts}
use Rattle.store_house.proofs.NamedLemmas.{same_arranged}
use Rattle.store_house.specs.Named.{FollowsInOrder, FollowsOrGrowsInOrder, HoldsSound, HoldsSoundFirst, IsArranged, IsReordered, UpgradedHeld}
use Rattle.store_house.specs.Opening.{Follows, FollowsOrGrows, IsReadable, IsSoundFirst, Upgrades}
use Rattle.store_house.specs.Over.{over_numbers}
use Rattle.store_rows.specs.House.{IsFirstHouse, IsHouse}
use Rattle.store_open.proofs.UpgradeLemmas.{not_both, not_first, sound_first_at}
use Rattle.tree_order.specs.declared.renumbered.Renumbered.{Renumbered}

-- ---- what is held, by what is shown

module _ (below : Trees) (whole : Database) (arranged : IsArranged below whole.trees) where
  -- a house that can't be read is none that an opening takes
  pub holds_unreadable : ¬ (IsReadable whole.trees) → ¬ (HoldsSound below)
  holds_unreadable none held =
      none (subst IsReadable (sym (same_arranged below whole.trees held.0.trees arranged held.2)) held.1.readable)

  -- a house of version 2 is none of version 1
  pub holds_no_first : IsHouse whole → ¬ (HoldsSoundFirst below)
  holds_no_first house held =
      not_first whole held.0 house (same_arranged below whole.trees held.0.trees arranged held.2) held.1

  -- and the other way round
  pub holds_no_house : IsFirstHouse whole → ¬ (HoldsSound below)
  holds_no_house first held =
      not_both whole held.0 first (same_arranged below whole.trees held.0.trees arranged held.2) held.1

  -- a house of version 1 that is not sound is none that an upgrade takes
  pub holds_unsound : IsFirstHouse whole → ¬ (IsSoundFirst whole) → ¬ (HoldsSoundFirst below)
  holds_unsound first none held =
      none (sound_first_at whole held.0 first (same_arranged below whole.trees held.0.trees arranged held.2) held.1)

-- ---- what is left

module _ {S : Type 0} (g : Ghosts S) (conn : Held S) (whole : Held (Renumbered S)) (last : Renumbered S) (first : FollowsInOrder g conn whole.store)
    (rests : HasCleanDisk (state (over_numbers g) whole) → (state (over_numbers g) whole).now ≡ (state (over_numbers g) whole).committed)
    (arranged : HasCleanDisk (state (over_numbers g) whole) → IsArranged (state g conn).committed.trees (state (over_numbers g) whole).now.trees) where
  committed : HasCleanDisk (state (over_numbers g) whole) → (state (over_numbers g) whole).committed.trees ≡ (state (over_numbers g) whole).now.trees
  committed early = sym (ap (λ (d : Database). d.trees) (rests early))

  shown_order : HasCleanDisk (state (over_numbers g) whole) → ((over_numbers g).view last).trees ≡ (state (over_numbers g) whole).committed.trees
      → IsReordered (state g conn).committed.trees ((over_numbers g).view last).trees
  shown_order early same = subst (IsReordered (state g conn).committed.trees) (sym (same ∙ committed early)) (arranged early).order

  -- what a call that writes nothing leaves of a store in order follows the connection below it
  pub follows_on : Follows (over_numbers g) whole last → FollowsInOrder g conn last
  follows_on next = record {
    clean = omega (arith, first.clean, next.clean);
    shield = λ h. next.shield (first.shield h);
    shown = λ clean is_open. shown_order (omega (arith, next.clean, clean)) (next.shown clean is_open);
    crash = λ clean db may. first.crash (omega (arith, next.clean, clean)) db (next.crash clean db may);
  }

  -- and an upgrade may leave the house upgraded
  pub grows_on : FollowsOrGrows (over_numbers g) whole last → FollowsOrGrowsInOrder g conn last
  grows_on next = record {
    clean = omega (arith, first.clean, next.clean);
    shield = λ h. next.shield (first.shield h);
    shown = λ clean is_open. shown_order (omega (arith, next.clean, clean)) (next.shown clean is_open);
    crash = λ clean db may.
        let early : HasCleanDisk (state (over_numbers g) whole) = omega (arith, next.clean, clean) in
        elim (next.crash clean db may) [
          | inl old ↦ inl (first.crash early db old)
          | inr made ↦
              let r : UpgradedHeld (state g conn).committed.trees db = (
                made.0,
                record {
                  old = (state (over_numbers g) whole).now.trees;
                  arranged = arranged early;
                  upgrades = subst (λ (t : Trees). Upgrades t made.0) (committed early) made.1;
                },
                made.2,
              ) in
              inr r
        ];
  }

-- what follows has grown no more than it may
pub follows_or_grows_in_order : {S : Type 0} (g : Ghosts S) (conn : Held S) (store : Renumbered S) → FollowsInOrder g conn store → FollowsOrGrowsInOrder g conn store
follows_or_grows_in_order g conn store follows = record {
  clean = follows.clean;
  shield = follows.shield;
  shown = follows.shown;
  crash = λ clean db may. inl (follows.crash clean db may);
}
