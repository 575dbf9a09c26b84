-- From a store to the same one in another order, and to a house in it.
use Rattle.std.proofs.Common.{◌≡◌, ◌<◌, ◌≤◌, ◌+◌, ◌∙◌, ℕ, zero, suc, List, [], ◌∷◌, IsTrue, ap, ap₂, arith, cond, map, refl, subst, sym, take, Bool}
use Rattle.std.proofs.lemmas.List.{get_or_default, same_lists}
use Rattle.sqlite.specs.Effect.{Database, IsDatabase}
use Rattle.sqlite.specs.Held.{Held, state}
use Rattle.sqlite.specs.State.{HasCleanDisk}
use Rattle.sqlite.specs.Steps.{IsFresh}
use Rattle.sqlite_catalog.specs.Listing.{IsSound}
use Rattle.sqlite_schema.specs.declared.schema.Schema.{Schema}
use Rattle.sqlite_value.specs.Order.{Row, column}
use Rattle.sqlite_trees.specs.Objects.{IsListed, catalog_tree}
use Rattle.sqlite_trees.specs.Sound.{is_word}
use Rattle.sqlite_trees.specs.Tree.{Trees}
use Rattle.sqlite_trees.specs.View.{IsClean, IsOrdered, IsQuiet, IsRolledBack as IsUndone, View, doubt}
use Rattle.sqlite_trees.specs.declared.store.Store.{Ghosts}
use Rattle.store_house.proofs.OpenLemmas.{first_from, house_from, one_schema}
use Rattle.store_house.specs.Named.{FollowsInOrder, HoldsFirstHouse, HoldsHouse, IsArranged, IsReordered, house_trees}
use Rattle.store_house.specs.Opening.{Follows}
use Rattle.store_house.specs.Places.{tree_named, tree_or, trees_named}
use Rattle.store_rows.specs.House.{IsFirstHouse, IsHouse}
use Rattle.store_rows.specs.Schema.{first_schema, house_by}
use Rattle.tree_order.specs.Laws.{listed_view, ordered_under}
use Rattle.tree_order.specs.NumberLaws.{same_number}
use Rattle.tree_order.specs.Numbers.{AreInverse, number}
use Rattle.store_house.specs.Over.{over_numbers}
use Rattle.tree_order.specs.Renumbered.{renumbered, renumbered_mark, renumbered_trees}
use Rattle.tree_order.specs.Shown.{shown_trees}
use Rattle.tree_order.specs.declared.numbers.Numbers.{Numbers}
use Rattle.tree_order.specs.declared.renumbered.Renumbered.{Renumbered}

-- what leads back from a list is one list
pub one_inverse : (inner outer other : List ℕ) → AreInverse inner outer → AreInverse inner other → outer ≡ other
one_inverse inner outer other h k = same_lists outer other (h.same ∙ sym k.same) (λ t d low.
    let at : number outer t ≡ number other t = same_number inner outer h (number outer t) (number other t) (h.forth t (omega (arith, h.same)) ∙ sym (k.forth t (omega (arith, h.same)))) in
    get_or_default outer t d t low ∙ at ∙ get_or_default other t t d (omega (arith, h.same, k.same)))

-- the first columns of each row of a list find the same trees

front_column : (row : Row) (at : ℕ) → at < 3 → column (take 5 row) at ≡ column row at
front_column [] zero low = refl
front_column [] (suc at) low = refl
front_column (v ∷ row) zero low = refl
front_column (v ∷ []) (suc at) low = refl
front_column (v ∷ w ∷ row) (suc zero) low = refl
front_column (v ∷ w ∷ []) (suc (suc at)) low = refl
front_column (v ∷ w ∷ x ∷ row) (suc (suc zero)) low = refl
front_column (v ∷ w ∷ x ∷ row) (suc (suc (suc at))) low = absurd (omega arith)

front_named : (name : List ℕ) (other : ℕ) (rows : List Row) → tree_named name other (map (take 5) rows) ≡ tree_named name other rows
front_named name other [] = refl
front_named name other (row ∷ rows) =
    ap (λ v. cond (is_word name v) (tree_or other (column (take 5 row) 0)) (tree_named name other (map (take 5) rows))) (front_column row 2 (omega arith))
    ∙ ap (λ v. cond (is_word name (column row 2)) (tree_or other v) (tree_named name other (map (take 5) rows))) (front_column row 0 (omega arith))
    ∙ ap (cond (is_word name (column row 2)) (tree_or other (column row 0))) (front_named name other rows)

pub fronts_named : (names : List (List ℕ)) (at : ℕ) (rows : List Row) → trees_named names at (map (take 5) rows) ≡ trees_named names at rows
fronts_named [] at rows = refl
fronts_named (name ∷ names) at rows = ap₂ (λ x xs. x ∷ xs) (front_named name at rows) (fronts_named names (at + 1) rows)

-- a store that was rolled back is as if it was just opened, under other numbers too
pub fresh_under : (inner outer : List ℕ) (old store : View) → IsUndone old store → IsClean store → IsTrue store.is_open → IsTrue store.is_numbered
    → IsFresh (renumbered inner outer store)
fresh_under inner outer old store undone clean is_open numbered =
    let kept = undone.kept clean in
    let back = undone.undone is_open in
    record {
      sound = back.1;
      numbered = numbered;
      clean = ap (renumbered_trees inner outer) (back.0 ∙ sym (kept.committed is_open));
      unmarked = ap (map (renumbered_mark inner outer)) (kept.marks is_open);
    }

module _ {S : Type 0} (g : Ghosts S) (conn : Held S) (store : S) (follows : Follows g conn store) (works : IsClean (g.view store) → IsTrue (g.view store).is_open)
    (given : Renumbered S) (is : given.inner ≡ store) where
  given_kept : Follows g conn given.inner
  given_kept = subst (Follows g conn) (sym is) follows

  given_works : IsClean (g.view given.inner) → IsTrue (g.view given.inner).is_open
  given_works = subst (λ s. IsClean (g.view s) → IsTrue (g.view s).is_open) (sym is) works

  -- what is shown of a store in some order is what was committed, in this order
  pub given_shown : IsClean (g.view given.inner) → ((over_numbers g).view given).trees ≡ shown_trees given.numbers (state g conn).committed.trees
  given_shown clean = ap (shown_trees given.numbers) (given_kept.shown clean (given_works clean))

  order_of : (db : Trees) → db ≡ shown_trees given.numbers (state g conn).committed.trees → IsReordered (state g conn).committed.trees db
  order_of db shown = record { inner = given.numbers.inner.items; outer = given.numbers.outer.items; inverse = given.numbers.inverse; shown = shown }

  -- an opening of it that was refused
  pub follows_refused : (left : Renumbered S)
      → IsQuiet (over_numbers g).view (over_numbers g).faults (over_numbers g).recovers (over_numbers g).is_shielded given left
      → (IsClean ((over_numbers g).view left) → IsTrue ((over_numbers g).view left).is_open → ((over_numbers g).view left).trees ≡ ((over_numbers g).view given).trees)
      → FollowsInOrder g conn left
  follows_refused left quiet rows = record {
    clean = omega (arith, given_kept.clean, quiet.clean);
    shield = λ h. quiet.shield (given_kept.shield h);
    shown = λ clean is_open.
        let early : IsClean (g.view given.inner) = omega (arith, quiet.clean, clean) in
        order_of _ (rows clean is_open ∙ given_shown early);
    crash = λ clean db may.
        let early : IsClean (g.view given.inner) = omega (arith, quiet.clean, clean) in
        let before = quiet.outcomes db may in
        (before.0, given_kept.crash early before.0 before.1, record { inner = given.numbers.inner.items; outer = given.numbers.outer.items; inverse = given.numbers.inverse; shown = before.2 });
  }

  -- and one that was made: a crash leaves what is committed
  pub follows_made : (IsClean (g.view given.inner) → g.recovers conn.store (state g conn).committed.trees) → (again : Held (Renumbered S))
      → doubt ((over_numbers g).view given).is_clean ≤ doubt (state (over_numbers g) again).is_clean
      → (g.is_shielded given.inner → g.is_shielded again.store.inner)
      → (HasCleanDisk (state (over_numbers g) again) → (state (over_numbers g) again).now.trees ≡ ((over_numbers g).view given).trees)
      → (HasCleanDisk (state (over_numbers g) again) → (db : Trees) → (over_numbers g).recovers again.store db → db ≡ (state (over_numbers g) again).now.trees)
      → FollowsInOrder g conn again.store
  follows_made stays again clean shield trees settled = record {
    clean = omega (arith, given_kept.clean, clean);
    shield = λ h. shield (given_kept.shield h);
    shown = λ still opened.
        let early : IsClean (g.view given.inner) = omega (arith, clean, still) in
        order_of _ (trees still ∙ given_shown early);
    crash = λ still db may.
        let early : IsClean (g.view given.inner) = omega (arith, clean, still) in
        ((state g conn).committed.trees, stays early, order_of db (settled still db may ∙ trees still ∙ given_shown early));
  }

-- the store that a connection in some order gives back
pub gives_back_in_order : {S : Type 0} (g : Ghosts S) (conn : Held S) (last : Held (Renumbered S)) (store : Renumbered S) → FollowsInOrder g conn last.store
    → (HasCleanDisk (state (over_numbers g) last) → (state (over_numbers g) last).now ≡ (state (over_numbers g) last).committed)
    → IsUndone ((over_numbers g).view last.store) ((over_numbers g).view store)
    → IsQuiet (over_numbers g).view (over_numbers g).faults (over_numbers g).recovers (over_numbers g).is_shielded last.store store → FollowsInOrder g conn store
gives_back_in_order g conn last store follows rests undone quiet = record {
  clean = omega (arith, follows.clean, quiet.clean);
  shield = λ h. quiet.shield (follows.shield h);
  shown = λ clean is_open.
      let early : HasCleanDisk (state (over_numbers g) last) = omega (arith, quiet.clean, clean) in
      let same : ((over_numbers g).view store).trees ≡ ((over_numbers g).view last.store).trees = (undone.undone is_open).0 ∙ sym (ap (λ (d : Database). d.trees) (rests early)) in
      subst (IsReordered (state g conn).committed.trees) (sym same) (follows.shown early ((undone.kept clean).was_open is_open));
  crash = λ clean db may.
      let early : HasCleanDisk (state (over_numbers g) last) = omega (arith, quiet.clean, clean) in
      follows.crash early db (quiet.outcomes db may);
}

-- trees that are arranged by the same names are the same
pub one_arrangement : (below : Trees) (numbers : Numbers) (db : Trees) → numbers.inner.items ≡ house_trees below → IsArranged below db
    → db ≡ shown_trees numbers below
one_arrangement below numbers db named arranged =
    let o = arranged.order in
    let inner : o.inner ≡ numbers.inner.items = arranged.named ∙ sym named in
    let here : AreInverse numbers.inner.items o.outer = subst (λ l. AreInverse l o.outer) inner o.inverse in
    let outer : o.outer ≡ numbers.outer.items = one_inverse numbers.inner.items o.outer numbers.outer.items here numbers.inverse in
    o.shown ∙ ap (λ l. renumbered_trees l o.outer below) inner ∙ ap (λ l. renumbered_trees numbers.inner.items l below) outer

-- where no schema fits the trees in the order of a house, they are those of no house
pub no_house : (below : Trees) (numbers : Numbers) → numbers.inner.items ≡ house_trees below
    → ((schema : Schema) → ¬ (IsSound schema (shown_trees numbers below))) → (¬ (HoldsHouse below)) × (¬ (HoldsFirstHouse below))
no_house below numbers named none = (
  (λ held. none held.0.schema (subst (IsSound held.0.schema) (one_arrangement below numbers held.0.trees named held.2) held.1.sound)),
  (λ held. none held.0.schema (subst (IsSound held.0.schema) (one_arrangement below numbers held.0.trees named held.2) held.1.sound)),
)

-- where none is arranged, there is no house
pub none_arranged : (below : Trees) → ((outer : List ℕ) → ¬ (AreInverse (house_trees below) outer)) → (¬ (HoldsHouse below)) × (¬ (HoldsFirstHouse below))
none_arranged below none =
    let never : (db : Trees) → ¬ (IsArranged below db) = λ db arranged.
    none arranged.order.outer (subst (λ l. AreInverse l arranged.order.outer) arranged.named arranged.order.inverse) in
    ((λ held. never held.0.trees held.2), (λ held. never held.0.trees held.2))

-- trees that are arranged by the same names are the same
pub same_arranged : (below one other : Trees) → IsArranged below one → IsArranged below other → one ≡ other
same_arranged below one other a b =
    let inner : b.order.inner ≡ a.order.inner = b.named ∙ sym a.named in
    let moved : AreInverse a.order.inner b.order.outer = subst (λ l. AreInverse l b.order.outer) inner b.order.inverse in
    let outer : b.order.outer ≡ a.order.outer = one_inverse a.order.inner b.order.outer a.order.outer moved a.order.inverse in
    a.order.shown ∙ sym (b.order.shown ∙ ap (λ l. renumbered_trees l b.order.outer below) inner ∙ ap (λ l. renumbered_trees a.order.inner l below) outer)

-- the schema of a house that is held is that of the database in its order
pub held_schema : (below : Trees) (again : Database) → IsArranged below again.trees → IsDatabase again → (db : Database) → IsDatabase db → IsArranged below db.trees → again.schema ≡ db.schema
held_schema below again here sound db held there = one_schema again db sound (same_arranged below again.trees db.trees here there) held

module _ {S : Type 0} (g : Ghosts S) (given : Renumbered S) (db : Database) (trees : db.trees ≡ ((over_numbers g).view given).trees) (sound : IsDatabase db)
    (listed : IsListed ((g.view given.inner).trees catalog_tree) (g.view given.inner).shape (g.view given.inner).reals) (ordered : IsOrdered (g.view given.inner).shape (g.view given.inner).trees) where
  listed_in_order : IsListed (((over_numbers g).view given).trees catalog_tree) ((over_numbers g).view given).shape ((over_numbers g).view given).reals
  listed_in_order = listed_view given.numbers.inner.items given.numbers.outer.items given.numbers.inverse (g.view given.inner) ordered listed

  ordered_in_order : IsOrdered ((over_numbers g).view given).shape ((over_numbers g).view given).trees
  ordered_in_order = ordered_under given.numbers.inner.items given.numbers.outer.items given.numbers.inverse (g.view given.inner) listed.itself.0 ordered

  -- a database over a store in the order of a house is one
  pub house_shown : (b : Bool) → db.schema ≡ house_by b → IsHouse db
  house_shown b schema = house_from ((over_numbers g).view given) db b schema trees sound listed_in_order ordered_in_order

  pub first_shown : db.schema ≡ first_schema → IsFirstHouse db
  first_shown schema = first_from ((over_numbers g).view given) db schema trees sound listed_in_order ordered_in_order
