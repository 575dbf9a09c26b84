-- Questions that wait are handed out of items whose rows are consistent.
use Rattle.std.proofs.Common.{◌≡◌, ℕ, Bool, true, not, ◌&&◌, List, [], ◌∷◌, map, filter, find, option_map, Option, Some, None, inl, inr}
use Rattle.std.specs.Prelude.{◌==◌, IfSome, is_some}
use Rattle.std.specs.List.{AllByRecursion}
use Rattle.sqlite_trees.specs.Tree.{Trees}
use Rattle.house_rows.specs.Changed.{is_item}
use Rattle.house_rows.specs.Found.{sells, waiting_for}
use Rattle.house_rows.specs.Keeping.{IsConsistentBy}
use Rattle.house_rows.specs.Tables.{ItemRow}
use Rattle.house_rows.specs.declared.item.Terms.{Terms}
use Rattle.house_rows.specs.declared.talk.Question.{Question}
use Rattle.house_rows.specs.Editions.{BandTables}
use Rattle.house_rows.proofs.Put.{by_test}
use Rattle.store_rows.specs.ItemRows.{items_in}
use Rattle.store_rows.specs.Sorted.{sorted_questions}
use Rattle.store_rows.specs.Tables.{tables_in}
use Rattle.store_items.specs.ConsistentRows.{ItemIsConsistent}
use Rattle.sqlite_keyed.proofs.RuleLemmas.{second_of_both}
use Rattle.store_items.proofs.ConsistentRows.{found_are_consistent}

module _ (editions : BandTables) (db : Trees) where
  find_so : {A : Type 0} (P : A → Type 0) (p : A → Bool) (xs : List A) → AllByRecursion P xs → IfSome (find p xs) P
  find_so P p [] all = tt
  find_so P p (x ∷ xs) all = elim (by_test (p x)) [ inl is ↦ rw is all.0 | inr not ↦ rw not (find_so P p xs all.1) ]

  sold_is_consistent : (member : ℕ) (found : Option ItemRow) → IfSome found (λ row. (row.item.terms.seller == member) ≡ true → IsConsistentBy editions row.item.terms) → sells found member ≡ true
      → IfSome (option_map (λ (row : ItemRow). row.item.terms) found) (IsConsistentBy editions)
  sold_is_consistent member None report is = tt
  sold_is_consistent member (Some row) report is = report is

  each_passed : {A : Type 0} (P : A → Type 0) (p : A → Bool) (xs : List A) → ((x : A) → p x ≡ true → P x) → AllByRecursion P (filter p xs)
  each_passed P p [] report = tt
  each_passed P p (x ∷ xs) report =
      let rest = each_passed P p xs report in
      elim (by_test (p x)) [ inl is ↦ rw is (report x is, rest) | inr not ↦ rw not rest ]

  pub waiting_are_consistent : (member : ℕ) (own : List Terms) → own ≡ map (λ (row : ItemRow). row.item.terms) (filter (λ row. row.item.terms.seller == member) (items_in db)) → AllByRecursion (IsConsistentBy editions) own
      → AllByRecursion (λ (q : Question). ItemIsConsistent editions db q.item) (waiting_for (tables_in db) member)
  unfolding tables_in
  waiting_are_consistent member own are stand =
      let rows = items_in db in
      let mine : ItemRow → Bool = λ row. row.item.terms.seller == member in
      each_passed (λ (q : Question). ItemIsConsistent editions db q.item) (λ q. not (is_some q.answer) && sells (find (is_item q.item) rows) member) (sorted_questions db)
      (λ q is. sold_is_consistent member (find (is_item q.item) rows) (find_so (λ row. mine row ≡ true → IsConsistentBy editions row.item.terms) (is_item q.item) rows (found_are_consistent editions db mine own are stand))
      (second_of_both (not (is_some q.answer)) (sells (find (is_item q.item) rows) member) is))
