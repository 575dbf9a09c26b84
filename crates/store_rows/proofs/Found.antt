-- How many rows an answer has.
use Rattle.std.proofs.Common.{◌≡◌, ◌==◌, ℕ, suc, arith, List, [], ◌∷◌, length, map, filter, find, Bool, true, not, refl, sym, ap, ◌∙◌, inl, inr}
use Rattle.std.specs.Prelude.{is_some}
use Rattle.std.specs.List.{AllByRecursion, list_any}
use Rattle.std.proofs.lemmas.Bool.Decides.{nat_tests}
use Rattle.std.proofs.lemmas.List.{length-map}
use Rattle.std.proofs.lemmas.List.Sorted.{length_permutation}
use Rattle.sqlite_value.specs.declared.keys.Key.{Key as Sorting}
use Rattle.sqlite_value.specs.Order.{Row}
use Rattle.sqlite_sql.specs.Term.{Term}
use Rattle.sqlite_keyed.proofs.ListLemmas.{filter-map}
use Rattle.house_rows.specs.History.{Key, counted}
use Rattle.house_rows.proofs.Put.{by_test}
use Rattle.store_rows.specs.Plain.{passes}
use Rattle.store_rows.proofs.RowLemmas.{filter_same_on}
use Rattle.store_rows.proofs.Select.{IsListOf}
use Rattle.store_rows.specs.Sorted.{sorted_by}
use Rattle.store_rows.proofs.Sorting.{count-sorted}

module _ (test project : List Term) (order : List (Term × Sorting)) (params : Row) (table rows : List Row) (a : IsListOf table test project order params rows) where
  -- as many as pass WHERE
  as_many : length rows ≡ length (filter (passes test params) table)
  as_many = ap length a.shown ∙ length-map a.ordered _ ∙ length_permutation _ _ a.same ∙ length-map (filter (passes test params) table) _

  -- which are those of the typed rows that pass a test
  pub rows_kept : {T : Type 0} (inside : Row → T) (keep : T → Bool) (P : Row → Type 0) → ((r : Row) → P r → passes test params r ≡ keep (inside r)) → AllByRecursion P table
      → length rows ≡ counted keep (map inside table)
  rows_kept inside keep P tests all =
      as_many ∙ ap length (filter_same_on P (passes test params) (λ r. keep (inside r)) tests table all) ∙ sym (length-map _ inside) ∙ ap length (sym (filter-map keep inside table))

  -- also in the order of their keys
  pub rows_counted : {T : Type 0} (key : T → Key) (inside : Row → T) (keep : T → Bool) (P : Row → Type 0) → ((r : Row) → P r → passes test params r ≡ keep (inside r)) → AllByRecursion P table
      → length rows ≡ counted keep (sorted_by key (map inside table))
  rows_counted key inside keep P tests all = rows_kept inside keep P tests all ∙ sym (count-sorted key keep (map inside table))

more_than_none : (n : ℕ) → not (suc n == 0) ≡ true
more_than_none n = grind (arith, nat_tests)

-- some are counted where one passes
pub some_counted : {A : Type 0} (keep : A → Bool) (xs : List A) → not (counted keep xs == 0) ≡ list_any keep xs
some_counted keep [] = refl
some_counted keep (x ∷ xs) =
    elim (by_test (keep x)) [
      | inl is ↦ rw is (more_than_none (length (filter keep xs)))
      | inr other ↦ rw other (some_counted keep xs)
    ]

-- and one is found
pub some_found : {A : Type 0} (keep : A → Bool) (xs : List A) → not (counted keep xs == 0) ≡ is_some (find keep xs)
some_found keep [] = refl
some_found keep (x ∷ xs) =
    elim (by_test (keep x)) [
      | inl is ↦ rw is (more_than_none (length (filter keep xs)))
      | inr other ↦ rw other (some_found keep xs)
    ]
