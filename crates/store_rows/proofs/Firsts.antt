-- What the first rows of an answer in the order of the keys are, and what it is to show none.
use Rattle.std.proofs.Common.{◌≡◌, ℕ, zero, suc, List, [], ◌∷◌, map, filter, take, length, Bool, true, false, refl, sym, ap, subst, subst₂, ◌∙◌, arith, IsPermutation, Less, is_eq, inl, inr}
use Rattle.std.specs.List.{AllByRecursion}
use Rattle.std.proofs.lemmas.List.{length-map, take-map}
use Rattle.std.proofs.lemmas.List.Sorted.{length_permutation, IsPermutation-map, IsPermutation-sym, IsPermutation-trans}
use Rattle.sqlite_value.specs.declared.keys.Key.{Key as Sorting}
use Rattle.sqlite_value.specs.Order.{Row}
use Rattle.sqlite_sql.specs.Term.{Term}
use Rattle.sqlite_sql.specs.Query.{Output, output_cmp}
use Rattle.sqlite_sql.proofs.QueryLemmas.{output_cmp_total}
use Rattle.sqlite_trees.specs.Tree.{IsAscending}
use Rattle.sqlite_keyed.proofs.ListLemmas.{all-filter, all_both, all_map, all_unmap, all_weaker, ascending-map, filter-map, filter_none, map-map, map_same}
use Rattle.house_rows.specs.History.{Key, is_less}
use Rattle.house_rows.proofs.Put.{by_test}
use Rattle.store_rows.specs.Plain.{plain_query, passes, shown_by}
use Rattle.store_rows.proofs.RowLemmas.{filter_same_on}
use Rattle.store_rows.proofs.Select.{IsListOf}
use Rattle.store_rows.specs.Sorted.{sorted_by}
use Rattle.store_rows.proofs.Shown.{output_row, shown_fits, moved}
use Rattle.store_rows.proofs.Sorting.{filter-sorted, sorted_in_order, sorted_moves}
use Rattle.store_rows.proofs.Tested.{all-take}
use Rattle.store_rows.proofs.FirstSorted.{Leads, first_in_order}
use Rattle.store_rows.proofs.NoTies.{rises_strictly}

none_kept : {X : Type 0} (p : X → Bool) (xs : List X) → length (filter p xs) ≡ 0 → AllByRecursion (λ x. p x ≡ false) xs
none_kept p [] none = tt
none_kept p (x ∷ xs) none =
    elim (by_test (p x)) [
      | inl is ↦ absurd (let some = rw is at none in omega (arith, some))
      | inr is_not ↦ (is_not, none_kept p xs (rw is_not at none))
    ]

module _ (test project : List Term) (order : List (Term × Sorting)) (params : Row) (table all : List Row) (a : IsListOf table test project order params all) where
  abbrev kept : List Row
  kept = filter (passes test params) table

  abbrev show : Row → Output
  show = output_row project order params

  -- an answer has a row for each that WHERE keeps
  pub as_many : length all ≡ length kept
  as_many = ap length a.shown ∙ length-map a.ordered (λ (o : Output). o.1) ∙ length_permutation (map show kept) a.ordered a.same ∙ length-map kept show

  -- where nothing is shown, no row passes WHERE
  pub none_passes : all ≡ [] → AllByRecursion (λ r. passes test params r ≡ false) table
  none_passes none = none_kept (passes test params) table (sym as_many ∙ ap length none)

  pub some_passes : (row : Row) (rows : List Row) → all ≡ row ∷ rows → AllByRecursion (λ r. passes test params r ≡ false) table → ⊥
  some_passes row rows some none = absurd (let e = sym as_many ∙ ap length some in let no_row = filter_none (passes test params) table none in omega (arith, rw no_row at e))

  module _ {T : Type 0} (key : T → Key) (report inside : Row → T) (reads : (r : Row) → report (shown_by project params r) ≡ inside r) (Fits : T → Type 0) (Is : Row → Type 0)
      (apart : IsAscending (λ r s. is_eq (output_cmp (plain_query 0 test project order) (show r) (show s)) ≡ false) kept) (are : AllByRecursion Is kept)
      (rises : (r s : Row) → Is r → Is s → Fits (inside r) → output_cmp (plain_query 0 test project order) (show r) (show s) ≡ Less → is_less (key (inside r)) (key (inside s)) ≡ true) where
    abbrev IsShown : Output → Type 0
    IsShown o = (r : Row) × Is r × (o ≡ show r)

    abbrev report_of : Output → T
    report_of o = report o.1

    over : (o p : Output) → IsShown o → IsShown p → Fits (report_of o) → output_cmp (plain_query 0 test project order) o p ≡ Less → is_less (key (report_of o)) (key (report_of p)) ≡ true
    over o p here there fits less =
        let first : report_of o ≡ inside here.0 = ap report_of here.2 ∙ reads here.0 in
        let second : report_of p ≡ inside there.0 = ap report_of there.2 ∙ reads there.0 in
        let rising = rises here.0 there.0 here.1 there.1 (subst Fits first fits) (subst₂ (λ x y. output_cmp (plain_query 0 test project order) x y ≡ Less) here.2 there.2 less) in
        subst₂ (λ x y. is_less (key x) (key y) ≡ true) (sym first) (sym second) rising

    lead : (n : ℕ) (os : List Output) → IsAscending (λ o p. output_cmp (plain_query 0 test project order) o p ≡ Less) os → AllByRecursion IsShown os → AllByRecursion (λ o. Fits (report_of o)) (take n os)
        → Leads key n (map report_of os)
    lead zero os up shown fits = tt
    lead (suc n) [] up shown fits = tt
    lead (suc n) (o ∷ os) up shown fits = (
      all_map (λ t. is_less (key (report_of o)) (key t) ≡ true) report_of os
          (all_both (λ p. output_cmp (plain_query 0 test project order) o p ≡ Less) IsShown (λ p. is_less (key (report_of o)) (key (report_of p)) ≡ true) (λ p less there. over o p shown.0 there fits.0 less) os up.0 shown.1),
      lead n os up.1 shown.1 fits.1,
    )

    -- the first rows, if they fit, are the first of those that WHERE keeps, in the order of their keys
    pub first_kept : (n : ℕ) → AllByRecursion Fits (map report (take n all)) → map report (take n all) ≡ take n (sorted_by key (map inside kept))
    first_kept n fits =
        let as_ordered : map report all ≡ map report_of a.ordered = ap (map report) a.shown ∙ map-map report (λ (o : Output). o.1) a.ordered in
        let typed : map report (take n all) ≡ take n (map report_of a.ordered) = sym (take-map report n all) ∙ ap (take n) as_ordered in
        let strict = rises_strictly (output_cmp (plain_query 0 test project order)) (output_cmp_total (plain_query 0 test project order)) (map show kept) a.ordered
        (ascending-map (λ x y. is_eq (output_cmp (plain_query 0 test project order) x y) ≡ false) show kept apart) a.same a.sorted in
        let shown = moved IsShown (map show kept) a.ordered a.same (all_map IsShown show kept (all_weaker Is (λ r. IsShown (show r)) (λ r is. (r, is, refl)) kept are)) in
        let fit = all_unmap Fits report_of (take n a.ordered) (subst (AllByRecursion Fits) (typed ∙ take-map report_of n a.ordered) fits) in
        let back : map report_of (map show kept) ≡ map inside kept = map-map report_of show kept ∙ map_same (λ r. report_of (show r)) inside reads kept in
        let same = IsPermutation-trans (map report_of a.ordered) (map inside kept) (sorted_by key (map inside kept))
        (subst (IsPermutation (map report_of a.ordered)) back (IsPermutation-map report_of a.ordered (map show kept) (IsPermutation-sym (map show kept) a.ordered a.same)))
        (IsPermutation-sym (sorted_by key (map inside kept)) (map inside kept) (sorted_moves key (map inside kept))) in
        typed ∙ sym (first_in_order key n (map report_of a.ordered) (sorted_by key (map inside kept)) (lead n a.ordered strict shown fit) same (sorted_in_order key (map inside kept)))

    -- as typed rows
    pub first_by_key : (keep : T → Bool) (P : Row → Type 0) → ((r : Row) → P r → passes test params r ≡ keep (inside r)) → AllByRecursion P table
        → (n : ℕ) → AllByRecursion Fits (map report (take n all)) → map report (take n all) ≡ take n (filter keep (sorted_by key (map inside table)))
    first_by_key keep P tests all_p n fits =
        let typed = ap (map inside) (filter_same_on P (passes test params) (λ r. keep (inside r)) tests table all_p) ∙ sym (filter-map keep inside table) in
        first_kept n fits ∙ ap (take n) (ap (sorted_by key) typed ∙ sym (filter-sorted key keep (map inside table)))

-- where the whole table fits, so do the first rows
pub first_fit : (test project : List Term) (order : List (Term × Sorting)) (params : Row) (table all : List Row) → IsListOf table test project order params all
    → {T : Type 0} (report inside : Row → T) → ((r : Row) → report (shown_by project params r) ≡ inside r) → (Fits : T → Type 0) → AllByRecursion (λ r. Fits (inside r)) table
    → (n : ℕ) → AllByRecursion Fits (map report (take n all))
first_fit test project order params table all a report inside reads Fits fits n =
    subst (AllByRecursion Fits) (take-map report n all)
    (all-take Fits n (map report all) (shown_fits test project order params table all a report inside reads Fits (all-filter (λ r. Fits (inside r)) (passes test params) table fits)))
