-- What an answer in the order of the keys is.
use Rattle.std.proofs.Common.{◌≡◌, ◌<◌, ℕ, arith, List, [], ◌∷◌, map, filter, Bool, true, refl, sym, ap, subst, ◌∙◌, IsPermutation, Less}
use Rattle.std.specs.List.{AllByRecursion, AllPairs}
use Rattle.std.proofs.lemmas.List.{map-id}
use Rattle.std.proofs.lemmas.List.Kept.{AllPairs-cons}
use Rattle.std.proofs.lemmas.List.Elements.{recursion_from_All, All-from_recursion}
use Rattle.std.proofs.lemmas.List.Sorted.{All-permutation, IsPermutation-map, IsPermutation-sym, IsPermutation-trans}
use Rattle.sqlite_value.specs.declared.keys.Key.{Key as Sorting}
use Rattle.sqlite_value.specs.Order.{Row}
use Rattle.sqlite_sql.specs.Term.{Term, eval_all}
use Rattle.sqlite_sql.specs.Query.{Output, output_cmp}
use Rattle.sqlite_sql.proofs.QueryLemmas.{output_cmp_total}
use Rattle.sqlite_trees.specs.Tree.{IsAscending}
use Rattle.sqlite_keyed.proofs.ListLemmas.{all_both, all_map, all_unmap, all_weaker, ascending-map, filter-map, map-map, map_same}
use Rattle.sqlite_keyed.proofs.SortLemmas.{sorted_unique}
use Rattle.house_rows.specs.History.{Key, is_less}
use Rattle.list_rows.specs.Blocks.{IsRising}
use Rattle.store_rows.specs.Plain.{plain_query, passes, shown_by}
use Rattle.store_rows.proofs.RowLemmas.{filter_same_on}
use Rattle.store_rows.proofs.Select.{IsListOf}
use Rattle.store_rows.specs.Sorted.{sorted_by}
use Rattle.store_rows.proofs.Sorting.{AreApart, filter-sorted, map-sorted, sorted_moves, sorted_rising}

pub moved : {X : Type 0} (P : X → Type 0) (xs ys : List X) → IsPermutation xs ys → AllByRecursion P xs → AllByRecursion P ys
moved P xs ys same all = recursion_from_All P ys (All-permutation P xs ys same (All-from_recursion P xs all))

-- what every sorted row is, every row is
pub every_stored : {X : Type 0} (key : X → Key) (P : X → Type 0) (xs : List X) → AllByRecursion P (sorted_by key xs) → AllByRecursion P xs
every_stored key P xs all = moved P (sorted_by key xs) xs (sorted_moves key xs) all

-- and what every row is, every sorted row is
pub every_sorted : {X : Type 0} (key : X → Key) (P : X → Type 0) (xs : List X) → AllByRecursion P xs → AllByRecursion P (sorted_by key xs)
every_sorted key P xs all = moved P xs (sorted_by key xs) (IsPermutation-sym (sorted_by key xs) xs (sorted_moves key xs)) all

-- rows that rise rise by another order too
rising_up : {X : Type 0} (key : X → Key) (P : X → Type 0) (S : X → X → Type 0) → ((a b : X) → P a → P b → is_less (key a) (key b) ≡ true → S a b) → (xs : List X) → AllByRecursion P xs → IsRising key xs → IsAscending S xs
rising_up key P S f [] all up = tt
rising_up key P S f (x ∷ xs) all up = (all_both P (λ y. is_less (key x) (key y) ≡ true) (S x) (λ y there less. f x y all.0 there less) xs all.1 up.0, rising_up key P S f xs all.1 up.1)

-- numbers that rise with the elements, pair by pair
pairs_rise : {X : Type 0} (number : X → ℕ) (xs : List X) → IsAscending (λ a b. number a < number b) xs → AllPairs (λ m n. m < n) (map number xs)
pairs_rise number [] up = λ i j d before within. absurd (omega (arith, within))
pairs_rise number (x ∷ xs) up =
    AllPairs-cons (λ m n. m < n) (number x) (map number xs) (All-from_recursion (λ n. number x < n) (map number xs) (all_map (λ n. number x < n) number xs up.0)) (pairs_rise number xs up.1)

-- a row, as an answer sorts and shows it
abbrev pub output_row : List Term → List (Term × Sorting) → Row → Row → Output
output_row project order params r = (eval_all (map (λ k. k.0) order) (params ∷ r ∷ []), shown_by project params r)

-- an order of ORDER BY rises with the keys
abbrev pub RisesBy : {T : Type 0} → (T → Key) → (Row → T) → List Term → List Term → List (Term × Sorting) → Row → (Row → Type 0) → Type 0
RisesBy key inside test project order params Fits =
    (r s : Row) → Fits r → Fits s → is_less (key (inside r)) (key (inside s)) ≡ true → output_cmp (plain_query 0 test project order) (output_row project order params r) (output_row project order params s) ≡ Less

module _ (test project : List Term) (order : List (Term × Sorting)) (params : Row) (table rows : List Row) (a : IsListOf table test project order params rows) where
  abbrev kept : List Row
  kept = filter (passes test params) table

  abbrev show : Row → Output
  show = output_row project order params

  module _ {U : Type 0} (decode part : Row → U) (reads : (r : Row) → decode (shown_by project params r) ≡ part r) (Fits : U → Type 0) where
    -- what holds of all that is shown holds of all that is kept, and back
    pub kept_fits : AllByRecursion Fits (map decode rows) → AllByRecursion (λ r. Fits (part r)) kept
    kept_fits all =
        let P = λ (o : Output). Fits (decode o.1) in
        let ordered = all_unmap (λ r. Fits (decode r)) (λ (o : Output). o.1) a.ordered (all_unmap Fits decode _ (subst (λ l. AllByRecursion Fits (map decode l)) a.shown all)) in
        all_weaker (λ r. P (show r)) (λ r. Fits (part r)) (λ r h. subst Fits (reads r) h) kept (all_unmap P show kept (moved P a.ordered (map show kept) (IsPermutation-sym _ _ a.same) ordered))

    pub shown_fits : AllByRecursion (λ r. Fits (part r)) kept → AllByRecursion Fits (map decode rows)
    shown_fits all =
        let P = λ (o : Output). Fits (decode o.1) in
        let ordered = moved P (map show kept) a.ordered a.same (all_map P show kept (all_weaker (λ r. Fits (part r)) (λ r. P (show r)) (λ r h. subst Fits (sym (reads r)) h) kept all)) in
        subst (λ l. AllByRecursion Fits (map decode l)) (sym a.shown) (all_map Fits decode _ (all_map (λ r. Fits (decode r)) (λ (o : Output). o.1) a.ordered ordered))

  module _ {T : Type 0} (key : T → Key) (inside : Row → T) where
    -- an answer with keys apart has what is kept, in the order of the keys
    in_key_order : (Fits : Row → Type 0) → RisesBy key inside test project order params Fits
        → AllByRecursion Fits kept → AreApart (λ r. key (inside r)) kept → rows ≡ map (shown_by project params) (sorted_by (λ r. key (inside r)) kept)
    in_key_order Fits rises fits apart =
        let at = λ (r : Row). key (inside r) in
        let cmp = output_cmp (plain_query 0 test project order) in
        let sorted = sorted_by at kept in
        let all = moved Fits kept sorted (IsPermutation-sym _ _ (sorted_moves at kept)) fits in
        let up = ascending-map (λ x y. cmp x y ≡ Less) show sorted (rising_up at Fits (λ r s. cmp (show r) (show s) ≡ Less) rises sorted all (sorted_rising at kept apart)) in
        let same = sorted_unique cmp (output_cmp_total (plain_query 0 test project order)) (map show sorted) a.ordered up (IsPermutation-trans _ _ _ (IsPermutation-map show sorted kept (sorted_moves at kept)) a.same) a.sorted in
        a.shown ∙ ap (map (λ (o : Output). o.1)) same ∙ map-map (λ (o : Output). o.1) show sorted

    -- so a part of each comes in that order
    pub parts_in_order : {U : Type 0} (decode part : Row → U) (Fits : Row → Type 0) → ((r : Row) → decode (shown_by project params r) ≡ part r) → RisesBy key inside test project order params Fits
        → AllByRecursion Fits kept → AreApart (λ r. key (inside r)) kept → map decode rows ≡ map part (sorted_by (λ r. key (inside r)) kept)
    parts_in_order decode part Fits reads rises fits apart =
        ap (map decode) (in_key_order Fits rises fits apart) ∙ map-map decode (shown_by project params) _ ∙ map_same _ part reads _

    -- and a number of each that rises with the key rises
    pub numbers_rise : (number : Row → ℕ) (P : Row → Type 0) → ((r s : Row) → P r → P s → is_less (key (inside r)) (key (inside s)) ≡ true → number r < number s)
        → AllByRecursion P kept → AreApart (λ r. key (inside r)) kept → AllPairs (λ m n. m < n) (map number (sorted_by (λ r. key (inside r)) kept))
    numbers_rise number P rises all apart =
        let at = λ (r : Row). key (inside r) in
        let sorted = sorted_by at kept in
        pairs_rise number sorted (rising_up at P (λ r s. number r < number s) rises sorted (moved P kept sorted (IsPermutation-sym _ _ (sorted_moves at kept)) all) (sorted_rising at kept apart))

    -- as parts of the typed rows
    pub parts_by_key : {U : Type 0} (decode : Row → U) (part : T → U) (keep : T → Bool) (P Fits : Row → Type 0) → ((r : Row) → decode (shown_by project params r) ≡ part (inside r))
        → ((r : Row) → P r → passes test params r ≡ keep (inside r)) → AllByRecursion P table
        → RisesBy key inside test project order params Fits
        → AllByRecursion Fits kept → AreApart (λ r. key (inside r)) kept → map decode rows ≡ map part (filter keep (sorted_by key (map inside table)))
    parts_by_key decode part keep P Fits reads tests all rises fits apart =
        let at = λ (r : Row). key (inside r) in
        let typed = ap (map inside) (filter_same_on P (passes test params) (λ r. keep (inside r)) tests table all) ∙ sym (filter-map keep inside table) in
        parts_in_order decode (λ r. part (inside r)) Fits reads rises fits apart ∙ sym (map-map part inside _)
        ∙ ap (map part) (map-sorted at key inside (λ r. refl) kept ∙ ap (sorted_by key) typed ∙ sym (filter-sorted key keep (map inside table)))

    -- and as whole typed rows
    pub rows_by_key : (decode : Row → T) (keep : T → Bool) (P Fits : Row → Type 0) → ((r : Row) → decode (shown_by project params r) ≡ inside r)
        → ((r : Row) → P r → passes test params r ≡ keep (inside r)) → AllByRecursion P table
        → RisesBy key inside test project order params Fits
        → AllByRecursion Fits kept → AreApart (λ r. key (inside r)) kept → map decode rows ≡ filter keep (sorted_by key (map inside table))
    rows_by_key decode keep P Fits reads tests all rises fits apart = parts_by_key decode (λ t. t) keep P Fits reads tests all rises fits apart ∙ map-id _
