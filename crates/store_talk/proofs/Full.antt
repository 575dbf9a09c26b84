-- A full list is the same whatever has a number that is none of ours.
use Rattle.std.proofs.Common.{◌≡◌, ◌≤◌, ◌<◌, ◌^◌, ◌&&◌, ℕ, zero, suc, pos, negsuc, Bool, true, false, not, List, [], ◌∷◌, map, filter, take, length, refl, sym, ap, ◌∙◌, arith, inl, inr, true≢false}
use Rattle.std.specs.Prelude.{nat_lt}
use Rattle.std.specs.List.{AllByRecursion}
use Rattle.std.proofs.lemmas.Bool.Decides.{nat_tests}
use Rattle.std.proofs.lemmas.List.{take-append-le}
use Rattle.sqlite_value.specs.declared.value.Value.{Value}
use Rattle.sqlite_value.specs.declared.value.Value.TheVariants.{Null, Int, Real, Text, Blob}
use Rattle.sqlite_value.specs.Order.{Row}
use Rattle.sqlite_trees.specs.Tree.{IsAscending}
use Rattle.sqlite_keyed.proofs.ListLemmas.{all_both, filter-map}
use Rattle.house_rows.specs.History.{Key, is_less}
use Rattle.house_rows.proofs.Put.{IsInOrder, by_test}
use Rattle.store_rows.specs.Rows.{number_in}
use Rattle.store_rows.specs.Sorted.{sorted_by}
use Rattle.store_rows.proofs.Compared.{is_negative}
use Rattle.store_rows.proofs.RowLemmas.{filter_same_on}
use Rattle.store_rows.proofs.Sorting.{filter-sorted}
use Rattle.store_rows.proofs.Tested.{filter_both}
use Rattle.store_items.proofs.After.{parts}

module _ {A : Type 0} (number : A → ℕ) where
  -- the number is one of ours
  abbrev pub is_low : A → Bool
  is_low x = nat_lt (number x) (2 ^ 64)

  abbrev pub Rises : List A → Type 0
  Rises = IsAscending (λ a b. number a ≤ number b)

  so_many : (n : ℕ) (xs : List A) → AllByRecursion (λ x. is_low x ≡ true) (take n xs) → length (take n xs) ≡ n → n ≤ length (filter is_low xs)
  so_many zero xs low full = omega arith
  so_many (suc n) [] low full = absurd (omega (arith, full))
  so_many (suc n) (x ∷ xs) low full = (let more = so_many n xs low.1 (omega (arith, full)) in rw low.0 (omega (arith, more)))

  -- if the first are of ours, they are the first of those that are
  first_low : (n : ℕ) (xs : List A) → Rises xs → n ≤ length (filter is_low xs) → take n xs ≡ take n (filter is_low xs)
  first_low n xs up many = ap (take n) (parts number (2 ^ 64) xs up) ∙ take-append-le n (filter is_low xs) (filter (λ x. not (is_low x)) xs) many

  pub same_first : (n : ℕ) (xs ys : List A) → Rises xs → Rises ys → filter is_low xs ≡ filter is_low ys → AllByRecursion (λ x. is_low x ≡ true) (take n xs) → length (take n xs) ≡ n → take n xs ≡ take n ys
  same_first n xs ys xs_up ys_up same low full =
      let many = so_many n xs low full in
      first_low n xs xs_up many ∙ ap (take n) same ∙ sym (first_low n ys ys_up (rw same at many))

  -- the low ones of the rows that WHERE keeps are those of the typed rows
  pub same_low : (key : A → Key) (inside : Row → A) (test : Row → Bool) (keep : A → Bool) (P : Row → Type 0) → ((r : Row) → P r → (test r && is_low (inside r)) ≡ (keep (inside r) && is_low (inside r)))
      → (table : List Row) → AllByRecursion P table → filter is_low (sorted_by key (map inside (filter test table))) ≡ filter is_low (filter keep (sorted_by key (map inside table)))
  same_low key inside test keep P tests table all =
      let kept : filter is_low (map inside (filter test table)) ≡ filter (λ x. keep x && is_low x) (map inside table) =
      filter-map is_low inside (filter test table) ∙ ap (map inside) (filter_both test (λ r. is_low (inside r)) table ∙ filter_same_on P (λ r. test r && is_low (inside r)) (λ r. keep (inside r) && is_low (inside r)) tests table all)
      ∙ sym (filter-map (λ x. keep x && is_low x) inside table) in
      filter-sorted key is_low (map inside (filter test table)) ∙ ap (sorted_by key) kept ∙ sym (filter-sorted key (λ x. keep x && is_low x) (map inside table)) ∙ sym (filter_both keep is_low (sorted_by key (map inside table)))

-- rows in order with one first number rise in the second
pub seconds_rise : {A : Type 0} (key : A → Key) (first : ℕ) (xs : List A) → AllByRecursion (λ x. (key x).first ≡ first) xs → IsInOrder key xs → IsAscending (λ x y. (key x).second ≤ (key y).second) xs
seconds_rise key first [] same order = tt
seconds_rise key first (x ∷ xs) same order = (
  all_both (λ z. is_less (key z) (key x) ≡ false) (λ z. (key z).first ≡ first) (λ y. (key x).second ≤ (key y).second) (λ y after is. not_below (key x) (key y) (same.0 ∙ sym is) after) xs order.0 same.1,
  seconds_rise key first xs same.1 order.1,
)
  where
    not_below : (a b : Key) → a.first ≡ b.first → is_less b a ≡ false → a.second ≤ b.second
    not_below a b is after = grind (arith, nat_tests)

-- what holds of what passes a test holds of all that is filtered by it
pub kept_all : {A : Type 0} (keep : A → Bool) (P : A → Type 0) → ((x : A) → keep x ≡ true → P x) → (xs : List A) → AllByRecursion P (filter keep xs)
kept_all keep P holds [] = tt
kept_all keep P holds (x ∷ xs) =
    elim (by_test (keep x)) [
      | inl is ↦ rw is (holds x is, kept_all keep P holds xs)
      | inr none ↦ rw none (kept_all keep P holds xs)
    ]

-- ---- the tests

-- what is negative is no number of ours
pub negative_high : (v : Value) → is_negative v ≡ true → nat_lt (number_in v) (2 ^ 64) ≡ false
negative_high Null is = absurd (true≢false (sym is))
negative_high (Int (pos n)) is = absurd (true≢false (sym is))
negative_high (Int (negsuc n)) is = refl
negative_high (Real x) is = absurd (true≢false (sym is))
negative_high (Text t) is = absurd (true≢false (sym is))
negative_high (Blob b) is = absurd (true≢false (sym is))

pub none_both : (a b : Bool) → (a && false) ≡ (b && false)
none_both true true = refl
none_both true false = refl
none_both false true = refl
none_both false false = refl

-- WHERE a column has a number and another is a number or more: of rows with a number of ours there it decides as the numbers do
pub page_low : (here negative over low : Bool) → (negative ≡ true → low ≡ false) → ((here && ((not negative && over) && true)) && low) ≡ ((here && over) && low)
page_low here true over low high = rw (high refl) (none_both (here && ((false && over) && true)) (here && over))
page_low true false true low high = refl
page_low true false false low high = refl
page_low false false over low high = refl

-- ---- how many rows there are

at_most : {X : Type 0} (n : ℕ) (xs : List X) → length (take n xs) ≤ n
at_most zero xs = omega arith
at_most (suc n) [] = omega arith
at_most (suc n) (x ∷ xs) = omega (arith, at_most n xs)

-- first rows that are not fewer than so many are so many
pub so_many_rows : {X : Type 0} (n : ℕ) (rows all : List X) → rows ≡ take n all → nat_lt (length rows) n ≡ false → length rows ≡ n
so_many_rows n rows all are many =
    let few : length rows ≤ n = rw are (at_most n all) in
    grind (arith, nat_tests, few, many)

pub fewer : (m n : ℕ) → nat_lt m n ≡ true → m < n
fewer m n less = grind (arith, nat_tests, less)
