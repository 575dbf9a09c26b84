-- Rows that rise in their numbers, found number by number.
use Rattle.std.proofs.Common.{◌≡◌, ◌<◌, ◌^◌, ℕ, Bool, true, false, List, [], ◌∷◌, ◌++◌, map, filter, flat_map, find, option_map, None, refl, ap, sym, ◌∙◌, arith, inl, inr}
use Rattle.std.specs.Prelude.{◌==◌}
use Rattle.std.specs.List.{AllByRecursion, list_any}
use Rattle.std.proofs.lemmas.Bool.Decides.{nat_tests}
use Rattle.sqlite_trees.specs.Tree.{IsAscending}
use Rattle.sqlite_keyed.proofs.ListLemmas.{all_weaker, all_both, all-filter}
use Rattle.house_rows.proofs.Put.{by_test}
use Rattle.store_rows.specs.Joined.{found_of}

module _ {A : Type 0} (number : A → ℕ) where
  -- a number of 64 bits is less than all later ones
  abbrev pub IsBelow : A → A → Type 0
  IsBelow x y = number x < 2 ^ 64 → number x < number y

  abbrev pub IsRisingBy : List A → Type 0
  IsRisingBy = IsAscending IsBelow

  abbrev pub among : List ℕ → A → Bool
  among ns x = list_any (λ n. number x == n) ns

  all_above : (x : A) (xs : List A) → number x < 2 ^ 64 → AllByRecursion (IsBelow x) xs → AllByRecursion (λ y. number x < number y) xs
  all_above x xs low = all_weaker (IsBelow x) (λ y. number x < number y) (λ y below. below low) xs

  not_found : (n : ℕ) (xs : List A) → AllByRecursion (λ y. n < number y) xs → find (λ x. number x == n) xs ≡ None
  not_found n [] above = refl
  not_found n (x ∷ xs) above = let other : (number x == n) ≡ false = grind (arith, nat_tests, above.0) in rw other (not_found n xs above.1)

  same_rest : (n : ℕ) (ns : List ℕ) (xs : List A) → AllByRecursion (λ y. n < number y) xs → filter (among ns) xs ≡ filter (among (n ∷ ns)) xs
  same_rest n ns [] above = refl
  same_rest n ns (x ∷ xs) above =
      let other : (number x == n) ≡ false = grind (arith, nat_tests, above.0) in
      let rest = same_rest n ns xs above.1 in
      rw other (elim (by_test (among ns x)) [ inl is ↦ rw is (ap (λ l. x ∷ l) rest) | inr not ↦ rw not rest ])

  not_among : (m : ℕ) (ns : List ℕ) → AllByRecursion (λ n. m < n) ns → list_any (λ n. m == n) ns ≡ false
  not_among m [] above = refl
  not_among m (n ∷ ns) above = let other : (m == n) ≡ false = grind (arith, nat_tests, above.0) in rw other (not_among m ns above.1)

  some_between : (m k : ℕ) (ns : List ℕ) → AllByRecursion (λ n. m < n) ns → AllByRecursion (λ n. n < 2 ^ 64) ns → list_any (λ n. k == n) ns ≡ true → (m < k) × (k < 2 ^ 64)
  some_between m k [] above low some = absurd (let e : false ≡ true = some in cc)
  some_between m k (n ∷ ns) above low some =
      elim (by_test (k == n)) [
        | inl is ↦ (grind (arith, nat_tests, is, above.0), grind (arith, nat_tests, is, low.0))
        | inr other ↦ some_between m k ns above.1 low.1 (rw other at some)
      ]

  module _ {B : Type 0} (part : A → B) where
    -- the part of the row with a number, if there is one
    abbrev pub found_part : List A → ℕ → List B
    found_part xs n = found_of (option_map part (find (λ x. number x == n) xs))

    one_more : (n : ℕ) (ns : List ℕ) (xs : List A) → n < 2 ^ 64 → AllByRecursion (λ m. n < m) ns → AllByRecursion (λ m. m < 2 ^ 64) ns → IsRisingBy xs
        → found_part xs n ++ map part (filter (among ns) xs) ≡ map part (filter (among (n ∷ ns)) xs)
    one_more n ns [] small above low up = refl
    one_more n ns (x ∷ xs) small above low up =
        elim (by_test (number x == n)) [
          | inl is ↦ (let same : number x ≡ n = grind (arith, nat_tests, is) in
              let none : list_any (λ m. number x == m) ns ≡ false = rw same (not_among n ns above) in
              let later = all_above x xs (rw same small) up.0 in
              let rest = same_rest n ns xs (rw same at later) in
              rw (is, none) (ap (λ l. part x ∷ map part l) rest))
          | inr other ↦ elim (by_test (list_any (λ m. number x == m) ns)) [
            | inl some ↦ (let between = some_between n (number x) ns above low some in
                let later = all_weaker (λ y. number x < number y) (λ y. n < number y) (λ y less. omega (arith, between.0, less)) xs (all_above x xs between.1 up.0) in
                rw (other, some, not_found n xs later) (ap (λ l. part x ∷ map part l) (same_rest n ns xs later)))
            | inr none ↦ rw (other, none) (one_more n ns xs small above low up.1)
          ]
        ]

    none_among : (xs : List A) → filter (among []) xs ≡ []
    none_among [] = refl
    none_among (x ∷ xs) = none_among xs

    -- found number by number, the rows are those of all the numbers
    pub joined : (ns : List ℕ) (xs : List A) → IsAscending (λ m n. m < n) ns → AllByRecursion (λ n. n < 2 ^ 64) ns → IsRisingBy xs
        → flat_map (found_part xs) ns ≡ map part (filter (among ns) xs)
    joined [] xs rise low up = sym (ap (map part) (none_among xs))
    joined (n ∷ ns) xs rise low up = ap (λ l. found_part xs n ++ l) (joined ns xs rise.1 low.1 up) ∙ one_more n ns xs low.0 rise.0 low.1 up

  -- rows that fit rise in their numbers
  pub numbers_rise : (xs : List A) → IsRisingBy xs → AllByRecursion (λ x. number x < 2 ^ 64) xs → IsAscending (λ m n. m < n) (map number xs)
  numbers_rise [] up low = tt
  numbers_rise (x ∷ xs) up low = (every_number xs (all_above x xs low.0 up.0), numbers_rise xs up.1 low.1)
    where
      every_number : (ys : List A) → AllByRecursion (λ y. number x < number y) ys → AllByRecursion (λ n. number x < n) (map number ys)
      every_number = elim [ [] ↦ λ all. tt | y ∷ (ys → more) ↦ λ all. (all.0, more all.1) ]

  -- the first row with a number passes a test where the number is that of a row that passes
  pub first_passes : (p : A → Bool) (i : ℕ) (xs : List A) → IsRisingBy xs → AllByRecursion (λ x. number x < 2 ^ 64) (filter p xs)
      → list_any (λ n. i == n) (map number (filter p xs)) ≡ list_any p (found_of (find (λ x. number x == i) xs))
  first_passes p i [] up low = refl
  first_passes p i (x ∷ xs) up low =
      elim (by_test (p x)) [
        | inl passes ↦ (let small = rw passes at low in
            elim (by_test (number x == i)) [
              | inl is ↦ (let here : (i == number x) ≡ true = grind (arith, nat_tests, is) in rw (passes, is, here) (rw passes refl))
              | inr other ↦ (let there : (i == number x) ≡ false = grind (arith, nat_tests, other) in rw (passes, other, there) (first_passes p i xs up.1 small.1))
            ])
        | inr fails ↦ (let small = rw fails at low in
            elim (by_test (number x == i)) [
              | inl is ↦ rw (fails, is) (rw fails (nowhere is small))
              | inr other ↦ rw (fails, other) (first_passes p i xs up.1 small)
            ])
      ]
    where
      apart : (y : A) → IsBelow x y → number y < 2 ^ 64 → (number x == i) ≡ true → (i == number y) ≡ false
      apart y below small is = elim (by_test (i == number y)) [
        | inl same ↦ (let e : number x ≡ i = grind (arith, nat_tests, is) in let e2 : i ≡ number y = grind (arith, nat_tests, same) in let less = below (omega (arith, e, e2, small)) in absurd (omega (arith, less, e, e2)))
        | inr not ↦ not
      ]

      no_such : (ys : List A) → AllByRecursion (λ y. (i == number y) ≡ false) ys → list_any (λ n. i == n) (map number ys) ≡ false
      no_such = elim [ [] ↦ λ all. refl | y ∷ (ys → more) ↦ λ all. rw all.0 (more all.1) ]

      nowhere : (number x == i) ≡ true → AllByRecursion (λ y. number y < 2 ^ 64) (filter p xs) → list_any (λ n. i == n) (map number (filter p xs)) ≡ false
      nowhere is small = no_such (filter p xs) (all_both (IsBelow x) (λ y. number y < 2 ^ 64) (λ y. (i == number y) ≡ false) (λ y below low'. apart y below low' is) (filter p xs) (all-filter (IsBelow x) p xs up.0) small)

-- where each number that is among some has a property, they all have it
pub each_among : (P : ℕ → Type 0) (numbers : List ℕ) → ((n : ℕ) → list_any (λ m. n == m) numbers ≡ true → P n) → AllByRecursion P numbers
each_among P [] all = tt
each_among P (x ∷ numbers) all =
    let same : (x == x) ≡ true = grind (arith, nat_tests) in (
      all x (rw same refl),
      each_among P numbers (λ n is. all n (elim (by_test (n == x)) [ inl here ↦ rw here refl | inr other ↦ rw other is ])),
    )
