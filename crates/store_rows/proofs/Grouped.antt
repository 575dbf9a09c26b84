-- For a keep: a list item by item is the list over all these items.
use Rattle.std.proofs.Common.{◌≡◌, ◌≤◌, ◌<◌, ℕ, Bool, true, false, ◌&&◌, cond, List, [], ◌∷◌, ◌++◌, filter, flat_map, refl, ap, sym, ◌∙◌, arith, inl, inr}
use Rattle.std.specs.Prelude.{◌==◌}
use Rattle.std.specs.List.{AllByRecursion, list_any}
use Rattle.std.proofs.lemmas.Bool.Decides.{nat_tests}
use Rattle.sqlite_trees.specs.Tree.{IsAscending}
use Rattle.sqlite_keyed.proofs.ListLemmas.{all_weaker}
use Rattle.house_rows.specs.History.{Key, is_less}
use Rattle.house_rows.proofs.Put.{IsInOrder, by_test}

module _ {A : Type 0} (number : A → ℕ) (p : A → Bool) where
  -- the rows of a number, and those of some numbers
  abbrev of_one : ℕ → A → Bool
  of_one n x = (number x == n) && p x

  abbrev among : List ℕ → A → Bool
  among ns x = list_any (λ n. number x == n) ns && p x

  -- no row after a greater number has this one
  none_after : (n : ℕ) (xs : List A) → AllByRecursion (λ x. n < number x) xs → filter (of_one n) xs ≡ []
  none_after n [] above = refl
  none_after n (x ∷ xs) above = let other : (number x == n) ≡ false = grind (arith, nat_tests, above.0) in rw other (none_after n xs above.1)

  not_among : (m : ℕ) (ns : List ℕ) → AllByRecursion (λ n. m < n) ns → list_any (λ n. m == n) ns ≡ false
  not_among m [] above = refl
  not_among m (n ∷ ns) above = let other : (m == n) ≡ false = grind (arith, nat_tests, above.0) in rw other (not_among m ns above.1)

  some_above : (m k : ℕ) (ns : List ℕ) → AllByRecursion (λ n. m < n) ns → list_any (λ n. k == n) ns ≡ true → m < k
  some_above m k [] above some = absurd (let e : false ≡ true = some in cc)
  some_above m k (n ∷ ns) above some =
      elim (by_test (k == n)) [
        | inl is ↦ grind (arith, nat_tests, is, above.0)
        | inr other ↦ some_above m k ns above.1 (rw other at some)
      ]

  -- one number before others
  one_more : (n : ℕ) (ns : List ℕ) (xs : List A) → AllByRecursion (λ m. n < m) ns → IsAscending (λ x y. number x ≤ number y) xs → filter (of_one n) xs ++ filter (among ns) xs ≡ filter (among (n ∷ ns)) xs
  one_more n ns [] above up = refl
  one_more n ns (x ∷ xs) above up =
      let rest = one_more n ns xs above up.1 in
      elim (by_test (number x == n)) [
        | inl is ↦ (let same : number x ≡ n = grind (arith, nat_tests, is) in
            let none : list_any (λ m. number x == m) ns ≡ false = rw same (not_among n ns above) in
            rw (is, none) (elim (by_test (p x)) [ inl passes ↦ rw passes (ap (λ l. x ∷ l) rest) | inr fails ↦ rw fails rest ]))
        | inr other ↦ elim (by_test (list_any (λ m. number x == m) ns)) [
          | inl some ↦ (let low = some_above n (number x) ns above some in
              let gone = none_after n xs (all_weaker (λ y. number x ≤ number y) (λ y. n < number y) (λ y le. omega (arith, low, le)) xs up.0) in
              let alone : filter (among ns) xs ≡ filter (among (n ∷ ns)) xs = rw gone at rest in
              rw (other, some, gone) (ap (λ l. cond (p x) (x ∷ l) l) alone))
          | inr none ↦ rw (other, none) rest
        ]
      ]

  no_number : (xs : List A) → filter (among []) xs ≡ []
  no_number [] = refl
  no_number (x ∷ xs) = no_number xs

  -- number by number, the rows are those of all the numbers
  pub grouped : (ns : List ℕ) (xs : List A) → IsAscending (λ m n. m < n) ns → IsAscending (λ x y. number x ≤ number y) xs → flat_map (λ n. filter (of_one n) xs) ns ≡ filter (among ns) xs
  grouped [] xs rise up = sym (no_number xs)
  grouped (n ∷ ns) xs rise up = ap (λ l. filter (of_one n) xs ++ l) (grouped ns xs rise.1 up) ∙ one_more n ns xs rise.0 up

-- rows in order do not fall in the first number of their keys
pub firsts_rise : {A : Type 0} (key : A → Key) (xs : List A) → IsInOrder key xs → IsAscending (λ x y. (key x).first ≤ (key y).first) xs
firsts_rise key [] order = tt
firsts_rise key (x ∷ xs) order = (all_weaker (λ z. is_less (key z) (key x) ≡ false) (λ y. (key x).first ≤ (key y).first) (λ y after. not_below (key x) (key y) after) xs order.0, firsts_rise key xs order.1)
  where
    not_below : (a b : Key) → is_less b a ≡ false → a.first ≤ b.first
    not_below a b after = grind (arith, nat_tests)
