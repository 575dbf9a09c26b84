-- The first rows of a list that rises so far are the first in the order of the keys.
use Rattle.std.proofs.Common.{◌≡◌, ℕ, zero, suc, List, [], ◌∷◌, ◌++◌, filter, take, Bool, true, false, not, refl, ap, subst, ◌∙◌, arith, inl, inr, IsPermutation}
use Rattle.std.specs.List.{AllByRecursion}
use Rattle.std.proofs.lemmas.Bool.Decides.{nat_tests}
use Rattle.std.proofs.lemmas.List.Elements.{recursion_from_All, All-from_recursion}
use Rattle.std.proofs.lemmas.List.Sorted.{length_permutation, All-permutation}
use Rattle.sqlite_keyed.proofs.ListLemmas.{all-filter, all_weaker, filter_all, filter_none, IsPermutation-filter}
use Rattle.house_rows.specs.History.{Key, is_less}
use Rattle.house_rows.proofs.Put.{IsInOrder, by_test}

after_both : (x y z : Key) → is_less x y ≡ true → is_less z y ≡ false → is_less x z ≡ true
after_both x y z xy zy = grind (arith, nat_tests)

not_itself : (x : Key) → is_less x x ≡ false
not_itself x = grind (arith, nat_tests)

one : {X : Type 0} (x : X) (ys : List X) → IsPermutation (x ∷ []) ys → ys ≡ x ∷ []
one x [] same = absurd (omega (arith, length_permutation _ _ same))
one x (y ∷ []) same = ap (λ z. z ∷ []) (recursion_from_All (λ z. z ≡ x) (y ∷ []) (All-permutation (λ z. z ≡ x) (x ∷ []) (y ∷ []) same (All-from_recursion (λ z. z ≡ x) (x ∷ []) (refl, tt)))).0
one x (y ∷ z ∷ ys) same = absurd (omega (arith, length_permutation _ _ same))

module _ {A : Type 0} (key : A → Key) where
  -- each of the first n is less than all after it
  abbrev pub Leads : ℕ → List A → Type 0
  Leads zero xs = Unit {0}
  Leads (suc n) [] = Unit {0}
  Leads (suc n) (x ∷ xs) = AllByRecursion (λ y. is_less (key x) (key y) ≡ true) xs × Leads n xs

  abbrev is_over : A → A → Bool
  is_over x z = is_less (key x) (key z)

  -- rows in order are those that are not over x, and then those that are
  split : (x : A) (ys : List A) → IsInOrder key ys → ys ≡ filter (λ z. not (is_over x z)) ys ++ filter (is_over x) ys
  split x [] order = refl
  split x (y ∷ ys) order =
      elim (by_test (is_over x y)) [
        | inl over ↦ (let all = all_weaker (λ z. is_less (key z) (key y) ≡ false) (λ z. is_over x z ≡ true) (λ z h. after_both (key x) (key y) (key z) over h) ys order.0 in
            rw (over, filter_none (λ z. not (is_over x z)) ys (all_weaker (λ z. is_over x z ≡ true) (λ z. not (is_over x z) ≡ false) (λ z h. ap not h) ys all), filter_all (is_over x) ys all) refl)
        | inr not_over ↦ rw not_over (ap (λ l. y ∷ l) (split x ys order.1))
      ]

  filter_in_order : (p : A → Bool) (ys : List A) → IsInOrder key ys → IsInOrder key (filter p ys)
  filter_in_order p [] order = tt
  filter_in_order p (y ∷ ys) order =
      elim (by_test (p y)) [
        | inl is ↦ rw is (all-filter (λ z. is_less (key z) (key y) ≡ false) p ys order.0, filter_in_order p ys order.1)
        | inr is_not ↦ rw is_not (filter_in_order p ys order.1)
      ]

  pub first_in_order : (n : ℕ) (xs ys : List A) → Leads n xs → IsPermutation xs ys → IsInOrder key ys → take n ys ≡ take n xs
  first_in_order zero xs ys leads same order = refl
  first_in_order (suc n) [] [] leads same order = refl
  first_in_order (suc n) [] (y ∷ ys) leads same order = absurd (omega (arith, length_permutation _ _ same))
  first_in_order (suc n) (x ∷ xs) ys leads same order =
      let here : is_over x x ≡ false = not_itself (key x) in
      let first : filter (λ z. not (is_over x z)) (x ∷ xs) ≡ x ∷ [] =
      rw (here, filter_none (λ z. not (is_over x z)) xs (all_weaker (λ z. is_over x z ≡ true) (λ z. not (is_over x z) ≡ false) (λ z h. ap not h) xs leads.0)) refl in
      let later : filter (is_over x) (x ∷ xs) ≡ xs = rw (here, filter_all (is_over x) xs leads.0) refl in
      let head = one x _ (subst (λ l. IsPermutation l (filter (λ z. not (is_over x z)) ys)) first (IsPermutation-filter (λ z. not (is_over x z)) (x ∷ xs) ys same)) in
      let rest = subst (λ l. IsPermutation l (filter (is_over x) ys)) later (IsPermutation-filter (is_over x) (x ∷ xs) ys same) in
      let parts : ys ≡ x ∷ filter (is_over x) ys = split x ys order ∙ ap (λ l. l ++ filter (is_over x) ys) head in
      ap (take (suc n)) parts ∙ ap (λ l. x ∷ l) (first_in_order n xs (filter (is_over x) ys) leads.1 rest (filter_in_order (is_over x) ys order))
