-- When a list of numbers has one that leads back, and when it has none.
use Rattle.std.proofs.Common.{◌≡◌, ◌≢◌, ℕ, ◌+◌, ◌<◌, ◌≤◌, true, false, ◌||◌, eqb, List, [], ◌∷◌, zero, suc, length, get_or, true≢false, add-one, refl, sym, ap, ◌∙◌, arith, inl, inr}
use Rattle.std.specs.List.{list_any}
use Rattle.std.proofs.lemmas.Bool.{cases_eq, eq-eqb, or_parts, ne_eqb}
use Rattle.std.proofs.lemmas.Grind.{get_or_default_zero}
use Rattle.tree_order.specs.Numbers.{number, AreInverse}

pub too_high : (numbers outer : List ℕ) (tree : ℕ) → tree < length numbers → length numbers ≤ get_or numbers tree 0 → AreInverse numbers outer → ⊥
too_high numbers outer tree low past h = omega (arith, h.low tree low, get_or_default_zero numbers tree tree low)

pub twice : (numbers outer : List ℕ) (s t : ℕ) → s < t → t < length numbers → get_or numbers s 0 ≡ get_or numbers t 0 → AreInverse numbers outer → ⊥
twice numbers outer s t apart low same h =
    let early : s < length numbers = omega arith in
    let numbered : number numbers s ≡ number numbers t = get_or_default_zero numbers s s early ∙ same ∙ sym (get_or_default_zero numbers t t low) in
    let met : s ≡ t = sym (h.back s early) ∙ ap (number outer) numbered ∙ h.back t low in
    omega arith

-- what is found at a number is the place that has it, so one that is not set has no place
pub left_out : (numbers outer set : List ℕ) (n : ℕ) → n < length numbers → ((t : ℕ) → t < length numbers → get_or set (get_or numbers t 0) 0 ≡ t)
    → get_or set n 0 ≡ 4294967295 → AreInverse numbers outer → ⊥
left_out numbers outer set n low met unset h =
    let place : ℕ = number outer n in
    let within : place < length numbers = h.high n low in
    let is : get_or numbers place 0 ≡ n = sym (get_or_default_zero numbers place place within) ∙ h.forth n low in
    let found : get_or set n 0 ≡ place = ap (λ k. get_or set k 0) (sym is) ∙ met place within in
    omega (arith, h.few)

pub inverse_of : (numbers set : List ℕ) → length numbers ≤ 65536 → length set ≡ length numbers
    → ((t : ℕ) → t < length numbers → (get_or numbers t 0 < length numbers) × (get_or set (get_or numbers t 0) 0 ≡ t))
    → ((n : ℕ) → n < length numbers → (get_or set n 0 < length numbers) × (get_or numbers (get_or set n 0) 0 ≡ n)) → AreInverse numbers set
inverse_of numbers set few same met back = record {
  few = few;
  same = same;
  low = λ t low. omega (arith, (met t low).0, get_or_default_zero numbers t t low);
  back = λ t low. leads numbers set (length numbers) t low same refl met;
  high = λ n low. omega (arith, (back n low).0, get_or_default_zero set n n (omega arith));
  forth = λ n low. leads set numbers (length numbers) n low refl same back;
}
  where
    leads : (from to : List ℕ) (count t : ℕ) → t < count → length to ≡ count → length from ≡ count
        → ((t : ℕ) → t < count → (get_or from t 0 < count) × (get_or to (get_or from t 0) 0 ≡ t)) → number to (number from t) ≡ t
    leads from to count t low is_to is_from all =
        let early : t < length from = omega arith in
        let first : number from t ≡ get_or from t 0 = get_or_default_zero from t t early in
        let there : get_or from t 0 < length to = omega (arith, (all t low).0) in
        ap (number to) first ∙ get_or_default_zero to (get_or from t 0) (get_or from t 0) there ∙ (all t low).1

pub any_there : (xs : List ℕ) (u : ℕ) → list_any (λ y. eqb y u) xs ≡ true → (k : ℕ) × (k < length xs) × (get_or xs k 0 ≡ u)
any_there [] u h = absurd (true≢false (sym h))
any_there (x ∷ xs) u h = elim (cases_eq x u) [
  | inl same ↦ (0, omega arith, same)
  | inr other ↦ let later = any_there xs u (ap (λ b. b || list_any (λ y. eqb y u) xs) (sym (unequal x u other)) ∙ h) in (later.0 + 1, omega (arith, later.1), next xs x u later.0 later.2)
]
  where
    unequal : (x u : ℕ) → (x ≡ u → ⊥) → eqb x u ≡ false
    unequal x u other = ne_eqb x u other

    next : (xs : List ℕ) (x u k : ℕ) → get_or xs k 0 ≡ u → get_or (x ∷ xs) (k + 1) 0 ≡ u
    next xs x u k is = ap (λ n. get_or (x ∷ xs) n 0) (add-one k) ∙ is

pub none_there : (xs : List ℕ) (u : ℕ) → list_any (λ y. eqb y u) xs ≡ false → (k : ℕ) → k < length xs → get_or xs k 0 ≢ u
none_there [] u h k low same = absurd (omega arith)
none_there (x ∷ xs) u h zero low same = true≢false (sym (eq-eqb x u same) ∙ (or_parts _ _ h).0)
none_there (x ∷ xs) u h (suc k) low same = none_there xs u (or_parts _ _ h).1 k (omega arith) same
