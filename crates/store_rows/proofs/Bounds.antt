-- Lists that begin after every number.
use Rattle.std.proofs.Common.{◌≡◌, ◌<◌, ◌&&◌, ℕ, suc, Bool, true, false, List, [], ◌∷◌, filter, take, refl, sym, ap, ◌∙◌, arith, inl, inr}
use Rattle.std.specs.Prelude.{nat_le, nat_lt, if◌then◌else◌}
use Rattle.std.specs.List.{AllByRecursion}
use Rattle.std.proofs.lemmas.Bool.Decides.{nat_tests}
use Rattle.house_rows.proofs.Put.{by_test}

-- a number of 32 bits from which to read, 2^32 - 1 at most
abbrev pub bound_of : ℕ → ℕ
bound_of from = if nat_lt from 4294967295 then from else 4294967295

module _ {A : Type 0} (p : A → Bool) (number : A → ℕ) (Fits : A → Type 0) (low : (x : A) → Fits x → number x < 4294967295) (from : ℕ) (far : nat_lt from 4294967295 ≡ false) where
  abbrev from_last : List A → List A
  from_last xs = filter (λ x. p x && nat_le 4294967295 (number x)) xs

  abbrev from_there : List A → List A
  from_there xs = filter (λ x. p x && nat_le from (number x)) xs

  still_under : (n : ℕ) → nat_le 4294967295 n ≡ false → nat_le from n ≡ false
  still_under n under = grind (arith, nat_tests)

  never_over : (n : ℕ) → n < 4294967295 → nat_le 4294967295 n ≡ true → ⊥
  never_over n small over = grind (arith, nat_tests)

  -- if what begins at the last number fits, there is none, and so none after it
  both_none : (n : ℕ) (xs : List A) → AllByRecursion Fits (take (suc n) (from_last xs)) → (from_last xs ≡ []) × (from_there xs ≡ [])
  both_none n [] fits = (refl, refl)
  both_none n (x ∷ xs) fits =
      elim (by_test (p x)) [
        | inr other ↦ rw other (both_none n xs (rw other at fits))
        | inl here ↦ elim (by_test (nat_le 4294967295 (number x))) [
          | inl over ↦ absurd (let fit = rw (here, over) at fits in never_over (number x) (low x fit.0) over)
          | inr under ↦ rw (here, under, still_under (number x) under) (both_none n xs (rw (here, under) at fits))
        ]
      ]

-- a list from the bound on is the list from the number on, if it fits
pub from_bound : {A : Type 0} (p : A → Bool) (number : A → ℕ) (Fits : A → Type 0) → ((x : A) → Fits x → number x < 4294967295) → (from : ℕ) (xs : List A)
    → AllByRecursion Fits (take 50 (filter (λ x. p x && nat_le (bound_of from) (number x)) xs))
    → take 50 (filter (λ x. p x && nat_le (bound_of from) (number x)) xs) ≡ take 50 (filter (λ x. p x && nat_le from (number x)) xs)
from_bound p number Fits low from xs =
    elim (by_test (nat_lt from 4294967295)) [
      | inl near ↦ rw near (λ fits. refl)
      | inr far ↦ rw far (λ fits. let none = both_none p number Fits low from far 49 xs fits in ap (take 50) none.0 ∙ sym (ap (take 50) none.1))
    ]
