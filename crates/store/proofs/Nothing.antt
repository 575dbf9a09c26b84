-- Tests that no row of a list passes.
use Rattle.std.proofs.Common.{◌≡◌, Bool, true, false, cond, ◌&&◌, List, [], ◌∷◌, filter, length, refl, ap, arith}
use Rattle.std.specs.List.{AllByRecursion}

pub first_fails : (a b : Bool) → a ≡ false → a && b ≡ false
first_fails true b is = cc
first_fails false b is = refl

pub second_fails : (a b : Bool) → b ≡ false → a && b ≡ false
second_fails true b is = is
second_fails false b is = refl

module _ {A : Type 0} (p : A → Bool) where
  step : (x : A) (xs : List A) (b : Bool) → p x ≡ b → cond b (x ∷ filter p xs) (filter p xs) ≡ [] → (p x ≡ false) × (filter p xs ≡ [])
  step x xs true is e = absurd (omega (arith, ap length e))
  step x xs false is e = (is, e)

  -- each row fails
  pub each_fails : (xs : List A) → filter p xs ≡ [] → AllByRecursion (λ x. p x ≡ false) xs
  each_fails [] e = tt
  each_fails (x ∷ xs) e = let both = step x xs (p x) refl e in (both.0, each_fails xs both.1)

  pub always_fails : ((x : A) → p x ≡ false) → (xs : List A) → filter p xs ≡ []
  always_fails fails [] = refl
  always_fails fails (x ∷ xs) = rw (fails x) (always_fails fails xs)

  -- nor one of those that another test keeps
  keep : (q : A → Bool) (x : A) (xs : List A) (b : Bool) → p x ≡ false → filter p (filter q xs) ≡ [] → filter p (cond b (x ∷ filter q xs) (filter q xs)) ≡ []
  keep q x xs true fails e = rw fails e
  keep q x xs false fails e = e

  kept_fail : (q : A → Bool) (xs : List A) → AllByRecursion (λ x. p x ≡ false) xs → filter p (filter q xs) ≡ []
  kept_fail q [] all = refl
  kept_fail q (x ∷ xs) all = keep q x xs (q x) all.0 (kept_fail q xs all.1)

  pub none_among : (q : A → Bool) (xs : List A) → filter p xs ≡ [] → filter p (filter q xs) ≡ []
  none_among q xs e = kept_fail q xs (each_fails xs e)
