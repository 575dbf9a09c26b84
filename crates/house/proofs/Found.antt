-- What is found, and rules in two parts.
use Rattle.std.proofs.Common.{◌≡◌, List, [], ◌∷◌, ◌++◌, Bool, true, false, refl, inl, inr, ◌⊎◌, Option, Some, None}
use Rattle.std.specs.Prelude.{find, is_some, Result, Ok, Err, IfOk}
use Rattle.std.specs.List.{list_any}
use Rattle.proxy.specs.Rules.{first_failing}

pub by_test : (b : Bool) → (b ≡ true) ⊎ (b ≡ false)
by_test true = inl refl
by_test false = inr refl

pub some_found : {A : Type 0} (p : A → Bool) (xs : List A) → is_some (find p xs) ≡ list_any p xs
some_found p [] = refl
some_found p (x ∷ xs) = elim (by_test (p x)) [ inl is ↦ rw is refl | inr not ↦ rw not (some_found p xs) ]

-- what the first part answers is the answer
pub first_some : {A : Type 0} (xs ys : List (Bool × A)) (r : A) → first_failing xs ≡ Some r → first_failing (xs ++ ys) ≡ Some r
first_some [] ys r e = let f : None ≡ Some r = e in absurd (nothing r None refl e) where
  nothing : {A : Type 0} (r : A) (o : Option A) → o ≡ None → o ≡ Some r → ⊥
  nothing r o none some = cc
first_some (x ∷ xs) ys r e = elim (by_test x.0) [ inl is ↦ rw is (rw is at e) | inr not ↦ rw not (first_some xs ys r (rw not at e)) ]

-- where it answers nothing, the second part is asked
pub first_none : {A : Type 0} (xs ys : List (Bool × A)) → first_failing xs ≡ None → first_failing (xs ++ ys) ≡ first_failing ys
first_none [] ys e = refl
first_none (x ∷ xs) ys e = elim (by_test x.0) [ inl is ↦ absurd (something x.1 (first_failing (x ∷ xs)) (rw is refl) e) | inr not ↦ rw not (first_none xs ys (rw not at e)) ] where
  something : {A : Type 0} (r : A) (o : Option A) → o ≡ Some r → o ≡ None → ⊥
  something r o some none = cc

-- and its answer is the whole's
pub answer_after : {A E : Type 0} (xs ys : List (Bool × A)) (r : Result (Option A) E) → first_failing xs ≡ None
    → IfOk r (λ v. v ≡ first_failing ys) → IfOk r (λ v. v ≡ first_failing (xs ++ ys))
answer_after xs ys (Ok v) none is = rw (first_none xs ys none) is
answer_after xs ys (Err fault) none is = tt
