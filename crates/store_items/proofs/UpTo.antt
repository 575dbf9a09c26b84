-- The rows of a list up to the one with which so many have passed a test.
use Rattle.std.proofs.Common.{◌≡◌, ◌==◌, ◌-◌, ◌<◌, ℕ, Bool, false, cond, List, [], ◌∷◌, map, ap, refl, arith, inl, inr}
use Rattle.std.specs.List.{AllByRecursion}
use Rattle.std.proofs.lemmas.Bool.Decides.{nat_tests}
use Rattle.house_rows.specs.Taken.{up_to}
use Rattle.house_rows.proofs.Put.{by_test}

pub all-up_to : {A : Type 0} (P : A → Type 0) (n : ℕ) (test : A → Bool) (xs : List A) → AllByRecursion P xs → AllByRecursion P (up_to n test xs)
all-up_to P n test [] all = tt
all-up_to P n test (x ∷ xs) all =
    let rest = all-up_to P (cond (test x) (n - 1) n) test xs all.1 in
    elim (by_test (n == 0)) [ inl none ↦ rw none tt | inr some ↦ rw some (all.0, rest) ]

pub up_to-map : {A B : Type 0} (f : A → B) (test : B → Bool) (n : ℕ) (xs : List A) → up_to n test (map f xs) ≡ map f (up_to n (λ x. test (f x)) xs)
up_to-map f test n [] = refl
up_to-map {A} f test n (x ∷ xs) =
    let rest = up_to-map f test (cond (test (f x)) (n - 1) n) xs in
    elim (by_test (n == 0)) [ inl none ↦ rw none refl | inr some ↦ rw some (ap (λ l. f x ∷ l) rest) ]

-- by tests that are one on the rows of the list
pub up_to-same : {A : Type 0} (P : A → Type 0) (p q : A → Bool) → ((x : A) → P x → p x ≡ q x) → (n : ℕ) (xs : List A) → AllByRecursion P xs → up_to n p xs ≡ up_to n q xs
up_to-same P p q same n [] all = refl
up_to-same {A} P p q same n (x ∷ xs) all =
    let rest = up_to-same P p q same (cond (q x) (n - 1) n) xs all.1 in
    rw (same x all.0) (ap (λ l. cond (n == 0) [] (x ∷ l)) rest)

-- while fewer have passed, the next row is among them
pub up_to-more : {A : Type 0} (P : A → Type 0) (n : ℕ) (test : A → Bool) (x : A) (xs : List A) → 0 < n → AllByRecursion P (up_to n test (x ∷ xs)) → P x × AllByRecursion P (up_to (cond (test x) (n - 1) n) test xs)
up_to-more P n test x xs room all =
    let some : (n == 0) ≡ false = grind (arith, nat_tests, room) in
    rw some at all
