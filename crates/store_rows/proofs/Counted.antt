-- Counts of what passes a test.
use Rattle.std.proofs.Common.{◌≤◌, ℕ, not, Bool, List, [], ◌∷◌, length, arith, inl, inr}
use Rattle.house_rows.specs.History.{counted}
use Rattle.house_rows.proofs.Put.{by_test}

-- no more pass than there are
pub counted_few : {A : Type 0} (p : A → Bool) (xs : List A) → counted p xs ≤ length xs
counted_few p [] = omega arith
counted_few p (x ∷ xs) =
    let few = counted_few p xs in
    elim (by_test (p x)) [ inl is ↦ rw is (omega (arith, few)) | inr not ↦ rw not (omega (arith, few)) ]
