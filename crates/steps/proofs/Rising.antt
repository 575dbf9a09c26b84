-- Over a valid table the least next amount rises with the amount.
use Rattle.std.proofs.Common.{◌≡◌, ℕ, ◌<◌, ◌≤◌, List, [], ◌∷◌, refl, arith, inl, inr}
use Rattle.std.proofs.lemmas.Bool.{cases_lt}
use Rattle.std.proofs.lemmas.Bool.Decides.{nat_tests}
use Rattle.std.specs.List.{AllByRecursion}
use Rattle.steps.specs.Table.{last_or, steps_until, step_at, over, IsBand, RisesFrom, RisesFromZero, IsBandTable}

-- at least the last step so far
from_last : (last : ℕ × ℕ) (bands : List (ℕ × ℕ)) (p s : ℕ) → s ≤ last.1 → RisesFrom last bands → s ≤ last_or s (steps_until bands p)
from_last last [] p s le rises = omega arith
from_last last (b ∷ bands) p s le rises =
    let a = rises.0 in let c = rises.1 in
    grind (arith, nat_tests, from_last b bands p b.1, from_last b bands p s)

none_below : (last : ℕ × ℕ) (bands : List (ℕ × ℕ)) (p : ℕ) → p < last.0 → RisesFrom last bands → steps_until bands p ≡ []
none_below last [] p lt rises = refl
none_below last (b ∷ bands) p lt rises =
    let a = rises.0 in
    let rest : steps_until bands p ≡ [] = none_below b bands p (omega arith) rises.2 in
    grind (arith, nat_tests, rest)

rises_on : (last : ℕ × ℕ) (bands : List (ℕ × ℕ)) (p q s : ℕ) → s ≤ last.1 → p ≤ q → RisesFrom last bands → last_or s (steps_until bands p) ≤ last_or s (steps_until bands q)
rises_on last [] p q s le pq rises = omega arith
rises_on last (b ∷ bands) p q s le pq rises =
    elim (cases_lt p b.0) [
      | inl lt ↦ (let none : steps_until bands p ≡ [] = none_below b bands p lt rises.2 in
          let least : s ≤ last_or s (steps_until (b ∷ bands) q) = from_last last (b ∷ bands) q s le rises in
          grind (arith, nat_tests, none, least))
      | inr on ↦ (let rest : last_or b.1 (steps_until bands p) ≤ last_or b.1 (steps_until bands q) = rises_on b bands p q b.1 (omega arith) pq rises.2 in
          grind (arith, nat_tests, rest))
    ]

rising_steps : (bands : List (ℕ × ℕ)) (p q : ℕ) → RisesFromZero bands → p ≤ q → step_at bands p ≤ step_at bands q
unfolding step_at
rising_steps [] p q rising pq = absurd rising
rising_steps (b ∷ bands) p q rising pq =
    let z = rising.0 in
    let rest : last_or b.1 (steps_until bands p) ≤ last_or b.1 (steps_until bands q) = rises_on b bands p q b.1 (omega arith) pq rising.1 in
    grind (arith, nat_tests, rest)

positive_steps : (bands : List (ℕ × ℕ)) (p : ℕ) → AllByRecursion IsBand bands → RisesFromZero bands → 1 ≤ step_at bands p
unfolding step_at
positive_steps [] p each rising = absurd rising
positive_steps (b ∷ bands) p each rising =
    let z = rising.0 in let one = each.0.1 in
    let rest : b.1 ≤ last_or b.1 (steps_until bands p) = from_last b bands p b.1 (omega arith) rising.1 in
    grind (arith, nat_tests, rest)

small_from : (bands : List (ℕ × ℕ)) (p s : ℕ) → s ≤ 1000000000 → AllByRecursion IsBand bands → last_or s (steps_until bands p) ≤ 1000000000
small_from [] p s le each = le
small_from (b ∷ bands) p s le each =
    let small = each.0.2 in
    grind (arith, nat_tests, small_from bands p s le each.1, small_from bands p b.1 small each.1)

small_steps : (bands : List (ℕ × ℕ)) (p : ℕ) → AllByRecursion IsBand bands → step_at bands p ≤ 1000000000
unfolding step_at
small_steps bands p each = small_from bands p 0 (omega arith) each

-- no step falls
pub step_rises : (bands : List (ℕ × ℕ)) (p q : ℕ) → IsBandTable bands → p ≤ q → step_at bands p ≤ step_at bands q
step_rises bands p q valid pq = rising_steps bands p q valid.rising pq

-- a step is at least 1
pub step_positive : (bands : List (ℕ × ℕ)) (p : ℕ) → IsBandTable bands → 1 ≤ step_at bands p
step_positive bands p valid = positive_steps bands p valid.each valid.rising

-- and at most the limit of amounts
pub step_small : (bands : List (ℕ × ℕ)) (p : ℕ) → IsBandTable bands → step_at bands p ≤ 1000000000
step_small bands p valid = small_steps bands p valid.each

-- the least next amount rises strictly
pub over_rises : (bands : List (ℕ × ℕ)) (p q : ℕ) → IsBandTable bands → p < q → over bands p < over bands q
over_rises bands p q valid lt =
    let le : p ≤ q = omega arith in
    let rises : step_at bands p ≤ step_at bands q = step_rises bands p q valid le in
    omega arith
