-- Rows with numbers in turn: the row of a number is at its place, and a rising list of numbers that
-- has every row that passes a test gives those rows in order.
use Rattle.std.proofs.Common.{◌≡◌, ◌≢◌, ℕ, suc, zero, ◌+◌, ◌≤◌, ◌<◌, List, [], ◌∷◌, filter, Bool, true, false, refl, ◌∙◌, ap, arith, inl, inr, None}
use Rattle.std.specs.Prelude.{◌==◌, find, slice_get, nat_lt}
use Rattle.std.proofs.lemmas.Bool.Decides.{nat_tests}
use Rattle.house_rows.specs.Keeping.{AreInTurn}
use Rattle.house_rows.proofs.Put.{by_test}
use Rattle.list_items.specs.Rising.{HasAll, IsRisingFrom, is_among, rows_at}

-- whether a row has a number
abbrev has_number : {A : Type 0} → (A → ℕ) → ℕ → A → Bool
has_number number k row = number row == k

pub same_number : (a b : ℕ) → (a == b) ≡ true → a ≡ b
same_number a b is = grind (arith, nat_tests, is)

pub other_number : (a b : ℕ) → a ≢ b → (a == b) ≡ false
other_number a b apart = grind (arith, nat_tests, apart)

pub is_number : (a b : ℕ) → a ≡ b → (a == b) ≡ true
is_number a b same = grind (arith, nat_tests, same)

skipped : {A : Type 0} (p : A → Bool) (x : A) (xs : List A) → p x ≡ false → find p (x ∷ xs) ≡ find p xs
skipped p x xs not = rw not refl

-- no row has a number below the first
pub none_below : {A : Type 0} (number : A → ℕ) (next : ℕ) (rows : List A) (k : ℕ) → AreInTurn number next rows → k < next → find (has_number number k) rows ≡ None
none_below number next [] k are lt = refl
none_below number next (x ∷ xs) k are lt =
    let first : number x ≡ next = are.0 in
    let apart : (number x == k) ≡ false = other_number (number x) k (let ne : number x ≢ k = omega arith in ne) in
    rw apart (none_below number (next + 1) xs k are.1 (omega arith))

-- the row of a number is at its place
pub found_at : {A : Type 0} (number : A → ℕ) (next : ℕ) (rows : List A) (place : ℕ) → AreInTurn number next rows → find (has_number number (next + place)) rows ≡ slice_get rows place
found_at number next [] place are = refl
found_at number next (x ∷ xs) zero are = rw (is_number (number x) (next + 0) (let first : number x ≡ next = are.0 in omega arith)) refl
found_at number next (x ∷ xs) (suc place) are =
    let first : number x ≡ next = are.0 in
    let apart : (number x == (next + suc place)) ≡ false = other_number (number x) (next + suc place) (let ne : number x ≢ next + suc place = omega arith in ne) in
    let e : next + suc place ≡ (next + 1) + place = omega arith in
    skipped (has_number number (next + suc place)) x xs apart ∙ ap (λ n. find (has_number number n) xs) e ∙ found_at number (next + 1) xs place are.1

-- numbers that are not looked for
among_later : (k n : ℕ) (ks : List ℕ) → k ≢ n → is_among (k ∷ ks) n ≡ true → is_among ks n ≡ true
among_later k n ks apart among = rw (other_number k n apart) at among

none_among : (least n : ℕ) (ks : List ℕ) → IsRisingFrom least ks → n < least → is_among ks n ≡ false
none_among least n [] rising lt = refl
none_among least n (k ∷ ks) rising lt =
    let le : least ≤ k = rising.0 in
    rw (other_number k n (let ne : k ≢ n = omega arith in ne)) (none_among (k + 1) n ks rising.1 (omega arith))

pub rising_as : (low least : ℕ) (ks : List ℕ) → low ≤ least → IsRisingFrom least ks → IsRisingFrom low ks
rising_as low least [] le rising = tt
rising_as low least (k ∷ ks) le rising = (let at' : least ≤ k = rising.0 in omega arith, rising.1)

no_rows : {A : Type 0} (number : A → ℕ) (ks : List ℕ) → rows_at number ks [] ≡ []
no_rows number [] = refl
no_rows number (k ∷ ks) = no_rows number ks

-- where every number is above the first row's, that row isn't looked for
rows_later : {A : Type 0} (number : A → ℕ) (least : ℕ) (ks : List ℕ) (x : A) (xs : List A) → IsRisingFrom least ks → number x < least → rows_at number ks (x ∷ xs) ≡ rows_at number ks xs
rows_later number least [] x xs rising lt = refl
rows_later number least (k ∷ ks) x xs rising lt =
    let le : least ≤ k = rising.0 in
    let apart : (number x == k) ≡ false = other_number (number x) k (let ne : number x ≢ k = omega arith in ne) in
    rw (apart, rows_later number (k + 1) ks x xs rising.1 (omega arith)) refl

-- a number below the first row's adds none
rows_sooner : {A : Type 0} (number : A → ℕ) (next k : ℕ) (ks : List ℕ) (rows : List A) → AreInTurn number next rows → k < next → rows_at number (k ∷ ks) rows ≡ rows_at number ks rows
rows_sooner number next k ks rows are lt = rw (none_below number next rows k are lt) refl

-- what the rows need of the numbers, once the first number is passed
has_later : {A : Type 0} (number : A → ℕ) (p : A → Bool) (next k : ℕ) (ks : List ℕ) (rows : List A) → AreInTurn number next rows → k < next → HasAll number p (k ∷ ks) rows → HasAll number p ks rows
has_later number p next k ks [] are lt has = tt
has_later number p next k ks (x ∷ xs) are lt has =
    let first : number x ≡ next = are.0 in
    (λ passes. among_later k (number x) ks (let ne : k ≢ number x = omega arith in ne) (has.0 passes), has_later number p (next + 1) k ks xs are.1 (omega arith) has.1)

pub not_true : (b : Bool) → (b ≡ true → ⊥) → b ≡ false
not_true true none = absurd (none refl)
not_true false none = refl

pub both_ways : (b : Bool) → b ≡ true → b ≡ false → ⊥
both_ways b is not = cc

pub joined_from : {A : Type 0} (number : A → ℕ) (p : A → Bool) (next least : ℕ) (rows : List A) (ks : List ℕ) → AreInTurn number next rows → IsRisingFrom least ks → HasAll number p ks rows
    → filter p rows ≡ filter p (rows_at number ks rows)
joined_from number p next least [] ks are rising has = rw (no_rows number ks) refl
joined_from number p next least (x ∷ xs) [] are rising has =
    let fails : p x ≡ false = not_true (p x) (λ passes. both_ways false (has.0 passes) refl) in
    rw fails (joined_from number p (next + 1) least xs [] are.1 tt has.1)
joined_from number p next least (x ∷ xs) (k ∷ ks) are rising has =
    let first : number x ≡ next = are.0 in
    elim (by_test (nat_lt k next)) [
      | inl below ↦ (let lt : k < next = grind (arith, nat_tests, below) in
          rw (rows_sooner number next k ks (x ∷ xs) are lt) (joined_from number p next (k + 1) (x ∷ xs) ks are rising.1 (has_later number p next k ks (x ∷ xs) are lt has)))
      | inr from ↦ elim (by_test (nat_lt next k)) [
        | inl above ↦ (let lt : next < k = grind (arith, nat_tests, above) in
            let fails : p x ≡ false = not_true (p x) (λ passes. both_ways (is_among (k ∷ ks) (number x)) (has.0 passes) (none_among k (number x) (k ∷ ks) (omega arith, rising.1) (omega arith))) in
            rw (fails, rows_later number k (k ∷ ks) x xs (omega arith, rising.1) (omega arith)) (joined_from number p (next + 1) least xs (k ∷ ks) are.1 rising has.1))
        | inr here ↦ (let same : number x ≡ k = grind (arith, nat_tests, from, here, first) in
            let rest : filter p xs ≡ filter p (rows_at number ks xs) = joined_from number p (next + 1) (k + 1) xs ks are.1 rising.1 (has_later number p (next + 1) k ks xs are.1 (omega arith) has.1) in
            let later : rows_at number ks (x ∷ xs) ≡ rows_at number ks xs = rows_later number (k + 1) ks x xs rising.1 (omega arith) in
            rw (is_number (number x) k same) (rw later (elim (by_test (p x)) [ inl is ↦ rw is (ap (λ more. x ∷ more) rest) | inr not ↦ rw not rest ])))
      ]
    ]

-- the rows that pass, by a rising list of numbers that has them all
pub joined : {A : Type 0} (number : A → ℕ) (p : A → Bool) (rows : List A) (ks : List ℕ) → AreInTurn number 1 rows → IsRisingFrom 0 ks → HasAll number p ks rows
    → filter p rows ≡ filter p (rows_at number ks rows)
joined number p rows ks are rising has = joined_from number p 1 0 rows ks are rising has
