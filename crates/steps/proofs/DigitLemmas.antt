-- The numbers that a field's digits write.
use Rattle.std.proofs.Common.{◌≡◌, ℕ, ◌+◌, ◌-◌, ◌*◌, ◌^◌, ◌<◌, ◌≤◌, List, [], ◌∷◌, length, get_or, take, refl, arith, Bool, true, false}
use Rattle.std.specs.Prelude.{◌&&◌, nat_le}
use Rattle.std.specs.Char.{is_ascii_digit}
use Rattle.std.specs.Int.{IsInRange}
use Rattle.std.specs.List.{list_all}
use Rattle.std.specs.Str.Parse.{AllDigits, digits_value}
use Rattle.std.proofs.lemmas.Bool.Decides.{nat_tests}
use Rattle.std.proofs.lemmas.Int.Digits.{digits_value_more}
use Rattle.std.proofs.lemmas.Str.{digit_value_digit}
use Rattle.std.proofs.lemmas.Str.Parse.{digit_at, digits_value-take-le, digits_value_short, numerals_by_value, tells_digits}
use Rattle.steps.specs.Records.{is_number}

-- two tests that both hold
holds_both : (a b : Bool) → (a && b) ≡ true → (a ≡ true) × (b ≡ true)
holds_both true b e = (refl, e)
holds_both false b e = cc

all_digits : (ds : List ℕ) → list_all is_ascii_digit ds ≡ true → AllDigits 10 ds
all_digits [] e = tt
all_digits (d ∷ ds) e =
    let parts = holds_both (is_ascii_digit d) (list_all is_ascii_digit ds) e in
    let test = parts.0 in
    let range : IsInRange 48 57 d = grind (arith, nat_tests, test) in
    (omega (arith, digit_value_digit d range), all_digits ds parts.1)

-- a field of one to ten digits
number_digits : (ds : List ℕ) → is_number ds ≡ true → AllDigits 10 ds × (length ds ≤ 10)
number_digits ds e =
    let parts = holds_both (nat_le 1 (length ds) && nat_le (length ds) 10) (list_all is_ascii_digit ds) e in
    let short = (holds_both (nat_le 1 (length ds)) (nat_le (length ds) 10) parts.0).1 in
    (all_digits ds parts.1, grind (arith, nat_tests, short))

-- the digit at a place, and the number before it, which is small
pub digit_here : (ds : List ℕ) (i : ℕ) → is_number ds ≡ true → i < length ds
    → (48 ≤ get_or ds i 0) × (get_or ds i 0 ≤ 57) × (digits_value 10 (take i ds) < 10 ^ 10)
digit_here ds i e within =
    let digits = number_digits ds e in
    let range : IsInRange 48 57 (get_or ds i 0) = digit_at ds i digits.0 within in
    let whole = digits_value_short (numerals_by_value _ tells_digits) ds 10 digits.0 digits.1 in
    let part = digits_value-take-le 10 ds i (omega arith) in
    (range.0, range.1, omega (arith, whole, part))

-- one more digit
pub value_more : (ds : List ℕ) (i v d : ℕ) → is_number ds ≡ true → i < length ds → v ≡ digits_value 10 (take i ds) → d ≡ get_or ds i 0 - 48
    → v * 10 + d ≡ digits_value 10 (take (i + 1) ds)
value_more ds i v d e within so_far digit =
    let range : IsInRange 48 57 (get_or ds i 0) = digit_at ds i (number_digits ds e).0 within in
    omega (arith, digits_value_more 10 ds i within, digit_value_digit (get_or ds i 0) range)
