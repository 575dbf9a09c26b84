-- The decimal of a number is read back as that number.
use Rattle.std.proofs.Common.{◌≡◌, ℕ, zero, suc, ◌<◌, ◌≤◌, ◌+◌, ◌*◌, ◌-◌, ◌^◌, List, [], ◌∷◌, length, get_or, true, refl, ap, ◌∙◌, arith, decimal, Some}
use Rattle.std.specs.Char.{is_ascii_digit, digit_value}
use Rattle.std.specs.Int.{IsInRange}
use Rattle.std.specs.Str.{all_ascii_digits}
use Rattle.std.specs.Str.Parse.{digits_value, digits_value_after}
use Rattle.std.proofs.lemmas.Bool.{and_parts, le-leb, ne_eqb}
use Rattle.std.proofs.lemmas.Fmt.{decimal_digit, digits_decimal, digits_value-decimal, first_decimal, length-decimal-le}
use Rattle.std.proofs.lemmas.Str.{digit_value_digit}
use Rattle.std.proofs.lemmas.Str.Parse.{IsNumeralModel, numerals_by_value, tells_all_ascii_digits}
use Rattle.site_digits.specs.Digits.{count_in, digits_after}

pub digits_own : IsNumeralModel (λ ds. all_ascii_digits ds ≡ true) (digits_value 10)
digits_own = numerals_by_value _ tells_all_ascii_digits

-- what digits write after those of n
after_is : (n : ℕ) (s : List ℕ) → all_ascii_digits s ≡ true → digits_after n s ≡ Some (digits_value_after 10 n s)
after_is n [] all = refl
after_is n (b ∷ bs) all =
    let parts = and_parts (is_ascii_digit b) (all_ascii_digits bs) all in
    let digit : is_ascii_digit b ≡ true = parts.0 in
    let range : IsInRange 48 57 b = grind (arith, digit) in
    let value : digit_value b ≡ b - 48 = omega (arith, digit_value_digit b range) in
    rw (digit, value) (after_is (n * 10 + (b - 48)) bs parts.1)

-- digits that don't begin with 0
digits_read : (s : List ℕ) → all_ascii_digits s ≡ true → 48 < get_or s 0 0 → length s ≤ 10
    → count_in s ≡ Some (digits_value 10 s)
digits_read [] all first few = absurd (omega arith)
digits_read (b ∷ []) all first few =
    rw (ne_eqb b 48 (λ e. omega arith)) (after_is 0 (b ∷ []) all)
digits_read (b ∷ c ∷ bs) all first few =
    rw (ne_eqb b 48 (λ e. omega arith), le-leb (length (b ∷ c ∷ bs)) 10 few) (after_is 0 (b ∷ c ∷ bs) all)

pub count_read : (n : ℕ) → n < 10 ^ 10 → count_in (decimal n) ≡ Some n
count_read zero small = ap count_in (decimal_digit 0 (omega arith))
count_read (suc n) small =
    let fits : suc n < 2 ^ 64 = omega arith in
    digits_read (decimal (suc n)) (digits_decimal digits_own (suc n) fits)
    (first_decimal (suc n) (omega arith) fits) (length-decimal-le 10 (suc n) (omega arith) small fits)
    ∙ ap Some (digits_value-decimal digits_own (suc n) fits)
