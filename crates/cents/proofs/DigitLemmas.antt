-- Digits and the numbers that they write.
use Rattle.std.proofs.Common.{◌≡◌, ℕ, ◌+◌, ◌-◌, ◌*◌, ◌/◌, ◌%◌, ◌^◌, ◌<◌, ◌≤◌, min, List, [], ◌∷◌, ◌++◌, append_assoc, length, get_or, take, sym, ap, ◌∙◌, arith, inl, inr, false, true}
use Rattle.std.specs.Prelude.{decimal}
use Rattle.std.specs.Char.{digit_value, is_ascii_digit}
use Rattle.std.specs.Int.{IsInRange}
use Rattle.std.specs.Str.Parse.{AllDigits, IsNumeral, digits_value}
use Rattle.std.specs.Fmt.{char_count, format_spec, padded_integral, styled_decimal}
use Rattle.std.proofs.lemmas.Bool.{cases_lt}
use Rattle.std.proofs.lemmas.Bool.Decides.{nat_tests}
use Rattle.std.proofs.lemmas.Str.{digit_value_digit}
use Rattle.std.proofs.lemmas.Str.Parse.{digit_at}
use Rattle.std.proofs.lemmas.Int.Digits.{digits_more, digits_value_more}
use Rattle.std.proofs.lemmas.Fmt.{decimal_digit, decimal_step}
use Rattle.cents.specs.Spelling.{amount_text, two_digits}

-- a byte that is no digit is in no numeral
pub not_digit : (ds : List ℕ) (i : ℕ) → i < length ds → is_ascii_digit (get_or ds i 0) ≡ false → ¬ (IsNumeral 10 ds)
not_digit ds i within test numeral =
    let range : IsInRange 48 57 (get_or ds i 0) = digit_at ds i numeral.1 within in
    grind (arith, nat_tests, test, range)

-- what a digit is worth
pub digit_worth : (c : ℕ) → is_ascii_digit c ≡ true → (48 ≤ c) × (digit_value c ≡ c - 48) × (digit_value c < 10)
digit_worth c test =
    let range : IsInRange 48 57 c = grind (arith, nat_tests, test) in
    let worth = digit_value_digit c range in
    (omega arith, omega arith, omega arith)

-- what two digits show, as `{:02}` writes them
pub two_digits_padded : (n : ℕ) → n < 100 → padded_integral (format_spec 32 0 4 2 (2 ^ 64 - 1)) false [] (decimal n) ≡ two_digits n
unfolding padded_integral char_count
two_digits_padded n small = elim (cases_lt n 10) [
  | inl one ↦ (let high : n / 10 ≡ 0 = omega arith in let low : n % 10 ≡ n = omega arith in rw (decimal_digit n one, high, low))
  | inr two ↦ (let big : n < 2 ^ 64 = omega arith in let front : n / 10 < 10 = omega arith in rw (decimal_step n two big, decimal_digit (n / 10) front))
]

-- the text that `{}.{:02}` writes of whole coins and cents
pub text_written : (n : ℕ) → decimal (n / 100) ++ 46 ∷ styled_decimal (format_spec 32 0 4 2 (2 ^ 64 - 1)) (n % 100) ≡ amount_text n
text_written n =
    let cents : padded_integral (format_spec 32 0 4 2 (2 ^ 64 - 1)) false [] (decimal (n % 100)) ≡ two_digits (n % 100) = two_digits_padded (n % 100) (omega arith) in
    ap (λ (t : List ℕ). decimal (n / 100) ++ 46 ∷ t) cents ∙ sym (append_assoc (decimal (n / 100)) (46 ∷ []) (two_digits (n % 100)))

-- a digit is worth what it shows
digit_shown : (d : ℕ) → d < 10 → digit_value (48 + d) ≡ d
digit_shown d small =
    let range : IsInRange 48 57 (48 + d) = (omega arith, omega arith) in
    omega (arith, digit_value_digit (48 + d) range)

-- two digits write their number
pub two_digits_numeral : (n : ℕ) → n < 100 → IsNumeral 10 (two_digits n) × (digits_value 10 (two_digits n) ≡ n)
two_digits_numeral n small =
    let tens : digit_value (48 + n / 10) ≡ n / 10 = digit_shown (n / 10) (omega arith) in
    let ones : digit_value (48 + n % 10) ≡ n % 10 = digit_shown (n % 10) (omega arith) in
    ((omega arith, (omega arith, (omega arith, tt))), omega arith)

-- one more digit, with the count stopped at a bound
pub number_more : (ds : List ℕ) (i k n m bound : ℕ) → i < length ds → is_ascii_digit (get_or ds i 0) ≡ true
    → n ≡ min (digits_value 10 (take i ds)) bound → k ≡ get_or ds i 0 - 48 → m ≡ min (n * 10 + k) bound
    → m ≡ min (digits_value 10 (take (i + 1) ds)) bound
number_more ds i k n m bound within test so_far digit now =
    let worth = digit_worth (get_or ds i 0) test in
    let value = digits_value_more 10 ds i within in
    omega (arith, worth.1, value)

-- one more digit
pub digits_on : (ds : List ℕ) (i : ℕ) → i < length ds → AllDigits 10 (take i ds) → is_ascii_digit (get_or ds i 0) ≡ true → AllDigits 10 (take (i + 1) ds)
digits_on ds i within so_far test = digits_more 10 ds i within so_far (digit_worth (get_or ds i 0) test).2
