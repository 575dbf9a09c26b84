-- A number that was read is written in decimal by the very digits that it was read from.
use Rattle.std.proofs.Common.{◌≡◌, ℕ, ◌<◌, ◌≤◌, ◌+◌, ◌*◌, ◌-◌, ◌^◌, List, [], ◌∷◌, length, get_or, Bool, true, false, refl, sym, ap, ◌∙◌, subst, arith, decimal, Option, Some, None, inl, inr, ◌==◌, eq-eqb}
use Rattle.std.specs.Prelude.{nat_le, if◌then◌else◌, ◌&&◌}
use Rattle.std.specs.Char.{is_ascii_digit, digit_value}
use Rattle.std.specs.Int.{IsInRange}
use Rattle.std.specs.Str.{all_ascii_digits}
use Rattle.std.specs.Str.Parse.{digits_value, digits_value_after}
use Rattle.std.proofs.lemmas.Bool.{cases_Bool}
use Rattle.std.proofs.lemmas.Fmt.{decimal-digits_value}
use Rattle.std.proofs.lemmas.Str.{digit_value_digit}
use Rattle.std.proofs.lemmas.Str.Parse.{IsNumeralModel, numerals_by_value, tells_all_ascii_digits, digits_value_short}
use Rattle.site_digits.specs.Digits.{digits_after, number_in}

own : IsNumeralModel (λ ds. all_ascii_digits ds ≡ true) (digits_value 10)
own = numerals_by_value _ tells_all_ascii_digits

range_of : (b : ℕ) → is_ascii_digit b ≡ true → IsInRange 48 57 b
range_of b e = grind (arith, e)

-- what digits write after those of n
after_are : (n m : ℕ) (s : List ℕ) → digits_after n s ≡ Some m
    → (all_ascii_digits s ≡ true) × (digits_value_after 10 n s ≡ m)
after_are n m [] e = (refl, cc)
after_are n m (b ∷ bs) e = go (after_are (n * 10 + (b - 48)) m bs) (is_ascii_digit b) refl e where
  go : (digits_after (n * 10 + (b - 48)) bs ≡ Some m
      → (all_ascii_digits bs ≡ true) × (digits_value_after 10 (n * 10 + (b - 48)) bs ≡ m))
      → (digit : Bool) → is_ascii_digit b ≡ digit
      → (if digit then digits_after (n * 10 + (b - 48)) bs else None) ≡ Some m
      → (all_ascii_digits (b ∷ bs) ≡ true) × (digits_value_after 10 n (b ∷ bs) ≡ m)
  go rest false is e = cc
  go rest true is e =
      let value : digit_value b ≡ b - 48 = omega (arith, digit_value_digit b (range_of b is)) in
      (rw (is, (rest e).0) refl, rw value (rest e).1)

few_are : (b : ℕ) (bs : List ℕ) (few : Bool) (n : ℕ) → nat_le (length (b ∷ bs)) 10 ≡ few → (b == 48) ≡ false
    → (if few then digits_after 0 (b ∷ bs) else None) ≡ Some n → (decimal n ≡ b ∷ bs) × (n < 2 ^ 64)
few_are b bs false n is first e = cc
few_are b bs true n is first e =
    let s = b ∷ bs in
    let read = after_are 0 n s e in
    let few : length s ≤ 10 = grind (arith, is) in
    let small : digits_value 10 s < 2 ^ 64 = omega (arith, digits_value_short own s 10 read.0 few) in
    let one : get_or s 0 0 ≡ 48 → length s ≡ 1 = λ zero. let t : (b == 48) ≡ true =
    eq-eqb b 48 zero in let f : true ≡ false = sym t ∙ first in cc in
    let shown : decimal (digits_value 10 s) ≡ s = decimal-digits_value own s read.0 (omega arith) one small in
    (ap decimal (sym read.1) ∙ shown, subst (λ m. m < 2 ^ 64) read.1 small)

pub number_is : (s : List ℕ) (n : ℕ) → Some n ≡ number_in s → (decimal n ≡ s) × (n < 2 ^ 64)
number_is [] n e = cc
number_is (b ∷ bs) n e = go (b == 48) refl e where
  go : (zero : Bool) → (b == 48) ≡ zero
      → Some n ≡ (if zero then None else (if nat_le (length (b ∷ bs)) 10 then digits_after 0 (b ∷ bs) else None))
      → (decimal n ≡ b ∷ bs) × (n < 2 ^ 64)
  go true is e = cc
  go false is e = few_are b bs (nat_le (length (b ∷ bs)) 10) n refl is (sym e)
