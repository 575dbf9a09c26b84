-- Numbers as they are written, and read back.
use Rattle.std.proofs.Common.{◌≡◌, ℕ, ◌+◌, ◌-◌, ◌*◌, ◌^◌, ◌<◌, ◌≤◌, List, [], ◌∷◌, length, get_or, reverse, IsTrue, Bool, true, false, not, refl, ◌∙◌, ap, arith, inl, inr, decimal, Some, Ok}
use Rattle.std.specs.Prelude.{◌==◌, ◌&&◌, nat_le, nat_lt}
use Rattle.std.specs.Char.{digit_value, is_ascii_digit}
use Rattle.std.specs.Int.{IsInRange}
use Rattle.std.specs.List.{list_all}
use Rattle.std.specs.Str.{all_ascii_digits}
use Rattle.std.specs.Str.Parse.{digits_value, digits_value_after}
use Rattle.std.proofs.lemmas.Bool.{cases_eq}
use Rattle.std.proofs.lemmas.Bool.Decides.{nat_tests}
use Rattle.std.proofs.lemmas.Fmt.{decimal_digit, decimal_nonempty, digits_decimal, digits_value-decimal, first_decimal, length-decimal-le}
use Rattle.std.proofs.lemmas.List.Elements.{All-head}
use Rattle.std.proofs.lemmas.List.Sums.{AllPass-from_list_all}
use Rattle.std.proofs.lemmas.Str.{digit_value_digit}
use Rattle.std.proofs.lemmas.Str.Parse.{IsNumeralModel, numerals_by_value, tells_all_ascii_digits}
use Rattle.httparse.specs.Grammar.{AllPass, is_ows, is_uri_byte, is_value_byte, skip_ows, trim_ows}
use Rattle.httparse.proofs.TrimLemmas.{AllPass-reverse, trim_ows_space}
use Rattle.site_digits.specs.Digits.{count_in, digits_after, number_in}
use Rattle.wire.specs.Fields.{body_length, most_body}
use Rattle.site_bids.proofs.BidRoutes.{no_slash}

own : IsNumeralModel (λ ds. all_ascii_digits ds ≡ true) (digits_value 10)
own = numerals_by_value _ tells_all_ascii_digits

both : (a b : Bool) → (a && b) ≡ true → (a ≡ true) × (b ≡ true)
both true b e = (refl, e)
both false b e = cc

range_of : (b : ℕ) → is_ascii_digit b ≡ true → IsInRange 48 57 b
range_of b e = grind (arith, e)

-- what is written is digits
pub are_digits : (n : ℕ) → n < 2 ^ 64 → all_ascii_digits (decimal n) ≡ true
are_digits n small = digits_decimal own n small

-- each of them is a byte of its kind
all_as : (q : ℕ → Bool) (ds : List ℕ) → ((b : ℕ) → is_ascii_digit b ≡ true → q b ≡ true) → all_ascii_digits ds ≡ true → list_all q ds ≡ true
all_as q [] as' all = refl
all_as q (d ∷ ds) as' all =
    let parts = both (is_ascii_digit d) (all_ascii_digits ds) all in
    rw (as' d parts.0, all_as q ds as' parts.1) refl

digit_uri : (b : ℕ) → is_ascii_digit b ≡ true → is_uri_byte b ≡ true
digit_uri b e = let r = range_of b e in grind (arith, nat_tests, r)

digit_value_byte : (b : ℕ) → is_ascii_digit b ≡ true → is_value_byte b ≡ true
digit_value_byte b e = let r = range_of b e in grind (arith, nat_tests, r)

digit_no_space : (b : ℕ) → is_ascii_digit b ≡ true → not (is_ows b) ≡ true
digit_no_space b e = let r = range_of b e in grind (arith, nat_tests, r)

digit_no_slash : (b : ℕ) → is_ascii_digit b ≡ true → (b == 47) ≡ false
digit_no_slash b e = let r = range_of b e in grind (arith, nat_tests, r)

pub digit_no_token : (b : ℕ) → is_ascii_digit b ≡ true → (256 == b) ≡ false
digit_no_token b e = let r = range_of b e in grind (arith, nat_tests, r)

pub uri_digits : (ds : List ℕ) → all_ascii_digits ds ≡ true → list_all is_uri_byte ds ≡ true
uri_digits ds all = all_as is_uri_byte ds digit_uri all

pub value_digits : (ds : List ℕ) → all_ascii_digits ds ≡ true → list_all is_value_byte ds ≡ true
value_digits ds all = all_as is_value_byte ds digit_value_byte all

pub no_slashes : (ds : List ℕ) → all_ascii_digits ds ≡ true → no_slash ds
no_slashes [] all = tt
no_slashes (d ∷ ds) all =
    let parts = both (is_ascii_digit d) (all_ascii_digits ds) all in (digit_no_slash d parts.0, no_slashes ds parts.1)

-- no white space is at their ends
skip_none : (xs : List ℕ) → AllPass (λ b. not (is_ows b)) xs → skip_ows xs ≡ xs
skip_none [] all = refl
skip_none (b ∷ xs) all = by_test (is_ows b) refl (All-head (λ b. IsTrue (not (is_ows b))) b xs all) where
  by_test : (t : Bool) → is_ows b ≡ t → not t ≡ true → skip_ows (b ∷ xs) ≡ b ∷ xs
  by_test true is wrong = cc
  by_test false is fine = rw is refl

pub trim_digits : (ds : List ℕ) → all_ascii_digits ds ≡ true → trim_ows (32 ∷ ds) ≡ ds
trim_digits ds all =
    let none : AllPass (λ b. not (is_ows b)) ds = AllPass-from_list_all (λ b. not (is_ows b)) ds (all_as (λ b. not (is_ows b)) ds digit_no_space all) in
    trim_ows_space ds (skip_none ds none) (skip_none (reverse ds) (AllPass-reverse (λ b. not (is_ows b)) ds none))

-- what digits write after those of n
all_digits_after : (n : ℕ) (s : List ℕ) → all_ascii_digits s ≡ true → digits_after n s ≡ Some (digits_value_after 10 n s)
all_digits_after n [] all = refl
all_digits_after n (b ∷ bs) all =
    let parts = both (is_ascii_digit b) (all_ascii_digits bs) all in
    let value : digit_value b ≡ b - 48 = omega (arith, digit_value_digit b (range_of b parts.0)) in
    rw (parts.0, value) (all_digits_after (n * 10 + (b - 48)) bs parts.1)

few_read : (b : ℕ) (bs : List ℕ) → (b == 48) ≡ false → length (b ∷ bs) ≤ 10 → all_ascii_digits (b ∷ bs) ≡ true → number_in (b ∷ bs) ≡ Some (digits_value 10 (b ∷ bs))
few_read b bs first few all =
    let short : nat_le (length (b ∷ bs)) 10 ≡ true = grind (arith, nat_tests, few) in
    rw (first, short) (all_digits_after 0 (b ∷ bs) all)

-- a number of ten digits at most, and not 0
record Written (n : ℕ) (s : List ℕ) : Type 0 where
  all : all_ascii_digits s ≡ true
  some : 0 < length s
  few : length s ≤ 10
  first : 48 < get_or s 0 0
  value : digits_value 10 s ≡ n

written : (n : ℕ) → 1 ≤ n → n < 10 ^ 10 → Written n (decimal n)
written n positive few =
    let small : n < 2 ^ 64 = omega arith in record {
      all = are_digits n small;
      some = decimal_nonempty n small;
      few = length-decimal-le 10 n (omega arith) few small;
      first = first_decimal n (omega arith) small;
      value = digits_value-decimal own n small;
    }

number_of : (n : ℕ) (s : List ℕ) → Written n s → number_in s ≡ Some n
number_of n [] w = absurd (let some = w.some in omega (arith, some))
number_of n (b ∷ bs) w =
    let above = w.first in
    let first : (b == 48) ≡ false = grind (arith, nat_tests, above) in
    few_read b bs first w.few w.all ∙ ap Some w.value

count_of : (n : ℕ) (s : List ℕ) → Written n s → count_in s ≡ Some n
count_of n [] w = absurd (let some = w.some in omega (arith, some))
count_of n (b ∷ []) w =
    let above = w.first in
    let first : (b == 48) ≡ false = grind (arith, nat_tests, above) in
    rw first (rw first at (number_of n (b ∷ []) w))
count_of n (b ∷ c ∷ bs) w = number_of n (b ∷ c ∷ bs) w

-- it reads back
pub number_back : (n : ℕ) → 1 ≤ n → n < 10 ^ 10 → number_in (decimal n) ≡ Some n
number_back n positive few = number_of n (decimal n) (written n positive few)

pub count_back : (n : ℕ) → n < 10 ^ 10 → count_in (decimal n) ≡ Some n
count_back n few =
    elim (cases_eq n 0) [
      | inl zero ↦ rw zero (ap count_in (decimal_digit 0 (omega arith)))
      | inr some ↦ count_of n (decimal n) (written n (omega (arith, some)) few)
    ]

-- and so does the length of a body
pub length_back : (n : ℕ) → n ≤ most_body → body_length (decimal n) ≡ Ok n
unfolding body_length
length_back n few =
    let small : n < 2 ^ 64 = omega arith in
    let some : nat_lt 0 (length (decimal n)) ≡ true = (let s = decimal_nonempty n small in grind (arith, nat_tests, s)) in
    let all : list_all is_ascii_digit (decimal n) ≡ true = all_as is_ascii_digit (decimal n) (λ b e. e) (are_digits n small) in
    let value : digits_value 10 (decimal n) ≡ n = digits_value-decimal own n small in
    let within : nat_lt most_body n ≡ false = grind (arith, nat_tests, few) in
    rw (some, all, value, within) refl
