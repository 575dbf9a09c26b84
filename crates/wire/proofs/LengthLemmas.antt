-- A number by its digits, as far as it matters.
use Rattle.std.proofs.Common.{◌≡◌, ℕ, zero, suc, ◌==◌, ◌+◌, ◌*◌, ◌<◌, ◌≤◌, ◌⊎◌, List, Bool, true, false, ◌&&◌, not, nat_lt, if◌then◌else◌, length, take, drop, get_or, Ok, Err, refl, sym, ap, ◌∙◌, arith, inl, inr, rules}
use Rattle.std.specs.Char.{is_ascii_digit}
use Rattle.std.specs.List.{list_all}
use Rattle.std.specs.Str.Parse.{digits_value}
use Rattle.std.proofs.lemmas.List.{take-append-drop}
use Rattle.std.proofs.lemmas.List.Folds.{list_all-append, list_all_more}
use Rattle.wire.specs.Fields.{body_length, most_body}
use Rattle.wire.specs.declared.fault.WireFault.TheVariants as fault

-- some byte is no digit
pub not_all : (digits : List ℕ) (i : ℕ) → i < length digits → is_ascii_digit (get_or digits i 0) ≡ false
    → list_all is_ascii_digit digits ≡ false
not_all digits i inside other =
    ap (list_all is_ascii_digit) (sym (take-append-drop (i + 1) digits))
    ∙ list_all-append is_ascii_digit (take (i + 1) digits) (drop (i + 1) digits)
    ∙ ap (λ t. t && list_all is_ascii_digit (drop (i + 1) digits)) (list_all_more is_ascii_digit digits i 0 inside ∙ ap
    (λ t. list_all is_ascii_digit (take i digits) && t) other ∙ and-false (list_all is_ascii_digit (take i digits)))
  where
    and-false : (t : Bool) → (t && false) ≡ false
    and-false true = refl
    and-false false = refl

-- all bytes are digits up to the next place
pub all_more : (digits : List ℕ) (i : ℕ) → i < length digits → list_all is_ascii_digit (take i digits) ≡ true → is_ascii_digit
    (get_or digits i 0) ≡ true
    → list_all is_ascii_digit (take (i + 1) digits) ≡ true
all_more digits i inside before here = list_all_more is_ascii_digit digits i 0 inside ∙ rw (before, here) refl

-- the number so far is n, or both are too large
abbrev pub IsNumberOf : ℕ → ℕ → Type 0
IsNumberOf n value = (n ≡ value) ⊎ ((16384 < n) × (16384 < value))

pub number_kept : (n value digit : ℕ) → 16384 < n → IsNumberOf n value → IsNumberOf n (value * 10 + digit)
number_kept n value digit large (inl e) = inr (large, omega arith)
number_kept n value digit large (inr (a, b)) = inr (a, omega arith)

pub number_more : (n value digit : ℕ) → n ≤ 16384 → IsNumberOf n value → IsNumberOf (n * 10 + digit) (value * 10 + digit)
number_more n value digit small (inl e) = inl (omega (arith, e))
number_more n value digit small (inr (a, b)) = absurd (omega arith)

unread : (t u : Bool) (n : ℕ) → t ≡ false → Err fault.Length ≡ (if not t then Err fault.Length else (if u then Err fault.Size else Ok n))
unread t u n e = rw e refl

large : (t u : Bool) (n : ℕ) → t ≡ true → u ≡ true → Err fault.Size ≡ (if not t then Err fault.Length else
    (if u then Err fault.Size else Ok n))
large t u n e f = rw (e, f) refl

small : (t u : Bool) (n : ℕ) → t ≡ true → u ≡ false → Ok n ≡ (if not t then Err fault.Length else (if u then Err fault.Size else Ok n))
small t u n e f = rw (e, f) refl

pub none_is_no_length : (digits : List ℕ) → length digits ≡ 0 → Err fault.Length ≡ body_length digits
unfolding body_length
none_is_no_length digits none =
    unread (nat_lt 0 (length digits) && list_all is_ascii_digit digits) (nat_lt most_body (digits_value 10 digits))
    (digits_value 10 digits) (rw none refl)

pub other_is_no_length : (digits : List ℕ) → list_all is_ascii_digit digits ≡ false → Err fault.Length ≡ body_length digits
unfolding body_length
other_is_no_length digits other =
    unread (nat_lt 0 (length digits) && list_all is_ascii_digit digits) (nat_lt most_body (digits_value 10 digits)) (digits_value 10 digits)
    (ap (λ t. nat_lt 0 (length digits) && t) other ∙ and-false (nat_lt 0 (length digits)))
  where
    and-false : (t : Bool) → (t && false) ≡ false
    and-false true = refl
    and-false false = refl

are_digits : (digits : List ℕ) → 0 < length digits → list_all is_ascii_digit digits ≡ true → (nat_lt 0
    (length digits) && list_all is_ascii_digit digits) ≡ true
are_digits digits some all = let test : nat_lt 0 (length digits) ≡ true = search (rules, some) in rw (test, all) refl

pub too_large : (digits : List ℕ) (n : ℕ) → 0 < length digits → list_all is_ascii_digit digits ≡ true → IsNumberOf n
    (digits_value 10 digits) → 16384 < n
    → Err fault.Size ≡ body_length digits
unfolding body_length
too_large digits n some all number over =
    let past : most_body < digits_value 10 digits = past_most number in
    large (nat_lt 0 (length digits) && list_all is_ascii_digit digits) (nat_lt most_body (digits_value 10 digits))
    (digits_value 10 digits) (are_digits digits some all) (search (rules, past))
  where
    past_most : IsNumberOf n (digits_value 10 digits) → most_body < digits_value 10 digits
    past_most (inl e) = omega (arith, e)
    past_most (inr (a, b)) = b

pub small_enough : (digits : List ℕ) (n : ℕ) → 0 < length digits → list_all is_ascii_digit digits ≡ true → IsNumberOf n
    (digits_value 10 digits) → n ≤ 16384
    → Ok n ≡ body_length digits
unfolding body_length
small_enough digits n some all (inl e) under =
    let within : digits_value 10 digits ≤ most_body = omega (arith, e) in
    ap Ok e ∙ small (nat_lt 0 (length digits) && list_all is_ascii_digit digits) (nat_lt most_body (digits_value 10 digits))
    (digits_value 10 digits) (are_digits digits some all) (search (rules, within))
small_enough digits n some all (inr (a, b)) under = absurd (omega arith)

pub some_bytes : (n : ℕ) → (n == 0) ≡ false → 0 < n
some_bytes zero e = cc
some_bytes (suc n) e = omega arith
