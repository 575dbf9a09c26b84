-- The text of an order is one frame, whose fields are the numbers that it was written with.
use Rattle.std.proofs.Common.{◌≡◌, ℕ, ◌<◌, ◌≤◌, ◌^◌, List, [], ◌∷◌, length, true, false, refl, sym, ap, ◌∙◌, arith, decimal, codes, Some, Result, Ok, inl}
use Rattle.std.specs.Prelude.{nat_lt, reverse}
use Rattle.std.specs.List.{list_all}
use Rattle.std.specs.Char.{is_ascii_digit}
use Rattle.std.specs.Str.{all_ascii_digits}
use Rattle.std.specs.Str.Parse.{digits_value}
use Rattle.std.proofs.lemmas.Bool.{and_parts, and_from, lt-ltb}
use Rattle.std.proofs.lemmas.Fmt.{decimal_nonempty, digits_decimal, digits_value-decimal, length-decimal-le}
use Rattle.std.proofs.lemmas.List.{drop_all, take_all}
use Rattle.std.proofs.lemmas.List.Sums.{AllPass-from_list_all, list_all-from_AllPass}
use Rattle.httparse.specs.Grammar.{RequestHead, is_ows, skip_ows, trim_ows}
use Rattle.httparse.proofs.TrimLemmas.{AllPass-reverse, trim_ows_space}
use Rattle.wire.specs.Frame.{IsFrame, IsFront, announced, fields_of, message_of, with_body}
use Rattle.wire.specs.Fields.{body_length, ends_connection, has_host, has_transfer, length_by, only, values_of}
use Rattle.wire.specs.declared.fault.WireFault.{WireFault}
use Rattle.office.proofs.ReadNumbers.{digits_own}
use Rattle.office.proofs.OrderHeads.{begins, order_bytes, order_head}

-- ---- digits are nothing that a trim takes off

digit_no_space : (b : ℕ) → is_ascii_digit b ≡ true → is_ows b ≡ false
digit_no_space b digit = grind (arith, digit)

nothing_skipped : (s : List ℕ) → list_all is_ascii_digit s ≡ true → skip_ows s ≡ s
nothing_skipped [] all = refl
nothing_skipped (b ∷ bs) all =
    rw (digit_no_space b (and_parts (is_ascii_digit b) (list_all is_ascii_digit bs) all).0) refl

all_digits : (s : List ℕ) → all_ascii_digits s ≡ true → list_all is_ascii_digit s ≡ true
all_digits [] all = refl
all_digits (b ∷ bs) all =
    let parts = and_parts (is_ascii_digit b) (all_ascii_digits bs) all in
    and_from (is_ascii_digit b) (list_all is_ascii_digit bs) parts.0 (all_digits bs parts.1)

backwards : (s : List ℕ) → list_all is_ascii_digit s ≡ true → list_all is_ascii_digit (reverse s) ≡ true
backwards s all = list_all-from_AllPass is_ascii_digit (reverse s)
    (AllPass-reverse is_ascii_digit s (AllPass-from_list_all is_ascii_digit s all))

trimmed : (s : List ℕ) → all_ascii_digits s ≡ true → trim_ows (32 ∷ s) ≡ s
trimmed s all =
    let digits = all_digits s all in
    trim_ows_space s (nothing_skipped s digits) (nothing_skipped (reverse s) (backwards s digits))

-- ---- the fields

pub member_field : (a b c : List ℕ) → all_ascii_digits a ≡ true
    → only (values_of (codes "x-member") (fields_of (order_head a b c))) ≡ Some a
unfolding values_of
member_field a b c all = ap Some (trimmed a all)

pub moment_field : (a b c : List ℕ) → all_ascii_digits b ≡ true
    → only (values_of (codes "x-moment") (fields_of (order_head a b c))) ≡ Some b
unfolding values_of
moment_field a b c all = ap Some (trimmed b all)

length_field : (a b c : List ℕ) → all_ascii_digits c ≡ true
    → values_of (codes "content-length") (fields_of (order_head a b c)) ≡ c ∷ []
unfolding values_of
length_field a b c all = ap (λ v. v ∷ []) (trimmed c all)

pub goes_on : (a b c : List ℕ) → ends_connection 1 (fields_of (order_head a b c)) ≡ false
unfolding ends_connection values_of
goes_on a b c = refl

size_read : (n : ℕ) → n ≤ 16384 → body_length (decimal n) ≡ Ok n
unfolding body_length
size_read n few =
    let fits : n < 2 ^ 64 = omega arith in
    let digits = digits_decimal digits_own n fits in
    let value : digits_value 10 (decimal n) ≡ n = digits_value-decimal digits_own n fits in
    let some = lt-ltb 0 (length (decimal n)) (decimal_nonempty n fits) in
    rw (some, all_digits (decimal n) digits, value, not_over n few) refl
  where
    not_over : (n : ℕ) → n ≤ 16384 → nat_lt 16384 n ≡ false
    not_over n few = grind arith

announced_is : (a b : List ℕ) (n : ℕ) → n ≤ 16384 → announced 1 (fields_of (order_head a b (decimal n))) ≡ Ok n
unfolding announced has_host has_transfer values_of
announced_is a b n few =
    let fits : n < 2 ^ 64 = omega arith in
    ap length_by (length_field a b (decimal n) (digits_decimal digits_own n fits)) ∙ size_read n few

-- ---- the frame

whole_body : (h : RequestHead) (body : List ℕ) (r : Result ℕ WireFault) → r ≡ Ok (length body)
    → with_body h body r ≡ Ok (message_of h body, [])
whole_body h body r is =
    let none : nat_lt (length body) (length body) ≡ false = grind arith in
    ap (with_body h body) is
    ∙ rw (none, take_all (length body) body (omega arith), drop_all (length body) body (omega arith)) refl

pub order_frame : (m t : ℕ) (body : List ℕ) → m < 2 ^ 64 → t < 2 ^ 64 → length body ≤ 16384
    → IsFrame (order_bytes (decimal m) (decimal t) (decimal (length body)) body)
    (Ok (message_of (order_head (decimal m) (decimal t) (decimal (length body))) body))
unfolding IsFront
order_frame m t body fm ft few =
    let fits : length body < 2 ^ 64 = omega arith in
    let a = decimal m in
    let b = decimal t in
    let c = decimal (length body) in
    let h = order_head a b c in (
      Ok (message_of h body, []),
      inl (
        h,
        body,
        begins a b c body (digits_decimal digits_own m fm) (digits_decimal digits_own t ft)
            (digits_decimal digits_own (length body) fits) (length-decimal-le 20 m (omega arith) (omega arith) fm)
            (length-decimal-le 20 t (omega arith) (omega arith) ft)
            (length-decimal-le 20 (length body) (omega arith) (omega arith) fits),
        sym (whole_body h body (announced 1 (fields_of h)) (announced_is a b (length body) few)),
      ),
      refl,
    )
