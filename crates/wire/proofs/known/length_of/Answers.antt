use Rattle.std.proofs.Common.{◌≡◌, ◌≤◌, ◌+◌, ◌*◌, take, length, get_or, arith, rules, ap, sym, ◌∙◌, true, subst}
use Rattle.std.specs.Char.{digit_value, is_ascii_digit}
use Rattle.std.specs.List.{list_all}
use Rattle.std.specs.Str.Parse.{digits_value}
use Rattle.std.proofs.lemmas.Int.Digits.{digits_value_more}
use Rattle.std.proofs.lemmas.List.{take_all}
use Rattle.std.proofs.lemmas.Str.{digit_value_digit}
use Rattle.wire.proofs.LengthLemmas.{IsNumberOf, all_more, none_is_no_length, not_all, number_kept, number_more, other_is_no_length, small_enough, some_bytes, too_large}
use Rattle.wire.proofs.known.length_of.Goals.{then-number-le-MOST_BODY, else-number-le-MOST_BODY}
use Rattle.wire.proofs.known.length_of.Goals as goal

pub returns-then-is_empty-clause-value : goal.returns-then-is_empty-clause-value
returns-then-is_empty-clause-value c = none_is_no_length c.args.digits.now (search rules)

pub returns-then-not-is_ascii_digit-clause-value : goal.returns-then-not-is_ascii_digit-clause-value
returns-then-not-is_ascii_digit-clause-value c =
    other_is_no_length c.args.digits.now (not_all c.args.digits.now c.loop-byte.byte-index c.loop-byte-test.true
    (sym c.is_ascii_digit.ensures.value ∙ c.if-not-is_ascii_digit.true))

pub loop-byte-preserved : goal.loop-byte-preserved
loop-byte-preserved c =
    let digits = c.args.digits.now in
    let i = c.loop-byte.byte-index in
    let digit : is_ascii_digit (get_or digits i 0) ≡ true = sym c.is_ascii_digit.ensures.value ∙ c.if-not-is_ascii_digit.false in
    let range : (48 ≤ get_or digits i 0) × (get_or digits i 0 ≤ 57) = rw c.if-not-is_ascii_digit.false at c.is_ascii_digit.ensures.cases in
    let own : digit_value (get_or digits i 0) + 48 ≡ get_or digits i 0 = digit_value_digit (get_or digits i 0) range in
    let next = digits_value_more 10 digits i c.loop-byte-test.true in
    elim c.if-number-le-MOST_BODY.branch [
      | then-number-le-MOST_BODY w ↦
          let more : c.if-number-le-MOST_BODY.number ≡ c.loop-byte.number * 10 + digit_value (get_or digits i 0) = omega
          (arith, w.number-is, own, w.from.ensures) in
          record {
            digits = all_more digits i c.loop-byte-test.true c.loop-byte.invariant.digits digit;
            few = omega (arith, more, own, range, w.if-number-le-MOST_BODY.true);
            number = subst (λ v. IsNumberOf c.if-number-le-MOST_BODY.number v) (sym next)
                (subst (λ n. IsNumberOf n (digits_value 10 (take i digits) * 10 + digit_value (get_or digits i 0))) (sym more)
                (number_more c.loop-byte.number (digits_value 10 (take i digits)) (digit_value
                (get_or digits i 0)) w.if-number-le-MOST_BODY.true c.loop-byte.invariant.number));
          }
      | else-number-le-MOST_BODY w ↦ record {
        digits = all_more digits i c.loop-byte-test.true c.loop-byte.invariant.digits digit;
        few = omega (arith, w.number-is);
        number = subst (λ v. IsNumberOf c.if-number-le-MOST_BODY.number v) (sym next)
            (subst (λ n. IsNumberOf n (digits_value 10 (take i digits) * 10 + digit_value (get_or digits i 0))) (sym w.number-is)
            (number_kept c.loop-byte.number (digits_value 10 (take i digits)) (digit_value (get_or digits i 0)) (omega
            (arith, w.if-number-le-MOST_BODY.false)) c.loop-byte.invariant.number));
      }
    ]

pub returns-then-number-gt-MOST_BODY-clause-value : goal.returns-then-number-gt-MOST_BODY-clause-value
returns-then-number-gt-MOST_BODY-clause-value c =
    let digits = c.args.digits.now in
    let whole : take c.loop-byte.byte-index digits ≡ digits = take_all c.loop-byte.byte-index digits (omega arith) in
    too_large digits c.loop-byte.number (some_bytes (length digits) (sym c.is_empty.ensures ∙ c.if-is_empty.false)) (ap
    (list_all is_ascii_digit) (sym whole) ∙ c.loop-byte.invariant.digits) (subst (λ l. IsNumberOf c.loop-byte.number
    (digits_value 10 l)) whole c.loop-byte.invariant.number) (omega arith)

pub returns-clause-value : goal.returns-clause-value
returns-clause-value c =
    let digits = c.args.digits.now in
    let whole : take c.loop-byte.byte-index digits ≡ digits = take_all c.loop-byte.byte-index digits (omega arith) in
    small_enough digits c.loop-byte.number (some_bytes (length digits) (sym c.is_empty.ensures ∙ c.if-is_empty.false)) (ap
    (list_all is_ascii_digit) (sym whole) ∙ c.loop-byte.invariant.digits) (subst (λ l. IsNumberOf c.loop-byte.number
    (digits_value 10 l)) whole c.loop-byte.invariant.number) (omega arith)
