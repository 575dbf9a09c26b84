use Rattle.std.proofs.Common.{sym, ◌∙◌}
use Rattle.std.proofs.lemmas.Bool.{false≢true}
use Rattle.cents.proofs.DigitLemmas.{digits_on, not_digit, number_more}
use Rattle.cents.proofs.digits.number.Goals as goal

pub returns-then-not-is_ascii_digit-clause-digits : goal.returns-then-not-is_ascii_digit-clause-digits
returns-then-not-is_ascii_digit-clause-digits c =
    let none = not_digit c.args.digits.now c.loop-byte.byte-index c.loop-byte-test.true (sym c.is_ascii_digit.ensures.value ∙ c.if-not-is_ascii_digit.true) in
    ((λ e. absurd (false≢true e)), (λ numeral. absurd (none numeral)))

pub loop-byte-preserved : goal.loop-byte-preserved
loop-byte-preserved c =
    let is_digit = sym c.is_ascii_digit.ensures.value ∙ c.if-not-is_ascii_digit.false in
    record {
      digits = digits_on c.args.digits.now c.loop-byte.byte-index c.loop-byte-test.true c.loop-byte.invariant.digits is_digit;
      number = number_more c.args.digits.now c.loop-byte.byte-index c.from.result c.loop-byte.number c.min-number.result _ c.loop-byte-test.true is_digit c.loop-byte.invariant.number c.from.ensures c.min-number.ensures;
    }
