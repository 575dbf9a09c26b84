use Rattle.std.proofs.Common.{◌≡◌, drop, get_or, true, false, ◌==◌, sym, ap, ◌∙◌, arith, take_all, length-drop}
use Rattle.std.specs.Prelude.{option_map}
use Rattle.fast_float.specs.Text.{scan}
use Rattle.serde_json.specs.Read.{number_of, number_from}
use Rattle.site_bodies.specs.Numerals.{kind_of}
use Rattle.serde_json.proofs.Numbers.{number_of-decimal}
use Rattle.site_digits.proofs.Written.{number_is}
use Rattle.site_bodies.proofs.numeral.make_numeric.Goals as goal

pub returns-in-Some : goal.returns-in-Some
returns-in-Some c =
    let (same, small) = number_is c.as_bytes-bytes.result.now c.in-Some.n c.in-Some.ensures in
    ap (λ s. option_map kind_of (number_of s)) (sym (same ∙ c.as_bytes-bytes.ensures.value))
    ∙ ap (option_map kind_of) (number_of-decimal c.in-Some.n small)

pub returns-then-has_minus : goal.returns-then-has_minus
unfolding number_of
returns-then-has_minus c =
    let s = c.as_bytes-bytes.result.now in
    let signed : (get_or s 0 0 == 45) ≡ true = sym c.if-has_minus.ensures.value in
    let parts : c.scan.result ≡ scan (drop 1 s) = c.scan.ensures.parts
    ∙ ap scan (take_all _ (drop 1 s) (omega (arith, length-drop 1 s))) in
    let read : number_from true (scan (drop 1 s)) ≡ number_of s = rw signed in
    ap (option_map kind_of) (sym (ap (number_from true) parts ∙ read
    ∙ ap number_of c.as_bytes-bytes.ensures.value)) ∙ c.below.ensures

pub returns-else-has_minus : goal.returns-else-has_minus
unfolding number_of
returns-else-has_minus c =
    let s = c.as_bytes-bytes.result.now in
    let unsigned : (get_or s 0 0 == 45) ≡ false = sym c.if-has_minus.ensures.value in
    let read : number_from false (scan s) ≡ number_of s = rw unsigned in
    ap (option_map kind_of) (sym (ap (number_from false) c.scan-else-has_minus.ensures.parts ∙ read
    ∙ ap number_of c.as_bytes-bytes.ensures.value)) ∙ c.above.ensures
