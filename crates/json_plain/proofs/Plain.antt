-- What plain bytes write.
use Rattle.std.proofs.Common.{◌≡◌, ◌↔◌, ℕ, ◌<◌, ◌+◌, Bool, true, false, IsTrue, List, [], ◌∷◌, ◌++◌, length, take, get_or, sym, ap, refl, arith, true≢false, ◌∙◌}
use Rattle.std.specs.Prelude.{◌&&◌}
use Rattle.std.proofs.lemmas.List.{take_more}
use Rattle.std.proofs.lemmas.List.Concat.{flat_map-append}
use Rattle.json.specs.Print.{escape, escape_byte}
use Rattle.json.proofs.Printed.Strings.{escape_byte_plain}
use Rattle.json_plain.specs.Plain.{IsPlainByte}

-- one byte more that stands for itself
pub plain_step : (bytes : List ℕ) (i : ℕ) → i < length bytes → escape (take i bytes) ≡ take i bytes
    → IsPlainByte (get_or bytes i 0) → escape (take (i + 1) bytes) ≡ take (i + 1) bytes
plain_step bytes i inside before is =
    let here = escape_byte_plain (get_or bytes i 0) is.1 is.2 is.0 in
    let more = take_more bytes i 0 inside in
    ap escape more ∙ flat_map-append escape_byte (take i bytes) (get_or bytes i 0 ∷ [])
    ∙ (λ k. before k ++ (here k ++ [])) ∙ sym more

-- of the bytes so far all stand for themselves, or one doesn't
pub record AreSeen (bytes : List ℕ) (i : ℕ) (plain : Bool) : Type 0 where
  pub all : IsTrue plain → escape (take i bytes) ≡ take i bytes
  pub other : plain ≡ false → (place : ℕ) × (place < i) × ¬ (IsPlainByte (get_or bytes place 0))

pub none_seen : (bytes : List ℕ) → AreSeen bytes 0 true
none_seen bytes = record { all = λ _. refl; other = λ is. absurd (true≢false is) }

-- one byte more
pub one_seen : (bytes : List ℕ) (i : ℕ) (is plain : Bool) → i < length bytes → (IsTrue is ↔ IsPlainByte (get_or bytes i 0))
    → AreSeen bytes i plain → AreSeen bytes (i + 1) (is && plain)
one_seen bytes i true plain inside report seen = record {
  all = λ plain. plain_step bytes i inside (seen.all plain) (report.0 refl);
  other = λ not. let one = seen.other not in (one.0, omega (arith, one.1), one.2);
}
one_seen bytes i false plain inside report seen = record {
  all = λ no. absurd (true≢false (sym no));
  other = λ _. (i, omega arith, λ is. true≢false (sym (report.1 is)));
}
