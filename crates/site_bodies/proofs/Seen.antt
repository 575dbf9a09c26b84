-- What was seen of a number.
use Rattle.std.proofs.Common.{◌≡◌, Option, Some, None, refl, ap, ◌∙◌}
use Rattle.std.specs.Prelude.{option_map, option_and_then, is_some}
use Rattle.serde_json.specs.Data.{Num, unsigned, negative, float, number}
use Rattle.serde_json.specs.Find.{as_i64, as_u64}
use Rattle.site_bodies.specs.declared.numeral.Numeric.{Numeric}
use Rattle.site_bodies.specs.Numerals.{integer_of, kind_of, whole_of}

whole_of_kind : (o : Option Num) → option_and_then as_u64 o ≡ whole_of (option_map kind_of o)
whole_of_kind None = refl
whole_of_kind (Some (unsigned n)) = refl
whole_of_kind (Some (negative z)) = refl
whole_of_kind (Some (float x)) = refl

pub whole_seen : (o : Option Num) (r : Option Numeric) → option_map kind_of o ≡ r
    → option_and_then as_u64 o ≡ whole_of r
whole_seen o r e = whole_of_kind o ∙ ap whole_of e

integer_of_kind : (o : Option Num) → option_and_then as_i64 o ≡ integer_of (option_map kind_of o)
integer_of_kind None = refl
integer_of_kind (Some (unsigned n)) = refl
integer_of_kind (Some (negative z)) = refl
integer_of_kind (Some (float x)) = refl

pub integer_seen : (o : Option Num) (r : Option Numeric) → option_map kind_of o ≡ r
    → option_and_then as_i64 o ≡ integer_of r
integer_seen o r e = integer_of_kind o ∙ ap integer_of e

some_made : {A B C : Type 0} (f : A → B) (g : A → C) (o : Option A)
    → is_some (option_map f o) ≡ is_some (option_map g o)
some_made f g None = refl
some_made f g (Some x) = refl

-- whether there is one
pub number_seen : (o : Option Num) (r : Option Numeric) → option_map kind_of o ≡ r
    → is_some (option_map number o) ≡ is_some r
number_seen o r e = some_made number kind_of o ∙ ap is_some e
