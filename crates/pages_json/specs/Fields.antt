-- What the fields of an object are.
use Rattle.std.specs.Prelude.{ℕ, List, Bool, option_map}
use Rattle.std.specs.Borrow.{Bor}
use Rattle.std.specs.List.{list_all}
use Rattle.serde_json.specs.Data.{Data, boolean, string}
use Rattle.pages_json.specs.declared.field.Field.{Field}
use Rattle.pages_json.specs.declared.field.Field.TheVariants.{Number, Maybe, Text, MaybeText, Integer, Flag, MaybeFlag}
use Rattle.pages_json.specs.Words.{boolean_or_null, integer, is_key, name_in, text_or_null, whole, whole_or_null}

abbrev pub field_tree : Field → Data
field_tree (Number n) = whole n
field_tree (Maybe n) = whole_or_null n
field_tree (Text text) = string text.now
field_tree (MaybeText text) = text_or_null (option_map (λ t. t.now) text)
field_tree (Integer z) = integer z
field_tree (Flag holds) = boolean holds
field_tree (MaybeFlag holds) = boolean_or_null holds

-- the name in a key, and its tree
abbrev pub member_of : Bor (List ℕ) × Field → List ℕ × Data
member_of m = (name_in m.0.now, field_tree m.1)

-- each key is written as in a text
abbrev pub are_keys : List (Bor (List ℕ) × Field) → Bool
are_keys fields = list_all (λ m. is_key m.0.now) fields
