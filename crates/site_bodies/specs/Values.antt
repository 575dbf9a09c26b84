-- What a field is, if it is there: a whole number, a text, a number or nothing.
use Rattle.std.specs.Prelude.{ℕ, ℤ, List, Option, Some, None, option_and_then, option_map}
use Rattle.serde_json.specs.Data.{Data, null, boolean, number, string, array, object}
use Rattle.serde_json.specs.Find.{as_i64, as_number, as_str, as_u64}

-- a whole number from 0 to 2^64 - 1
abbrev pub whole_in : Option Data → Option ℕ
whole_in field = option_and_then as_u64 (option_and_then as_number field)

-- a whole number from -2^63 to 2^63 - 1
abbrev pub integer_in : Option Data → Option ℤ
integer_in field = option_and_then as_i64 (option_and_then as_number field)

-- a text
abbrev pub text_in : Option Data → Option (List ℕ)
text_in field = option_and_then as_str field

-- a whole number or none; null is as good as absent
abbrev pub maybe_whole_in : Option Data → Option (Option ℕ)
maybe_whole_in None = Some None
maybe_whole_in (Some null) = Some None
maybe_whole_in (Some (boolean b)) = None
maybe_whole_in (Some (number n)) = option_map Some (as_u64 n)
maybe_whole_in (Some (string s)) = None
maybe_whole_in (Some (array ds)) = None
maybe_whole_in (Some (object ms)) = None
