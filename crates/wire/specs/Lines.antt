-- The fields of a head, by its lines.
use Rattle.std.specs.Prelude.{ℕ, ◌+◌, List, [], ◌∷◌, ◌++◌, length, take, drop, nat_lt, ◌==◌, if◌then◌else◌}
use Rattle.std.specs.List.{before_first, flat_map, position_or_len, slice_split}
use Rattle.httparse.specs.Grammar.{RequestHead, print_version, trim_ows}
use Rattle.wire.specs.Fields.{Pair}

-- where the name of a line ends: at its first colon, or else at its end
abbrev pub name_end : List ℕ → ℕ
name_end line = position_or_len (λ b. b == 58) line

-- the value after a colon: up to the carriage return, without spaces and tabs round it
abbrev pub value_after : List ℕ → List ℕ
value_after raw = trim_ows (before_first (λ b. b == 13) raw)

-- the field of a line; a line with no colon has none
unfoldable pub field_in : List ℕ → List Pair
field_in line =
    if nat_lt (name_end line) (length line) then (take (name_end line) line, value_after (drop (name_end line + 1) line)) ∷ [] else []

-- the fields of the lines that line feeds part
unfoldable pub fields_in : List ℕ → List Pair
fields_in text = flat_map field_in (slice_split (λ b. b == 10) text)

-- the line of a request without its end
abbrev pub request_line : RequestHead → List ℕ
request_line h = h.method ++ 32 ∷ (h.target ++ 32 ∷ print_version h.minor)
