-- What the fields of a head say.
use Rattle.std.specs.Prelude.{ℕ, List, [], ◌∷◌, ◌++◌, Bool, ◌||◌, ◌&&◌, not, ◌==◌, nat_lt, length, map, filter, codes, Option, Some, None, Result, Ok, Err, if◌then◌else◌}
use Rattle.std.specs.List.{list_all, list_any}
use Rattle.std.specs.Char.{is_ascii_digit}
use Rattle.std.specs.Str.{str_eq_ignore_ascii_case}
use Rattle.std.specs.Str.Parse.{digits_value}
use Rattle.httparse.specs.Grammar.{trim_ows}
use Rattle.wire.specs.declared.fault.WireFault.{WireFault}
use Rattle.wire.specs.declared.fault.WireFault.TheVariants as fault

-- a field: its name, and its value without spaces and tabs round it
abbrev pub Pair : Type 0
Pair = List ℕ × List ℕ

-- the most bytes of a body
abbrev pub most_body : ℕ
most_body = 16384

-- the values of the fields of that name, in their order; names are compared without ASCII case
unfoldable pub values_of : List ℕ → List Pair → List (List ℕ)
values_of name fields = map (λ f. f.1) (filter (λ f. str_eq_ignore_ascii_case f.0 name) fields)

-- the one value, where there is exactly one
abbrev pub only : List (List ℕ) → Option (List ℕ)
only [] = None
only (value ∷ []) = Some value
only (value ∷ other ∷ values) = None

-- HTTP/1.1 needs exactly one host, HTTP/1.0 none (RFC 9112, 3.2)
unfoldable pub has_host : ℕ → List Pair → Bool
has_host minor fields = minor == 0 || length (values_of (codes "host") fields) == 1

-- a field names a transfer coding, whatever its value (RFC 9112, 6.1)
unfoldable pub has_transfer : List Pair → Bool
has_transfer fields = list_any (λ f. str_eq_ignore_ascii_case f.0 (codes "transfer-encoding")) fields

-- the number that one or more digits write, if it is no larger than a body may be
unfoldable pub body_length : List ℕ → Result ℕ WireFault
body_length digits =
    if not (nat_lt 0 (length digits) && list_all is_ascii_digit digits) then Err fault.Length else (
    if nat_lt most_body (digits_value 10 digits) then Err fault.Size else Ok (digits_value 10 digits))

-- the length of the body by the values of the field that gives it: none is 0, two are a fault (RFC
-- 9112, 6.3)
abbrev pub length_by : List (List ℕ) → Result ℕ WireFault
length_by [] = Ok 0
length_by (digits ∷ []) = body_length digits
length_by (digits ∷ others ∷ more) = Err fault.Length

-- the pieces of a list that commas part, after what the first has so far
abbrev pub pieces_after : List ℕ → List ℕ → List (List ℕ)
pieces_after piece [] = piece ∷ []
pieces_after piece (b ∷ bytes) = if b == 44 then piece ∷ pieces_after [] bytes else pieces_after (piece ++ b ∷ []) bytes

-- the token `close` in any case, spaces and tabs round it dropped
unfoldable pub is_close : List ℕ → Bool
is_close piece = str_eq_ignore_ascii_case (trim_ows piece) (codes "close")

-- a list has the token `close`
unfoldable pub names_close : List ℕ → Bool
names_close list = list_any is_close (pieces_after [] list)

-- the connection ends after the message: it is of HTTP/1.0, or some `connection` names `close` (RFC 9112, 9.3)
unfoldable pub ends_connection : ℕ → List Pair → Bool
ends_connection minor fields = minor == 0 || list_any names_close (values_of (codes "connection") fields)
