-- The members of an object that has nothing inside but texts, whole numbers and nulls.
use Rattle.std.specs.Prelude.{◌≡◌, List, [], ◌∷◌, Some, decimal}
use Rattle.std.specs.Fmt.{signed_decimal}
use Rattle.json.specs.Json as json
use Rattle.json.specs.Lex.{Lexeme, token, colon}
use Rattle.json.specs.Token.{Token, null, number, string}
use Rattle.serde_json.specs.Data as serde
use Rattle.serde_json.specs.Read.{of_json}
use Rattle.site_bodies.specs.declared.slots.Plain.{Plain}
use Rattle.site_bodies.specs.declared.slots.Plain.TheVariants as plain
use Rattle.site_bodies.specs.declared.slots.Slot.{Slot}

-- the token of a value
abbrev pub token_of : Plain → Token
token_of (plain.Whole n) = number (decimal n)
token_of (plain.Below z) = number (signed_decimal z)
token_of (plain.Text s) = string s.now
token_of plain.Null = null

-- the value that a reader of JSON makes of it
abbrev pub json_of : Plain → json.Json
json_of (plain.Whole n) = json.number (decimal n)
json_of (plain.Below z) = json.number (signed_decimal z)
json_of (plain.Text s) = json.string s.now
json_of plain.Null = json.null

-- and serde_json
abbrev pub data_of : Plain → serde.Data
data_of (plain.Whole n) = serde.number (serde.unsigned n)
data_of (plain.Below z) = serde.number (serde.negative z)
data_of (plain.Text s) = serde.string s.now
data_of plain.Null = serde.null

abbrev pub members_of : List Slot → json.Members
members_of [] = json.no_members
members_of (s ∷ ss) = json.member s.name.now (json_of s.value) (members_of ss)

-- a value that serde_json reads from its token
abbrev pub IsMeant : Plain → Type 0
IsMeant v = of_json (json_of v) ≡ Some (data_of v)

-- the members go in one after another
abbrev pub put_all : List Slot → serde.Members → serde.Members
put_all [] found = found
put_all (s ∷ ss) found = put_all ss (serde.put s.name.now (data_of s.value) found)

-- what the lexer makes of a member
abbrev pub slot_lexemes : Slot → List Lexeme
slot_lexemes s = token (string s.name.now) ∷ colon ∷ token (token_of s.value) ∷ []
