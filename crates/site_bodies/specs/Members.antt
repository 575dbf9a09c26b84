-- The object that a body is, as serde_json reads it. Start here. Of equal keys the last counts, and a
-- text in which any number is too large for a float is refused.
use Rattle.std.specs.Prelude.{◌≡◌, ℕ, List, Bool, true, false, ◌&&◌, Option, Some, None, is_some, option_and_then, if◌then◌else◌, Result, Ok, Err, ⊤, IsUtf8}
use Rattle.std.specs.Str.{is_utf8}
use Rattle.json.specs.Json as json
use Rattle.json.specs.Value.{value_view}
use Rattle.json.specs.declared.value.Value.{Value}
use Rattle.serde_json.specs.Data.{Data, Members}
use Rattle.serde_json.specs.Find.{as_object}
use Rattle.serde_json.specs.Read.{of_json, read}
use Rattle.site_bodies.specs.declared.fault.BodyFault.{BodyFault}
use Rattle.site_bodies.specs.declared.fault.BodyFault.TheVariants as fault
use Rattle.site_bodies.specs.declared.judged.Judged.{Judged}
use Rattle.site_bodies.specs.declared.judged.Judged.TheVariants.{Readable, Refused, Deep}

-- the members of a body; none where it is no object of JSON
unfoldable pub body_of : List ℕ → Option Members
body_of body = if is_utf8 body then option_and_then as_object (read body) else None

-- ---- of a tree that was read

abbrev pub members_in : json.Json → Option Members
members_in j = option_and_then as_object (of_json j)

-- what reading a text as a tree gives
abbrev pub IsTree : {A : Type 0} → List ℕ → Result (Value A) BodyFault → Type 0
IsTree text (Ok tree) = read text ≡ of_json (value_view tree)
IsTree text (Err fault.NoObject) = read text ≡ None
IsTree text (Err fault.Memory) = ⊤

-- each value of the members can be read
abbrev pub all_readable : json.Members → Bool
all_readable json.no_members = true
all_readable (json.member k j ms) = is_some (of_json j) && all_readable ms

-- what was seen of a value
abbrev pub IsValueJudged : Judged → json.Json → Type 0
IsValueJudged Readable j = is_some (of_json j) ≡ true
IsValueJudged Refused j = is_some (of_json j) ≡ false
IsValueJudged Deep j = ⊤

-- what was seen of members, up to the first array or object among them
abbrev pub AreJudged : Judged → json.Members → Type 0
AreJudged Readable ms = all_readable ms ≡ true
AreJudged Refused ms = all_readable ms ≡ false
AreJudged Deep ms = ⊤

-- and of a tree: an object that serde_json reads, nothing that it reads as one, or an object that has more inside
abbrev pub IsJudged : Judged → json.Json → Type 0
IsJudged Readable j = is_some (members_in j) ≡ true
IsJudged Refused j = members_in j ≡ None
IsJudged Deep j = (ms : json.Members) × (j ≡ json.object ms)

-- whether serde_json reads the bytes
abbrev pub Reads : List ℕ → Result (Unit {0}) BodyFault → Type 0
Reads bytes (Ok u) = (d : Data) × IsUtf8 bytes × (read bytes ≡ Some d)
Reads bytes (Err fault.NoObject) = body_of bytes ≡ None
Reads bytes (Err fault.Memory) = ⊤
