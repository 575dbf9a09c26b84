-- Fields of an object that was read.
use Rattle.std.proofs.Common.{◌≡◌, ℕ, List, true, refl, ap, ◌∙◌, sym, Option, Some, None}
use Rattle.std.specs.Prelude.{is_some, option_and_then, option_map, unwrap_or}
use Rattle.json.specs.Find as jfind
use Rattle.json.specs.Json as json
use Rattle.serde_json.specs.Data.{Data, Items, Members, Num, array, no_members, number, object}
use Rattle.serde_json.specs.Find.{as_number, as_str, as_u64, get_member}
use Rattle.serde_json.specs.Read.{number_of, of_items, of_json, of_members}
use Rattle.site_bodies.specs.Values.{maybe_whole_in, text_in}
use Rattle.site_bodies.specs.Members.{members_in}
use Rattle.site_bodies.proofs.Readable.{field_is}

pub array_no_number : (o : Option Items) → option_and_then as_number (option_map array o) ≡ None
array_no_number None = refl
array_no_number (Some ds) = refl

pub object_no_number : (o : Option Members) → option_and_then as_number (option_map object o) ≡ None
object_no_number None = refl
object_no_number (Some ds) = refl

pub number_back : (o : Option Num) → option_and_then as_number (option_map number o) ≡ o
number_back None = refl
number_back (Some n) = refl

-- ---- values that an optional number may be

pub maybe_array : (o : Option Items) → is_some (option_map array o) ≡ true → maybe_whole_in (option_map array o) ≡ None
maybe_array None e = cc
maybe_array (Some ds) e = refl

pub maybe_object : (o : Option Members) → is_some (option_map object o) ≡ true
    → maybe_whole_in (option_map object o) ≡ None
maybe_object None e = cc
maybe_object (Some ds) e = refl

pub maybe_number : (o : Option Num) → is_some (option_map number o) ≡ true
    → maybe_whole_in (option_map number o) ≡ option_map Some (option_and_then as_u64 o)
maybe_number None e = cc
maybe_number (Some n) e = refl

-- the text of a value, as json and as serde_json say it
pub text_same : (i : json.Json) → text_in (of_json i) ≡ jfind.as_str i
text_same json.null = refl
text_same (json.boolean b) = refl
text_same (json.string s) = refl
text_same (json.number s) = no_number (number_of s) where
  no_number : (o : Option Num) → option_and_then as_str (option_map number o) ≡ None
  no_number None = refl
  no_number (Some n) = refl
text_same (json.array js) = no_array (of_items js) where
  no_array : (o : Option Items) → option_and_then as_str (option_map array o) ≡ None
  no_array None = refl
  no_array (Some n) = refl
text_same (json.object ms) = no_object (of_members ms no_members) where
  no_object : (o : Option Members) → option_and_then as_str (option_map object o) ≡ None
  no_object None = refl
  no_object (Some n) = refl

-- what a field is, by what comes last under its name
pub report : {A : Type 0} (kind : Option Data → Option A) (name : List ℕ) (j : json.Json) (last : Option json.Json)
    → is_some (members_in j) ≡ true → last ≡ jfind.get name j
    → kind (option_and_then of_json last) ≡ kind (get_member name (unwrap_or (members_in j) no_members))
report kind name j last e found = ap kind (ap (option_and_then of_json) found ∙ sym (field_is name j e))
