-- An object of one number or one text, as it is read.
use Rattle.std.proofs.Common.{◌≡◌, ◌≢◌, ℕ, ◌<◌, ◌≤◌, ◌+◌, List, [], ◌∷◌, ◌++◌, length, take, get_or, refl, sym, ap, ◌∙◌, subst, Option, Some, None}
use Rattle.std.specs.Prelude.{IfSome}
use Rattle.std.specs.Borrow.{Bor}
use Rattle.std.specs.Str.{IsAscii, IsUtf8}
use Rattle.std.proofs.lemmas.List.{take_more}
use Rattle.std.proofs.lemmas.List.Concat.{flat_map-append}
use Rattle.std.proofs.lemmas.Str.{IsUtf8-from_ascii}
use Rattle.json.specs.Lex.{token}
use Rattle.json.specs.Print.{escape, escape_byte}
use Rattle.json.specs.Token as t
use Rattle.json.specs.Token.{begin_object}
use Rattle.json.proofs.Printed.Strings.{escape_byte_plain}
use Rattle.serde_json.specs.Data.{no_members, number, put, string, unsigned}
use Rattle.serde_json.proofs.Views.{get_member-put}
use Rattle.site_digits.specs.Digits.{number_in}
use Rattle.site_digits.proofs.Written.{number_is}
use Rattle.site_bodies.specs.Fields.{text_at, whole_at}
use Rattle.site_bodies.specs.LoneNumber.{IsLone}
use Rattle.site_bodies.specs.LoneString.{IsLoneText, IsPlain}
use Rattle.site_bodies.specs.Members.{body_of}
use Rattle.site_bodies.specs.Passes.{IsValue, Passes}
use Rattle.site_bodies.specs.Slots.{data_of}
use Rattle.site_bodies.specs.Values.{text_in, whole_in}
use Rattle.site_bodies.specs.declared.slots.Plain.TheVariants as plain
use Rattle.site_bodies.specs.declared.slots.Slot.{Slot}
use Rattle.site_bodies.proofs.Walked.{close_passed, member_read, nothing_passed, open_passed, text_passed, text_value, walk_begins, walk_ends, whole_value}

-- a body in parts: a name that is written as it is, and its value
alone : {bytes inside named rest value : List ℕ} (slot : Slot) → escape slot.name.now ≡ slot.name.now
    → IsAscii slot.name.now → bytes ≡ (123 ∷ 34 ∷ []) ++ inside → inside ≡ slot.name.now ++ named
    → named ≡ (34 ∷ 58 ∷ []) ++ rest → Passes rest [] value → IsValue value slot.value (125 ∷ [])
    → body_of bytes ≡ Some (put slot.name.now (data_of slot.value) no_members)
alone {bytes} {inside} {named} {rest} {value} slot own ascii front is rest_after gap read =
    let name = text_passed slot.name.now (58 ∷ rest) own (IsUtf8-from_ascii _ ascii) in
    let whole : bytes ≡ 123 ∷ 34 ∷ (slot.name.now ++ 34 ∷ 58 ∷ rest) =
    front ∙ ap (λ l. 123 ∷ 34 ∷ l) (is ∙ ap (λ l. slot.name.now ++ l) rest_after) in
    let begun = subst (λ l. Passes l (token begin_object ∷ []) (34 ∷ (slot.name.now ++ 34 ∷ 58 ∷ rest))) (sym whole)
    (open_passed _) in
    walk_ends [] slot (walk_begins begun) (member_read slot name (nothing_passed (58 ∷ rest)) refl gap read)
    (close_passed [])

pub whole_alone : {bytes inside named rest value : List ℕ} (name : Bor (List ℕ)) (digits : List ℕ) (o : Option ℕ)
    → escape name.now ≡ name.now → IsAscii name.now → bytes ≡ (123 ∷ 34 ∷ []) ++ inside → inside ≡ name.now ++ named
    → named ≡ (34 ∷ 58 ∷ []) ++ rest → Passes rest [] value → value ≡ digits ++ 125 ∷ [] → o ≡ number_in digits
    → IfSome o (IsLone bytes name.now)
whole_alone name digits None own ascii front is rest_after gap ends report = tt
whole_alone name digits (Some n) own ascii front is rest_after gap ends report =
    let written = number_is digits n report in
    alone (record { name = name; value = plain.Whole n }) own ascii front is rest_after gap (whole_value n (record {
      same = ends ∙ ap (λ l. l ++ 125 ∷ []) (sym written.0);
      small = written.1;
      ended = refl;
    }))

pub text_alone : {bytes inside named rest quoted value : List ℕ} (name : Bor (List ℕ)) (text : List ℕ)
    (o : Option (Bor (List ℕ)))
    → escape name.now ≡ name.now → IsAscii name.now → bytes ≡ (123 ∷ 34 ∷ []) ++ inside → inside ≡ name.now ++ named
    → named ≡ (34 ∷ 58 ∷ []) ++ rest → Passes rest [] quoted → quoted ≡ 34 ∷ value → value ≡ text ++ 34 ∷ 125 ∷ []
    → IfSome o (λ s. IsPlain text s.now) → IfSome o (λ s. IsLoneText bytes name.now s.now)
text_alone name text None own ascii front is rest_after gap quote ends report = tt
text_alone {quoted = quoted} name text (Some s) own ascii front is rest_after gap quote ends report =
    let passed : Passes quoted (token (t.string text) ∷ []) (125 ∷ []) =
    subst (λ l. Passes l (token (t.string text) ∷ []) (125 ∷ [])) (sym (quote ∙ ap (λ l. 34 ∷ l) ends))
    (text_passed text (125 ∷ []) report.plain report.utf8) in
    alone (record { name = name; value = plain.Text s }) own ascii front is rest_after gap
    (text_value s (subst (λ l. Passes quoted (token (t.string l) ∷ []) (125 ∷ [])) (sym report.same) passed))

-- a text of bytes that stand for themselves
pub plain_is : {bytes : List ℕ} (o : Option (Bor (List ℕ))) → escape bytes ≡ bytes
    → IfSome o (λ s. (s.now ≡ bytes) × IsUtf8 bytes) → IfSome o (λ s. IsPlain bytes s.now)
plain_is None own report = tt
plain_is (Some s) own report = record { same = report.0; plain = own; utf8 = report.1 }

-- ---- what is alone is the field

pub whole_lone : (name : List ℕ) (n : ℕ) → whole_at name (put name (number (unsigned n)) no_members) ≡ Some n
unfolding whole_at
whole_lone name n = ap whole_in (get_member-put name (number (unsigned n)) no_members)

pub text_lone : (name s : List ℕ) → text_at name (put name (string s) no_members) ≡ Some s
unfolding text_at
text_lone name s = ap text_in (get_member-put name (string s) no_members)
