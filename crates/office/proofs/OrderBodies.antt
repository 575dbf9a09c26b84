-- An object of whole numbers and texts is read back from its text, and a lot's object as its listing.
use Rattle.std.proofs.Common.{◌≡◌, ℕ, ◌<◌, ◌≤◌, ◌^◌, List, [], ◌∷◌, Bool, true, false, refl, sym, ap, ◌∙◌, arith, decimal, codes, append-nil, Option, Some, None, Ok}
use Rattle.std.specs.Prelude.{IsUtf8, ⊤, IfSome, option_and_then, option_map}
use Rattle.std.proofs.lemmas.Fmt.{IsAscii-decimal}
use Rattle.std.proofs.lemmas.Str.{IsUtf8-append, IsUtf8-from_ascii, IsUtf8-nil, is_utf8-from_IsUtf8}
use Rattle.json.specs.Json as json
use Rattle.json.specs.Lex.{tokens}
use Rattle.json.specs.Token.{Token}
use Rattle.json.specs.Tree as tree
use Rattle.json.specs.Tree.{HasNumbers, MembersHaveNumbers, json_tokens}
use Rattle.json.proofs.Printed.Decimals.{IsNumber-decimal}
use Rattle.json.proofs.Printed.Tokens.{tokens-print}
use Rattle.json.proofs.Printed.Trees.{ArePrintable-json_tokens, value-json_tokens}
use Rattle.json.proofs.Printed.Utf8.{IsUtf8-are_ascii, IsUtf8-quoted}
use Rattle.serde_json.specs.Data.{Data, Members, no_members, number, object, put, string}
use Rattle.serde_json.specs.Find.{as_object}
use Rattle.serde_json.specs.Read.{max_depth, of_json, of_members, read}
use Rattle.serde_json.specs.Written.{comma_if, compact_text, members_outline, members_text, outline}
use Rattle.serde_json.proofs.Numbers.{number_of-decimal}
use Rattle.serde_json.proofs.Texts.{print-outline}
use Rattle.house_rows.specs.declared.command.Command.TheVariants as command
use Rattle.pages_json.specs.Words.{AreInOrder, keyed, object_of, put_all, text_of, whole}
use Rattle.site_bodies.specs.Fields.{maybe_whole_at, text_at as body_text_at, whole_at}
use Rattle.site_bodies.specs.Members.{body_of}
use Rattle.site_request.specs.Commands.{command_of, fields_in, listing_in, object_at, or_no_object}
use Rattle.site_request.specs.Fields.{◌>>=◌, number_at, optional_at, text_at}
use Rattle.site_request.specs.declared.command_path.CommandPath.TheVariants as command_path

-- ---- values

-- a value that is read back from its text
pub record IsPlain (d : Data) : Type 0 where
  pub numbers : HasNumbers (outline d)
  pub reads : of_json (outline d) ≡ Some d
  pub flat : tree.depth (outline d) ≡ 0
  pub utf8 : IsUtf8 (compact_text d)

pub whole_plain : (n : ℕ) → n < 2 ^ 64 → IsPlain (whole n)
whole_plain n fits = record {
  numbers = IsNumber-decimal n fits;
  reads = ap (option_map number) (number_of-decimal n fits);
  flat = refl;
  utf8 = IsUtf8-from_ascii (decimal n) (IsAscii-decimal n fits);
}

pub text_plain : (s : List ℕ) → IsUtf8 s → IsPlain (string s)
text_plain s utf8 = record { numbers = tt; reads = refl; flat = refl; utf8 = IsUtf8-quoted s utf8 }

-- ---- members

abbrev pub ArePlain : List (List ℕ × Data) → Type 0
ArePlain [] = ⊤
ArePlain (m ∷ ms) = IsUtf8 m.0 × IsPlain m.1 × ArePlain ms

members_numbers : (ms : List (List ℕ × Data)) → ArePlain ms → MembersHaveNumbers (members_outline (keyed ms))
members_numbers [] plain = tt
members_numbers (m ∷ ms) plain = (plain.1.numbers, members_numbers ms plain.2)

members_flat : (ms : List (List ℕ × Data)) → ArePlain ms → tree.members_depth (members_outline (keyed ms)) ≡ 0
members_flat [] plain = refl
members_flat (m ∷ ms) plain =
    let first = plain.1.flat in
    let rest = members_flat ms plain.2 in
    omega (arith, first, rest)

members_read : (ms : List (List ℕ × Data)) (found : Members) → ArePlain ms
    → of_members (members_outline (keyed ms)) found ≡ Some (put_all ms found)
members_read [] found plain = refl
members_read (m ∷ ms) found plain =
    ap (option_and_then (λ d. of_members (members_outline (keyed ms)) (put m.0 d found))) plain.1.reads
    ∙ members_read ms (put m.0 m.1 found) plain.2

comma_utf8 : (later : Bool) → IsUtf8 (comma_if later)
comma_utf8 true = IsUtf8-are_ascii (44 ∷ []) refl
comma_utf8 false = IsUtf8-nil

members_utf8 : (later : Bool) (ms : List (List ℕ × Data)) → ArePlain ms → IsUtf8 (members_text later (keyed ms))
members_utf8 later [] plain = IsUtf8-are_ascii (125 ∷ []) refl
members_utf8 later (m ∷ ms) plain =
    IsUtf8-append _ _ (comma_utf8 later)
    (IsUtf8-append _ _ (IsUtf8-quoted m.0 plain.0)
    (IsUtf8-append (58 ∷ []) _ (IsUtf8-are_ascii (58 ∷ []) refl)
    (IsUtf8-append _ _ plain.1.utf8 (members_utf8 true ms plain.2))))

-- ---- objects

-- what is read off as the whole of a text
abbrev whole_text : Option (json.Json × List Token) → Option Data
whole_text found = option_and_then of_json (option_and_then (λ p. json.if_last p.0 p.1) found)

object_read : (ms : List (List ℕ × Data)) → ArePlain ms → AreInOrder ms
    → read (compact_text (object_of ms)) ≡ Some (object_of ms)
object_read ms plain ordered =
    let d = object_of ms in
    let j = outline d in
    let numbers : HasNumbers j = members_numbers ms plain in
    let lexed : tokens (compact_text d) ≡ json_tokens j =
    ap tokens (sym (print-outline d)) ∙ tokens-print (json_tokens j) (ArePrintable-json_tokens j numbers) in
    let shallow : tree.depth j ≤ max_depth = omega (arith, members_flat ms plain) in
    ap whole_text (ap (json.value max_depth) (lexed ∙ sym (append-nil (json_tokens j)))
    ∙ value-json_tokens j max_depth [] shallow)
    ∙ ap (option_map object) (members_read ms no_members plain ∙ ap Some ordered)

by_reading : (text : List ℕ) (d : Data) → IsUtf8 text → read text ≡ Some d → body_of text ≡ as_object d
unfolding body_of
by_reading text d utf8 is = rw (is_utf8-from_IsUtf8 text utf8) (ap (option_and_then as_object) is)

pub body_read : (ms : List (List ℕ × Data)) → ArePlain ms → AreInOrder ms
    → body_of (text_of (object_of ms)) ≡ Some (keyed ms)
unfolding text_of
body_read ms plain ordered =
    by_reading (compact_text (object_of ms)) (object_of ms)
    (IsUtf8-append (123 ∷ []) _ (IsUtf8-are_ascii (123 ∷ []) refl) (members_utf8 false ms plain))
    (object_read ms plain ordered)

-- ---- the object of a lot

abbrev pub lot_members : ℕ → List ℕ → List ℕ → List ℕ → ℕ → ℕ → List (List ℕ × Data)
lot_members category lot title text start end =
    (codes "category", whole category)
    ∷ (codes "end", whole end)
    ∷ (codes "lot", string lot)
    ∷ (codes "start", whole start)
    ∷ (codes "text", string text)
    ∷ (codes "title", string title) ∷ []

-- the members, by the price for buying at once
abbrev pub members_with : Option ℕ → ℕ → List ℕ → List ℕ → List ℕ → ℕ → ℕ → List (List ℕ × Data)
members_with None category lot title text start end = lot_members category lot title text start end
members_with (Some buy_now) category lot title text start end =
    (codes "buy_now", whole buy_now) ∷ lot_members category lot title text start end

lot_plain : (category : ℕ) (lot title text : List ℕ) (start end : ℕ) → category < 2 ^ 64 → IsUtf8 lot → IsUtf8 title
    → IsUtf8 text → start < 2 ^ 64 → end < 2 ^ 64 → ArePlain (lot_members category lot title text start end)
lot_plain category lot title text start end fc ul ut ux fs fe = (
  IsUtf8-are_ascii (codes "category") refl,
  whole_plain category fc,
  (
    IsUtf8-are_ascii (codes "end") refl,
    whole_plain end fe,
    (
      IsUtf8-are_ascii (codes "lot") refl,
      text_plain lot ul,
      (
        IsUtf8-are_ascii (codes "start") refl,
        whole_plain start fs,
        (
          IsUtf8-are_ascii (codes "text") refl,
          text_plain text ux,
          (IsUtf8-are_ascii (codes "title") refl, text_plain title ut, tt),
        ),
      ),
    ),
  ),
)

plain_with : (buy_now : Option ℕ) (category : ℕ) (lot title text : List ℕ) (start end : ℕ)
    → IfSome buy_now (λ n. n < 2 ^ 64) → category < 2 ^ 64 → IsUtf8 lot → IsUtf8 title
    → IsUtf8 text → start < 2 ^ 64 → end < 2 ^ 64 → ArePlain (members_with buy_now category lot title text start end)
plain_with None category lot title text start end fb fc ul ut ux fs fe =
    lot_plain category lot title text start end fc ul ut ux fs fe
plain_with (Some n) category lot title text start end fb fc ul ut ux fs fe =
    (IsUtf8-are_ascii (codes "buy_now") refl, whole_plain n fb, lot_plain category lot title text start end fc ul ut ux fs fe)

in_order : (buy_now : Option ℕ) (category : ℕ) (lot title text : List ℕ) (start end : ℕ)
    → AreInOrder (members_with buy_now category lot title text start end)
in_order None category lot title text start end = refl
in_order (Some n) category lot title text start end = refl

listing_is : (buy_now : Option ℕ) (category : ℕ) (lot title text : List ℕ) (start end : ℕ)
    → listing_in (keyed (members_with buy_now category lot title text start end))
    ≡ Ok (command.List category lot title text start buy_now end None)
unfolding listing_in number_at optional_at text_at whole_at maybe_whole_at body_text_at
listing_is None category lot title text start end = refl
listing_is (Some n) category lot title text start end = refl

pub listing_read : (buy_now : Option ℕ) (category : ℕ) (lot title text : List ℕ) (start end : ℕ)
    → IfSome buy_now (λ n. n < 2 ^ 64) → category < 2 ^ 64 → IsUtf8 lot → IsUtf8 title
    → IsUtf8 text → start < 2 ^ 64 → end < 2 ^ 64
    → command_of command_path.List (text_of (object_of (members_with buy_now category lot title text start end)))
    ≡ Ok (command.List category lot title text start buy_now end None)
unfolding command_of object_at fields_in
listing_read buy_now category lot title text start end fb fc ul ut ux fs fe =
    let ms = members_with buy_now category lot title text start end in
    ap (λ found. or_no_object found >>= fields_in command_path.List)
    (body_read ms (plain_with buy_now category lot title text start end fb fc ul ut ux fs fe)
    (in_order buy_now category lot title text start end))
    ∙ listing_is buy_now category lot title text start end
