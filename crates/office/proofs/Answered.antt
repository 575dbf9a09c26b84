-- What an import takes out of an answer is what the answer says.
use Rattle.std.proofs.Common.{if◌then◌else◌, ◌≡◌, ◌∙◌, ◌++◌, ◌<◌, ◌^◌, ◌-◌, ℕ, List, [], ◌∷◌, Bool, true, false, None, ap, append_assoc, arith, codes, decimal, length, refl}
use Rattle.std.specs.Char.{is_ascii_digit}
use Rattle.std.specs.Fmt.{digits}
use Rattle.std.specs.Prelude.{drop, nat_eq}
use Rattle.std.specs.Str.{all_ascii_digits}
use Rattle.std.proofs.lemmas.Bool.{and_parts}
use Rattle.std.proofs.lemmas.Fmt.{digits_decimal, length-decimal-le}
use Rattle.std.proofs.lemmas.List.{length-append, take_at}
use Rattle.json.specs.Print.{escape_byte}
use Rattle.house_rows.specs.Names.{refusal_name}
use Rattle.house_rows.specs.declared.refusal.Refusal.{Refusal}
use Rattle.house_rows.specs.declared.refusal.Refusal.TheVariants.{NoCaller, HouseOnly, SellerOnly, Unknown, MomentBehind, Ended, NotOpen, OwnItem, Low, NotHigher, HasBids, NoBuyNow, LotExists, NameTaken, AlreadyAnswered, AlreadyGiven, NotParty, NotSold, Limit, Range}
use Rattle.house_rows.specs.declared.command_result.CommandResult.TheVariants.{Listing}
use Rattle.house_rows.specs.declared.reply.Reply.TheVariants.{Denied, Done}
use Rattle.pages_json.specs.Words.{text_of}
use Rattle.pages_text.specs.Trees.{floor_reported}
use Rattle.settle.specs.declared.zone.Zone.{Zone}
use Rattle.site_replies.specs.Texts.{reply_text}
use Rattle.status.specs.Status.{phrase_of}
use Rattle.status.specs.declared.Status.TheVariants.{Created}
use Rattle.wire.specs.Response.{allow_field, closing_field, head_end, head_start, response_bytes, status_line}
use Rattle.office.specs.Lines.{before_byte, from_byte, item_in, name_in}
use Rattle.office.proofs.ReadNumbers.{digits_own}

-- the name of a refusal, of each that tells no floor
pub name_told : (zone : Zone) (closes : Bool) (refusal : Refusal) → floor_reported refusal ≡ None
    → name_in (reply_text zone closes (Denied refusal)) ≡ refusal_name refusal
unfolding reply_text response_bytes head_start status_line phrase_of head_end allow_field closing_field text_of digits escape_byte
name_told zone true NoCaller e = refl
name_told zone false NoCaller e = refl
name_told zone true HouseOnly e = refl
name_told zone false HouseOnly e = refl
name_told zone true SellerOnly e = refl
name_told zone false SellerOnly e = refl
name_told zone true Unknown e = refl
name_told zone false Unknown e = refl
name_told zone true MomentBehind e = refl
name_told zone false MomentBehind e = refl
name_told zone true Ended e = refl
name_told zone false Ended e = refl
name_told zone true NotOpen e = refl
name_told zone false NotOpen e = refl
name_told zone true OwnItem e = refl
name_told zone false OwnItem e = refl
name_told zone true NotHigher e = refl
name_told zone false NotHigher e = refl
name_told zone true HasBids e = refl
name_told zone false HasBids e = refl
name_told zone true NoBuyNow e = refl
name_told zone false NoBuyNow e = refl
name_told zone true LotExists e = refl
name_told zone false LotExists e = refl
name_told zone true NameTaken e = refl
name_told zone false NameTaken e = refl
name_told zone true AlreadyAnswered e = refl
name_told zone false AlreadyAnswered e = refl
name_told zone true AlreadyGiven e = refl
name_told zone false AlreadyGiven e = refl
name_told zone true NotParty e = refl
name_told zone false NotParty e = refl
name_told zone true NotSold e = refl
name_told zone false NotSold e = refl
name_told zone true Limit e = refl
name_told zone false Limit e = refl
name_told zone true Range e = refl
name_told zone false Range e = refl
name_told zone closes (Low floor) e = cc

-- whether a text has no such byte
has_none : ℕ → List ℕ → Bool
has_none byte [] = true
has_none byte (b ∷ bs) = if nat_eq b byte then false else has_none byte bs

-- such a text is passed over
passed : (byte : ℕ) (xs ys : List ℕ) → has_none byte xs ≡ true
    → from_byte byte (xs ++ ys) ≡ from_byte byte ys
unfolding has_none
passed byte [] ys none = refl
passed byte (b ∷ bs) ys none = go (nat_eq b byte) none (passed byte bs ys)
  where
    go : (here : Bool) → (if here then false else has_none byte bs) ≡ true
        → (has_none byte bs ≡ true → from_byte byte (bs ++ ys) ≡ from_byte byte ys)
        → (if here then b ∷ (bs ++ ys) else from_byte byte (bs ++ ys)) ≡ from_byte byte ys
    go true none more = cc
    go false none more = more none

-- no digit is a brace
no_brace : (b : ℕ) → is_ascii_digit b ≡ true → (nat_eq b 123 ≡ false) × (nat_eq b 125 ≡ false)
no_brace b digit = (grind (arith, digit), grind (arith, digit))

no_braces : (s : List ℕ) → all_ascii_digits s ≡ true
    → (has_none 123 s ≡ true) × (has_none 125 s ≡ true)
unfolding has_none
no_braces [] all = (refl, refl)
no_braces (b ∷ bs) all =
    let parts = and_parts (is_ascii_digit b) (all_ascii_digits bs) all in
    let none = no_brace b parts.0 in
    let more = no_braces bs parts.1 in
    (rw none.0 more.0, rw none.1 more.1)

start_none : has_none 123 (head_start Created) ≡ true
unfolding has_none head_start status_line phrase_of
start_none = refl

end_none : (closes : Bool) → has_none 123 (head_end None closes) ≡ true
unfolding has_none head_end allow_field closing_field
end_none true = refl
end_none false = refl

-- the first brace of an answer is that of its body
body_found : (closes : Bool) (body : List ℕ) → length body < 2 ^ 64
    → from_byte 123 (response_bytes Created None closes body) ≡ from_byte 123 body
unfolding response_bytes
body_found closes body few =
    let front : List ℕ = head_start Created in
    let number : List ℕ = decimal (length body) in
    let last : List ℕ = head_end None closes in
    ap (from_byte 123) (append_assoc (front ++ number) last body ∙ append_assoc front number (last ++ body))
    ∙ passed 123 front (number ++ (last ++ body)) start_none
    ∙ passed 123 number (last ++ body) (no_braces number (digits_decimal digits_own (length body) few)).0
    ∙ passed 123 last body (end_none closes)

-- what comes before a closing brace
closed_by : (s : List ℕ) → has_none 125 s ≡ true → before_byte 125 (s ++ 125 ∷ []) ≡ s
closed_by s none =
    let rest : from_byte 125 (s ++ 125 ∷ []) ≡ 125 ∷ [] = passed 125 s (125 ∷ []) none in
    let front : length s ≡ length (s ++ 125 ∷ []) - length (from_byte 125 (s ++ 125 ∷ [])) =
    omega (arith, length-append s (125 ∷ []), ap (length {A = ℕ}) rest) in
    take_at s (125 ∷ []) (length (s ++ 125 ∷ []) - length (from_byte 125 (s ++ 125 ∷ []))) front

-- the number of the item that was made
pub item_told : (zone : Zone) (closes : Bool) (item : ℕ) → item < 2 ^ 64
    → item_in (reply_text zone closes (Done (Listing item))) ≡ decimal item
unfolding reply_text text_of escape_byte
item_told zone closes item fits =
    let body : List ℕ = codes "{\"item\":" ++ (decimal item ++ 125 ∷ []) in
    let few : length body < 2 ^ 64 =
    omega (arith, length-append (decimal item) (125 ∷ []), length-decimal-le 20 item (omega arith) (omega (arith, fits)) fits) in
    ap (λ text. before_byte 125 (drop 8 text)) (body_found closes body few)
    ∙ closed_by (decimal item) (no_braces (decimal item) (digits_decimal digits_own item fits)).1
