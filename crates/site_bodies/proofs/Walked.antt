-- An object of a few texts, whole numbers and nulls, as it is read in one walk.
use Rattle.std.proofs.Common.{◌≡◌, ℕ, ℤ, negsuc, suc, zero, ◌<◌, ◌≤◌, ◌+◌, ◌-◌, ◌^◌, List, [], ◌∷◌, ◌++◌, length, length-drop, get_or, set, take_all, take-append-drop, Bool, true, false, refl, sym, ap, ap₂, ◌∙◌, ◌==◌, subst, arith, take, drop, append_assoc, decimal, Option, None, Some, inl, inr, bytes_eq, cond}
use Rattle.std.specs.Borrow.{Bor}
use Rattle.std.specs.Fmt.{signed_decimal}
use Rattle.std.specs.Prelude.{if◌then◌else◌, IsAscii, IsUtf8, option_and_then, option_map, ⊤}
use Rattle.std.proofs.lemmas.Bool.{cases_Bool, eqb-true}
use Rattle.std.proofs.lemmas.Fmt.{IsAscii-decimal, decimal_digit}
use Rattle.std.proofs.lemmas.List.{drop_more, take_more, take_more_set}
use Rattle.std.proofs.lemmas.Slice.Eq.{bytes_eq-Decides}
use Rattle.std.proofs.lemmas.Str.{IsAscii-append, IsUtf8-append, IsUtf8-from_ascii}
use Rattle.std.proofs.lemmas.Str.Ascii.{IsAscii-cons, IsAscii-nil}
use Rattle.json.specs.Ascii.{null_text}
use Rattle.json.specs.Json as json
use Rattle.json.specs.Lex.{Lexeme, after_comma, after_value, begins_colon, between, colon, comma, fresh, lex, punctuate, string_token, token}
use Rattle.json.specs.Print.{escape}
use Rattle.json.specs.Token as t
use Rattle.json.specs.Token.{Token, begin_object, end_object, key}
use Rattle.json.specs.Word.{ends_word, word}
use Rattle.json.proofs.Grammar.{members_end, members_more, value-begin_object, value_is}
use Rattle.json.proofs.Printed.Decimals.{IsNumber-decimal, IsNumber-signed_decimal}
use Rattle.json.proofs.Printed.Numbers.{in_word-ended, lex-number}
use Rattle.json.proofs.Printed.Strings.{content-escape, lex-escape}
use Rattle.serde_json.specs.Data.{Data, Members, no_members, number, object, put}
use Rattle.serde_json.specs.Find.{get_member}
use Rattle.serde_json.specs.Read.{of_json, of_members, read}
use Rattle.serde_json.proofs.Numbers.{number_of-decimal, number_of-negative}
use Rattle.serde_json.proofs.Views.{get_member-put, get_member-put_other}
use Rattle.site_digits.specs.Digits.{count_in, number_in}
use Rattle.site_digits.proofs.Written.{number_is}
use Rattle.site_bodies.specs.Members.{body_of}
use Rattle.site_bodies.specs.Numerals.{IsMinus}
use Rattle.site_bodies.specs.Passes.{IsMember, IsSize, IsValue, Passes}
use Rattle.site_bodies.specs.Slots.{IsMeant, data_of, json_of, members_of, put_all, slot_lexemes, token_of}
use Rattle.site_bodies.specs.declared.slots.Plain.{Plain}
use Rattle.site_bodies.specs.declared.slots.Plain.TheVariants as plain
use Rattle.site_bodies.specs.declared.slots.Slot.{Slot}
use Rattle.site_bodies.proofs.Readable.{body_read, other_key}

-- ---- what was read off the front

pub nothing_passed : (bytes : List ℕ) → Passes bytes [] bytes
nothing_passed bytes = record { lexed = refl; utf8 = λ u. u }

pub passes_then : {a b c : List ℕ} {ls ms : List Lexeme} → Passes a ls b → Passes b ms c → Passes a (ls ++ ms) c
passes_then {a} {b} {c} {ls} {ms} p q = record {
  lexed = p.lexed ∙ ap (λ l. ls ++ l) q.lexed ∙ sym (append_assoc ls ms (lex between c));
  utf8 = λ u. p.utf8 (q.utf8 u);
}

one_utf8 : (x : ℕ) (rest : List ℕ) → x < 128 → IsUtf8 rest → IsUtf8 (x ∷ rest)
one_utf8 x rest small utf8 = IsUtf8-append (x ∷ []) rest (IsUtf8-from_ascii _ (IsAscii-cons x [] small IsAscii-nil)) utf8

pub space_passed : (rest : List ℕ) → Passes (32 ∷ rest) [] rest
unfolding lex
space_passed rest = record { lexed = refl; utf8 = one_utf8 32 rest (omega arith) }

pub space_more : {bytes : List ℕ} (i x : ℕ) → i < length bytes → x ≡ 32 → x ≡ get_or bytes i 0
    → Passes bytes [] (drop i bytes) → Passes bytes [] (drop (i + 1) bytes)
space_more {bytes} i x inside is at' so_far =
    let here : drop i bytes ≡ 32 ∷ drop (i + 1) bytes =
    drop_more bytes i 0 inside ∙ ap (λ y. y ∷ drop (i + 1) bytes) (sym at' ∙ is) in
    passes_then so_far (subst (λ l. Passes l [] (drop (i + 1) bytes)) (sym here) (space_passed (drop (i + 1) bytes)))

pub colon_passed : (rest : List ℕ) → Passes (58 ∷ rest) (colon ∷ []) rest
unfolding lex
colon_passed rest = record { lexed = refl; utf8 = one_utf8 58 rest (omega arith) }

pub comma_passed : (rest : List ℕ) → Passes (44 ∷ rest) (comma ∷ []) rest
unfolding lex
comma_passed rest = record { lexed = refl; utf8 = one_utf8 44 rest (omega arith) }

pub open_passed : (rest : List ℕ) → Passes (123 ∷ rest) (token begin_object ∷ []) rest
unfolding lex
open_passed rest = record { lexed = refl; utf8 = one_utf8 123 rest (omega arith) }

pub close_passed : (rest : List ℕ) → Passes (125 ∷ rest) (token end_object ∷ []) rest
unfolding lex
close_passed rest = record { lexed = refl; utf8 = one_utf8 125 rest (omega arith) }

-- a text between quotes, each byte of which stands for itself
pub text_passed : (s rest : List ℕ) → escape s ≡ s → IsUtf8 s
    → Passes (34 ∷ (s ++ 34 ∷ rest)) (token (t.string s) ∷ []) rest
unfolding lex
text_passed s rest own utf8 = record {
  lexed =
      ap (λ l. lex between (34 ∷ (l ++ 34 ∷ rest))) (sym own)
      ∙ ap₂ (λ o l. token (string_token o) ∷ l) (content-escape s rest) (lex-escape s rest);
  utf8 = λ u. one_utf8 34 _ (omega arith) (IsUtf8-append s _ utf8 (one_utf8 34 rest (omega arith) u));
}

-- one byte more that is ASCII
pub ascii_step : (bytes : List ℕ) (i : ℕ) → i < length bytes → IsAscii (take i bytes) → get_or bytes i 0 < 128 → IsAscii (take (i + 1) bytes)
ascii_step bytes i inside before is =
    subst IsAscii (sym (take_more bytes i 0 inside))
    (IsAscii-append (take i bytes) (get_or bytes i 0 ∷ []) before (IsAscii-cons (get_or bytes i 0) [] is IsAscii-nil))

pub quoted_passed : {bytes inside after : List ℕ} (end : ℕ) (s : List ℕ) → bytes ≡ 34 ∷ inside
    → escape (take end inside) ≡ take end inside → take (length inside - end) (drop end inside) ≡ 34 ∷ after
    → s ≡ take end inside → IsUtf8 (take end inside) → Passes bytes (token (t.string s) ∷ []) after
quoted_passed {bytes} {inside} {after} end s front own rest_after same utf8 =
    let left : drop end inside ≡ 34 ∷ after =
    sym (take_all _ (drop end inside) (omega (arith, length-drop end inside))) ∙ rest_after in
    let whole : bytes ≡ 34 ∷ (take end inside ++ 34 ∷ after) = front
    ∙ ap (λ l. 34 ∷ l) (sym (take-append-drop end inside) ∙ ap (λ l. take end inside ++ l) left) in
    subst (λ l. Passes l (token (t.string s) ∷ []) after) (sym whole)
    (subst (λ l. Passes (34 ∷ (take end inside ++ 34 ∷ after)) (token (t.string l) ∷ []) after) (sym same)
    (text_passed (take end inside) after own utf8))

pub number_passed : (n : ℕ) (rest : List ℕ) → n < 2 ^ 64 → ends_word rest ≡ true
    → Passes (decimal n ++ rest) (token (t.number (decimal n)) ∷ []) rest
number_passed n rest small ended = record {
  lexed = lex-number (decimal n) rest (IsNumber-decimal n small) ended;
  utf8 = λ u. IsUtf8-append (decimal n) rest (IsUtf8-from_ascii _ (IsAscii-decimal n small)) u;
}

pub null_passed : (rest : List ℕ) → ends_word rest ≡ true → Passes (null_text ++ rest) (token t.null ∷ []) rest
unfolding lex word
null_passed rest ended = record {
  lexed = ap₂ (λ b l. token (cond b t.null t.bad) ∷ l) ended (in_word-ended rest ended);
  utf8 = λ u. one_utf8 110 _ (omega arith) (one_utf8 117 _ (omega arith) (one_utf8 108 _ (omega arith)
      (one_utf8 108 rest (omega arith) u)));
}

-- ---- values

-- the digits of a number that was read
digits_are : (s : List ℕ) (n : ℕ) → Some n ≡ count_in s → (decimal n ≡ s) × (n < 2 ^ 64)
digits_are [] n e = cc
digits_are (b ∷ c ∷ bs) n e = number_is (b ∷ c ∷ bs) n e
digits_are (b ∷ []) n e = go (b == 48) refl e where
  go : (zero : Bool) → (b == 48) ≡ zero → Some n ≡ (if zero then Some 0 else number_in (b ∷ []))
      → (decimal n ≡ b ∷ []) × (n < 2 ^ 64)
  go false is e = number_is (b ∷ []) n e
  go true is e =
      let none : n ≡ 0 = cc in (
        ap decimal none ∙ decimal_digit 0 (omega arith) ∙ ap (λ x. x ∷ []) (sym (eqb-true b 48 is)),
        omega (arith, none),
      )

pub size_is : {bytes : List ℕ} (end n : ℕ) → Some n ≡ count_in (take end bytes) → ends_word (drop end bytes) ≡ true
    → IsSize bytes n (drop end bytes)
size_is {bytes} end n report ended =
    let are = digits_are (take end bytes) n report in
    record {
      same = sym (take-append-drop end bytes) ∙ ap (λ l. l ++ drop end bytes) (sym are.0);
      small = are.1;
      ended = ended;
    }

pub whole_value : {bytes rest : List ℕ} (n : ℕ) → IsSize bytes n rest → IsValue bytes (plain.Whole n) rest
whole_value {bytes} {rest} n is = record {
  passes = subst (λ l. Passes l (token (t.number (decimal n)) ∷ []) rest) (sym is.same)
      (number_passed n rest is.small is.ended);
  meant = ap (option_map number) (number_of-decimal n is.small);
}

-- a number after a minus
minus_passed : (n : ℕ) (rest : List ℕ) → suc n < 2 ^ 63 → ends_word rest ≡ true
    → Passes (45 ∷ (decimal (suc n) ++ rest)) (token (t.number (signed_decimal (negsuc n))) ∷ []) rest
minus_passed n rest small ended = record {
  lexed = lex-number (45 ∷ decimal (suc n)) rest (IsNumber-signed_decimal (negsuc n) (omega (arith, small))) ended;
  utf8 = λ u. one_utf8 45 _ (omega arith) (IsUtf8-append (decimal (suc n)) rest
      (IsUtf8-from_ascii _ (IsAscii-decimal (suc n) (omega arith))) u);
}

pub text_value : {bytes rest : List ℕ} (s : Bor (List ℕ)) → Passes bytes (token (t.string s.now) ∷ []) rest
    → IsValue bytes (plain.Text s) rest
text_value s p = record { passes = p; meant = refl }

pub size_at : {bytes : List ℕ} (end n : ℕ) → Some n ≡ count_in (take end bytes)
    → ends_word (take (length bytes - end) (drop end bytes)) ≡ true
    → IsSize bytes n (take (length bytes - end) (drop end bytes))
size_at {bytes} end n report ended =
    let all = take_all (length bytes - end) (drop end bytes) (omega (arith, length-drop end bytes)) in
    subst (IsSize bytes n) (sym all) (size_is end n report (subst (λ l. ends_word l ≡ true) all ended))

pub null_value : {bytes rest : List ℕ} → bytes ≡ null_text ++ rest → ends_word rest ≡ true
    → IsValue bytes plain.Null rest
null_value {bytes} {rest} is ended = record {
  passes = subst (λ l. Passes l (token t.null ∷ []) rest) (sym is) (null_passed rest ended);
  meant = refl;
}

pub below_value : {bytes digits rest : List ℕ} (n : ℕ) (z : ℤ) → bytes ≡ 45 ∷ digits → IsSize digits n rest
    → IsMinus n z → IsValue bytes (plain.Below z) rest
below_value zero z is size minus = absurd (omega (arith, minus.0))
below_value {bytes} {digits} {rest} (suc n) z is size minus =
    let before : suc n - 1 ≡ n = omega arith in
    let same : z ≡ negsuc n = minus.2 ∙ ap negsuc before in
    subst (λ w. IsValue bytes (plain.Below w) rest) (sym same) (record {
      passes = subst (λ l. Passes l (token (t.number (signed_decimal (negsuc n))) ∷ []) rest)
          (sym (is ∙ ap (λ l. 45 ∷ l) size.same)) (minus_passed n rest minus.1 size.ended);
      meant = ap (option_map number) (number_of-negative n (omega (arith, minus.1)));
    })

-- a lexeme of one byte, with spaces before and after it
pub around : {a b c d : List ℕ} (x : ℕ) (l : Lexeme) → ((r : List ℕ) → Passes (x ∷ r) (l ∷ []) r)
    → Passes a [] b → b ≡ x ∷ c → Passes c [] d → Passes a (l ∷ []) d
around {a} {b} {c} {d} x l one before is rest_after =
    passes_then before (passes_then (subst (λ z. Passes z (l ∷ []) c) (sym is) (one c)) rest_after)

pub spaces_passed : {bytes : List ℕ} (end : ℕ) → Passes bytes [] (drop end bytes)
    → Passes bytes [] (take (length bytes - end) (drop end bytes))
spaces_passed {bytes} end p =
    subst (Passes bytes []) (sym (take_all (length bytes - end) (drop end bytes) (omega (arith, length-drop end bytes)))) p

nil_is : (d : List ℕ) → length d ≡ 0 → d ≡ []
nil_is [] e = refl
nil_is (x ∷ d) e = absurd (omega (arith, e))

pub closed : {a b c d : List ℕ} {r : Bool} → Passes a [] b → b ≡ 125 ∷ c → Passes c [] d → r ≡ (length d == 0)
    → r ≡ true → Passes a (token end_object ∷ []) []
closed {a} {b} {c} {d} {r} before is rest_after report so =
    subst (Passes a (token end_object ∷ [])) (nil_is d (eqb-true (length d) 0 (sym report ∙ so)))
    (around 125 (token end_object) close_passed before is rest_after)

pub member_read : {bytes named spaced after_colon start after : List ℕ} (slot : Slot)
    → Passes bytes (token (t.string slot.name.now) ∷ []) named → Passes named [] spaced → spaced ≡ 58 ∷ after_colon
    → Passes after_colon [] start → IsValue start slot.value after → IsMember bytes slot after
member_read slot name before is rest_after value = record {
  passes = passes_then name (passes_then (around 58 colon colon_passed before is rest_after) value.passes);
  meant = value.meant;
}

-- ---- an object of members

abbrev pub lexemes_of : List Slot → List Lexeme → List Lexeme
lexemes_of [] rest = rest
lexemes_of (s ∷ ss) rest = slot_lexemes s ++ comma ∷ lexemes_of ss rest

lexemes_push : (ss : List Slot) (s : Slot) (rest : List Lexeme)
    → lexemes_of ss (slot_lexemes s ++ comma ∷ rest) ≡ lexemes_of (ss ++ s ∷ []) rest
lexemes_push [] s rest = refl
lexemes_push (r ∷ ss) s rest = ap (λ l. slot_lexemes r ++ comma ∷ l) (lexemes_push ss s rest)

abbrev tokens_of : List Slot → List Token
tokens_of [] = end_object ∷ []
tokens_of (s ∷ ss) = key s.name.now ∷ token_of s.value ∷ tokens_of ss

-- a value, where no colon follows
value_punctuated : (v : Plain) (ls : List Lexeme) → begins_colon ls ≡ false
    → punctuate fresh (token (token_of v) ∷ ls) ≡ token_of v ∷ punctuate after_value ls
unfolding punctuate
value_punctuated (plain.Whole n) ls ends = refl
value_punctuated (plain.Below z) ls ends = refl
value_punctuated (plain.Text s) ls ends = rw ends refl
value_punctuated plain.Null ls ends = refl

members_punctuated : (ss : List Slot) (s : Slot)
    → punctuate after_comma (lexemes_of ss (slot_lexemes s ++ token end_object ∷ [])) ≡ tokens_of (ss ++ s ∷ [])
unfolding punctuate
members_punctuated [] s =
    ap (λ l. key s.name.now ∷ l) (value_punctuated s.value (token end_object ∷ []) refl)
members_punctuated (r ∷ ss) s =
    ap (λ l. key r.name.now ∷ l)
    (value_punctuated r.value (comma ∷ lexemes_of ss (slot_lexemes s ++ token end_object ∷ [])) refl
    ∙ ap (λ l. token_of r.value ∷ l) (members_punctuated ss s))

value_parsed : (v : Plain) (rest : List Token) → json.value 126 (token_of v ∷ rest) ≡ Some (json_of v, rest)
value_parsed (plain.Whole n) rest = value_is 126 (token_of (plain.Whole n) ∷ rest)
value_parsed (plain.Below z) rest = value_is 126 (token_of (plain.Below z) ∷ rest)
value_parsed (plain.Text s) rest = value_is 126 (token_of (plain.Text s) ∷ rest)
value_parsed plain.Null rest = value_is 126 (token_of plain.Null ∷ rest)

members_parsed : (n : ℕ) (ss : List Slot) → length (tokens_of ss) ≤ n
    → json.members (json.value 126) n (tokens_of ss) ≡ Some (members_of ss, [])
members_parsed n [] le = members_end (json.value 126) n (tokens_of []) [] le refl
members_parsed n (s ∷ ss) le =
    members_more (json.value 126) n s.name.now (tokens_of (s ∷ ss)) (token_of s.value ∷ tokens_of ss)
    (tokens_of ss) (json_of s.value) (omega arith) refl (value_parsed s.value (tokens_of ss))
    ∙ ap (json.parse_map (json.member s.name.now (json_of s.value))) (members_parsed (n - 1) ss (omega arith))

object_parsed : (ss : List Slot)
    → json.value 127 (begin_object ∷ tokens_of ss) ≡ Some (json.object (members_of ss), [])
object_parsed ss =
    value-begin_object 127 (tokens_of ss) (omega arith)
    ∙ ap (json.parse_map json.object) (members_parsed (length (tokens_of ss)) ss (omega arith))

object_punctuated : (ss : List Slot) (s : Slot)
    → punctuate fresh (token begin_object ∷ lexemes_of ss (slot_lexemes s ++ token end_object ∷ []))
    ≡ begin_object ∷ tokens_of (ss ++ s ∷ [])
unfolding punctuate
object_punctuated [] s = ap (λ l. begin_object ∷ l) (members_punctuated [] s)
object_punctuated (r ∷ ss) s = ap (λ l. begin_object ∷ l) (members_punctuated (r ∷ ss) s)

-- what the walk has seen: members, each with its comma, and each of which serde_json reads
abbrev pub AreMeant : List Slot → Type 0
AreMeant [] = ⊤
AreMeant (s ∷ ss) = IsMeant s.value × AreMeant ss

pub record Walked (bytes : List ℕ) (ss : List Slot) (rest : List ℕ) : Type 0 where
  pub lexed : lex between bytes ≡ token begin_object ∷ lexemes_of ss (lex between rest)
  pub utf8 : IsUtf8 rest → IsUtf8 bytes
  pub meant : AreMeant ss

pub walk_begins : {bytes rest : List ℕ} → Passes bytes (token begin_object ∷ []) rest → Walked bytes [] rest
walk_begins p = record { lexed = p.lexed; utf8 = p.utf8; meant = tt }

meant_push : (ss : List Slot) (s : Slot) → AreMeant ss → IsMeant s.value → AreMeant (ss ++ s ∷ [])
meant_push [] s all one = (one, tt)
meant_push (r ∷ ss) s all one = (all.0, meant_push ss s all.1 one)

meant_read : (ss : List Slot) (found : Members) → AreMeant ss
    → of_members (members_of ss) found ≡ Some (put_all ss found)
meant_read [] found all = refl
meant_read (s ∷ ss) found all =
    ap (option_and_then (λ d. of_members (members_of ss) (put s.name.now d found))) all.0
    ∙ meant_read ss (put s.name.now (data_of s.value) found) all.1

walk_goes_on : {bytes rest after next : List ℕ} (ss : List Slot) (s : Slot) → Walked bytes ss rest
    → IsMember rest s after → Passes after (comma ∷ []) next → Walked bytes (ss ++ s ∷ []) next
walk_goes_on {bytes} {rest} {after} {next} ss s w is rest_after =
    let p = passes_then is.passes rest_after in
    record {
      lexed =
          w.lexed ∙ ap (λ l. token begin_object ∷ lexemes_of ss l) p.lexed
          ∙ ap (λ l. token begin_object ∷ l) (lexemes_push ss s (lex between next));
      utf8 = λ u. w.utf8 (p.utf8 u);
      meant = meant_push ss s w.meant is.meant;
    }

nil_utf8 : IsUtf8 []
nil_utf8 = IsUtf8-from_ascii [] IsAscii-nil

abbrev of_value : Option (json.Json × List Token) → Option Data
of_value r = option_and_then of_json (option_and_then (λ p. json.if_last p.0 p.1) r)

pub walk_ends : {bytes rest after : List ℕ} (ss : List Slot) (s : Slot) → Walked bytes ss rest
    → IsMember rest s after → Passes after (token end_object ∷ []) []
    → body_of bytes ≡ Some (put_all (ss ++ s ∷ []) no_members)
unfolding lex
walk_ends {bytes} {rest} {after} ss s w is rest_after =
    let p = passes_then is.passes rest_after in
    let lexed = w.lexed ∙ ap (λ l. token begin_object ∷ lexemes_of ss l) p.lexed in
    let read_as : read bytes ≡ of_json (json.object (members_of (ss ++ s ∷ []))) =
    ap (λ ls. of_value (json.value 127 (punctuate fresh ls))) lexed
    ∙ ap (λ ts. of_value (json.value 127 ts)) (object_punctuated ss s)
    ∙ ap of_value (object_parsed (ss ++ s ∷ [])) in
    let meant = ap (option_map object) (meant_read (ss ++ s ∷ []) no_members (meant_push ss s w.meant is.meant)) in
    body_read bytes _ (w.utf8 (p.utf8 nil_utf8)) (read_as ∙ meant)

-- the same in a table, where a member is at its place
pub walk_more : {bytes rest after next : List ℕ} (slots : List Slot) (place : ℕ) (s : Slot) → place < length slots
    → Walked bytes (take place slots) rest → IsMember rest s after → Passes after (comma ∷ []) next
    → Walked bytes (take (place + 1) (set slots place s)) next
walk_more {bytes} {rest} {after} {next} slots place s inside w is rest_after =
    subst (λ ss. Walked bytes ss next) (sym (take_more_set slots place s inside))
    (walk_goes_on (take place slots) s w is rest_after)

pub walk_done : {bytes rest after : List ℕ} (slots : List Slot) (place : ℕ) (s : Slot) → place < length slots
    → Walked bytes (take place slots) rest → IsMember rest s after → Passes after (token end_object ∷ []) []
    → body_of bytes ≡ Some (put_all (take (place + 1) (set slots place s)) no_members)
walk_done {bytes} {rest} {after} slots place s inside w is rest_after =
    walk_ends (take place slots) s w is rest_after
    ∙ ap (λ ss. Some (put_all ss no_members)) (sym (take_more_set slots place s inside))

-- ---- the last value of a name

put_push : (ss : List Slot) (s : Slot) (found : Members)
    → put_all (ss ++ s ∷ []) found ≡ put s.name.now (data_of s.value) (put_all ss found)
put_push [] s found = refl
put_push (r ∷ ss) s found = put_push ss s (put r.name.now (data_of r.value) found)

found_here : (name : List ℕ) (ss : List Slot) (s : Slot) → s.name.now ≡ name
    → get_member name (put_all (ss ++ s ∷ []) no_members) ≡ Some (data_of s.value)
found_here name ss s is =
    ap (get_member name) (put_push ss s no_members)
    ∙ ap (λ n. get_member name (put n (data_of s.value) (put_all ss no_members))) is
    ∙ get_member-put name (data_of s.value) (put_all ss no_members)

found_before : (name : List ℕ) (ss : List Slot) (s : Slot) → (name ≡ s.name.now → ⊥)
    → get_member name (put_all (ss ++ s ∷ []) no_members) ≡ get_member name (put_all ss no_members)
found_before name ss s other =
    ap (get_member name) (put_push ss s no_members)
    ∙ get_member-put_other name s.name.now (data_of s.value) (put_all ss no_members) other

found_push : (name : List ℕ) (ss : List Slot) (s : Slot)
    → get_member name (put_all (ss ++ s ∷ []) no_members)
    ≡ cond (bytes_eq s.name.now name) (Some (data_of s.value)) (get_member name (put_all ss no_members))
found_push name ss s = elim (cases_Bool (bytes_eq s.name.now name)) [
  | inl here ↦ rw here (found_here name ss s ((bytes_eq-Decides s.name.now name).0 here))
  | inr not ↦ rw not (found_before name ss s (λ e. other_key name s.name.now not (sym e)))
]

-- a search from the end: the last member before the end has the name, or it has none but those before it
last_before : (name : List ℕ) (xs : List Slot) (end : ℕ) (d : Slot) → 0 < end → end ≤ length xs
    → get_member name (put_all (take end xs) no_members)
    ≡ cond (bytes_eq (get_or xs (end - 1) d).name.now name) (Some (data_of (get_or xs (end - 1) d).value))
    (get_member name (put_all (take (end - 1) xs) no_members))
last_before name xs end d some within =
    let one : end ≡ end - 1 + 1 = omega (arith, some) in
    ap (λ i. get_member name (put_all (take i xs) no_members)) one
    ∙ ap (λ ss. get_member name (put_all ss no_members)) (take_more xs (end - 1) d (omega (arith, some, within)))
    ∙ found_push name (take (end - 1) xs) (get_or xs (end - 1) d)

pub last_begins : (name : List ℕ) (xs : List Slot)
    → get_member name (put_all (take (length xs) xs) no_members) ≡ get_member name (put_all xs no_members)
last_begins name xs = ap (λ ss. get_member name (put_all ss no_members)) (take_all (length xs) xs (omega arith))

pub last_found : (name : List ℕ) (xs : List Slot) (end : ℕ) (d : Slot) → 0 < end → end ≤ length xs
    → get_member name (put_all (take end xs) no_members) ≡ get_member name (put_all xs no_members)
    → bytes_eq (get_or xs (end - 1) d).name.now name ≡ true
    → Some (data_of (get_or xs (end - 1) d).value) ≡ get_member name (put_all xs no_members)
last_found name xs end d some within so_far here =
    let v = Some (data_of (get_or xs (end - 1) d).value) in
    sym (ap (λ b. cond b v (get_member name (put_all (take (end - 1) xs) no_members))) here)
    ∙ sym (last_before name xs end d some within) ∙ so_far

pub last_passed : (name : List ℕ) (xs : List Slot) (end : ℕ) (d : Slot) → 0 < end → end ≤ length xs
    → get_member name (put_all (take end xs) no_members) ≡ get_member name (put_all xs no_members)
    → bytes_eq (get_or xs (end - 1) d).name.now name ≡ false
    → get_member name (put_all (take (end - 1) xs) no_members) ≡ get_member name (put_all xs no_members)
last_passed name xs end d some within so_far other =
    let v = Some (data_of (get_or xs (end - 1) d).value) in
    sym (ap (λ b. cond b v (get_member name (put_all (take (end - 1) xs) no_members))) other)
    ∙ sym (last_before name xs end d some within) ∙ so_far

pub last_none : (name : List ℕ) (xs : List Slot) (end : ℕ) → end ≤ 0
    → get_member name (put_all (take end xs) no_members) ≡ get_member name (put_all xs no_members)
    → None ≡ get_member name (put_all xs no_members)
last_none name xs zero none so_far = so_far
last_none name xs (suc end) none so_far = absurd (omega (arith, none))
