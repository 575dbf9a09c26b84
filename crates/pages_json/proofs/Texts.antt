-- The text of objects and of lists, part by part.
use Rattle.std.proofs.Common.{◌≡◌, ◌<◌, ◌≤◌, ◌+◌, ℕ, zero, suc, List, [], ◌∷◌, ◌++◌, Bool, true, map, take, drop, length, get_or, set, drop-cons, refl, ap, ◌∙◌, sym, arith, rules, append_assoc, append-nil}
use Rattle.std.specs.Prelude.{◌||◌, ◌==◌, ◌-◌, IsTrue}
use Rattle.std.specs.List.{list_all}
use Rattle.std.specs.Str.{bytes_eq}
use Rattle.std.proofs.lemmas.Slice.Eq.{bytes_eq-Decides}
use Rattle.std.proofs.lemmas.List.{at_drop_more, at_drop_all, length-take, take-take, take_all, take_at, drop_at, length-append, set_split}
use Rattle.std.proofs.lemmas.Bool.{and_parts, or_parts, not-true, eqb-false, ltb-false}
use Rattle.json.specs.Token as token
use Rattle.json.specs.Print.{escape, print, print_from, quoted}
use Rattle.json.specs.Run.{is_plain}
use Rattle.json.proofs.Printed.Strings.{escape_byte_plain}
use Rattle.serde_json.proofs.Texts.{print-outline}
use Rattle.serde_json.specs.Data.{Data, string}
use Rattle.serde_json.specs.View.{items_of}
use Rattle.serde_json.specs.Written as written
use Rattle.pages_json.specs.Words.{array_of, enclosed, entries_text, is_key, key_text, keyed, members_text, name_in, object_of, text_of}

-- ---- what comes in front

-- what begins with a begins with what a begins with
pub front_then : (a b c : List ℕ) → take (length a) b ≡ a → take (length b) c ≡ b → take (length a) c ≡ a
front_then a b c ab bc =
    let short : length a ≤ length b = omega (arith, ap length ab, length-take (length a) b) in
    sym (take-take (length a) (length b) c short) ∙ ap (take (length a)) bc ∙ ab

-- what is appended leaves what was before it
pub front_kept : (a b c : List ℕ) → b ≡ a ++ c → take (length a) b ≡ a
front_kept a b c is = ap (take (length a)) is ∙ take_at a c (length a) refl

-- ---- what is written, step by step

pub entries_step : {A : Type 0} (tree : A → Data) (all now mid next : List ℕ) (xs : List A) (i : ℕ) (x : A) → i < length xs → x ≡ get_or xs i x
    → now ++ entries_text tree (drop i xs) ≡ all → mid ≡ now ++ 44 ∷ [] → next ≡ mid ++ text_of (tree x) → next ++ entries_text tree (drop (i + 1) xs) ≡ all
unfolding entries_text
entries_step tree all now mid next xs i x lt is so_far comma put =
    let rest = entries_text tree (drop (i + 1) xs) in
    let one : entries_text tree (drop i xs) ≡ 44 ∷ (text_of (tree x) ++ rest) =
    at_drop_more (entries_text tree) xs i x lt ∙ ap (λ y. 44 ∷ (text_of (tree y) ++ rest)) (sym is) in
    ap (λ t. t ++ rest) (put ∙ ap (λ t. t ++ text_of (tree x)) comma) ∙ append_assoc (now ++ 44 ∷ []) (text_of (tree x)) rest
    ∙ append_assoc now (44 ∷ []) (text_of (tree x) ++ rest) ∙ ap (λ t. now ++ t) (sym one) ∙ so_far

pub entries_done : {A : Type 0} (tree : A → Data) (all now : List ℕ) (xs : List A) (i : ℕ) → length xs ≤ i → now ++ entries_text tree (drop i xs) ≡ all → now ≡ all
unfolding entries_text
entries_done tree all now xs i le so_far = sym (append-nil now) ∙ ap (λ t. now ++ t) (sym (at_drop_all (entries_text tree) xs i le)) ∙ so_far

pub members_step : {A : Type 0} (pair_of : A → List ℕ × Data) (all now mid next : List ℕ) (xs : List A) (i : ℕ) (d : A) → i < length xs
    → now ++ members_text (map pair_of (drop i xs)) ≡ all → mid ≡ now ++ key_text (pair_of (get_or xs i d)).0 → next ≡ mid ++ text_of (pair_of (get_or xs i d)).1
    → next ++ members_text (map pair_of (drop (i + 1) xs)) ≡ all
unfolding members_text
members_step pair_of all now mid next xs i d lt so_far key_put value_put =
    let rest = members_text (map pair_of (drop (i + 1) xs)) in
    let value = text_of (pair_of (get_or xs i d)).1 in
    let key = key_text (pair_of (get_or xs i d)).0 in
    let here = at_drop_more (λ ys. members_text (map pair_of ys)) xs i d lt in
    ap (λ t. t ++ rest) (value_put ∙ ap (λ t. t ++ value) key_put) ∙ append_assoc (now ++ key) value rest
    ∙ append_assoc now key (value ++ rest) ∙ ap (λ t. now ++ t) (sym here) ∙ so_far

pub members_done : {A : Type 0} (pair_of : A → List ℕ × Data) (all now : List ℕ) (xs : List A) (i : ℕ) → length xs ≤ i → now ++ members_text (map pair_of (drop i xs)) ≡ all → now ≡ all
unfolding members_text
members_done pair_of all now xs i le so_far = sym (append-nil now) ∙ ap (λ t. now ++ t) (sym (at_drop_all (λ ys. members_text (map pair_of ys)) xs i le)) ∙ so_far

-- ---- brackets

members_then : (ms : List (List ℕ × Data)) → written.members_text true (keyed ms) ≡ members_text ms ++ 125 ∷ []
unfolding text_of members_text
members_then [] = refl
members_then (m ∷ ms) =
    let later = text_of m.1 ++ members_text ms in
    ap (λ s. 44 ∷ (quoted m.0 ++ 58 ∷ (text_of m.1 ++ s))) (members_then ms)
    ∙ ap (λ s. 44 ∷ (quoted m.0 ++ 58 ∷ s)) (sym (append_assoc (text_of m.1) (members_text ms) (125 ∷ [])))
    ∙ sym (append_assoc (44 ∷ quoted m.0) (58 ∷ later) (125 ∷ []))
    ∙ ap (λ s. 44 ∷ (s ++ 125 ∷ [])) (sym (append_assoc (quoted m.0) (58 ∷ []) later))

entries_then : {A : Type 0} (tree : A → Data) (xs : List A) → written.items_text true (items_of (map tree xs)) ≡ entries_text tree xs ++ 93 ∷ []
unfolding text_of entries_text
entries_then tree [] = refl
entries_then tree (x ∷ xs) =
    ap (λ s. 44 ∷ (text_of (tree x) ++ s)) (entries_then tree xs) ∙ ap (λ s. 44 ∷ s) (sym (append_assoc (text_of (tree x)) (entries_text tree xs) (93 ∷ [])))

-- an object is its members between brackets
members_enclosed : (ms : List (List ℕ × Data)) → enclosed 123 125 (members_text ms) ≡ text_of (object_of ms)
unfolding text_of members_text
members_enclosed [] = refl
members_enclosed (m ∷ ms) = ap (λ s. 123 ∷ drop 1 s) (sym (members_then (m ∷ ms)))

-- and a list its entries
entries_enclosed : {A : Type 0} (tree : A → Data) (xs : List A) → enclosed 91 93 (entries_text tree xs) ≡ text_of (array_of tree xs)
unfolding text_of entries_text
entries_enclosed tree [] = refl
entries_enclosed tree (x ∷ xs) = ap (λ s. 91 ∷ drop 1 s) (sym (entries_then tree (x ∷ xs)))

-- what comes after a place is enclosed there
rest_after : (old inner now : List ℕ) (start first last : ℕ) → start ≡ length old → now ≡ old ++ inner
    → take start now ++ enclosed first last (drop start now) ≡ old ++ enclosed first last inner
rest_after old inner now start first last at is =
    ap (λ i. take i now ++ enclosed first last (drop i now)) at
    ∙ ap (λ s. take (length old) s ++ enclosed first last (drop (length old) s)) is
    ∙ ap (λ s. s ++ enclosed first last (drop (length old) (old ++ inner))) (take_at old inner (length old) refl)
    ∙ ap (λ s. old ++ enclosed first last s) (drop_at old inner (length old) refl)

pub enclosed_none : (old : List ℕ) (start first last : ℕ) → start ≡ length old
    → (old ++ first ∷ []) ++ last ∷ [] ≡ take start old ++ enclosed first last (drop start old)
enclosed_none old start first last at =
    append_assoc old (first ∷ []) (last ∷ []) ∙ sym (rest_after old [] old start first last at (sym (append-nil old)))

pub enclosed_some : (old : List ℕ) (start first last : ℕ) → start < length old
    → set old start first ++ last ∷ [] ≡ take start old ++ enclosed first last (drop start old)
enclosed_some old start first last lt =
    ap (λ s. s ++ last ∷ []) (set_split old start first lt) ∙ append_assoc (take start old) (first ∷ drop (suc start) old) (last ∷ [])
    ∙ ap (λ s. take start old ++ enclosed first last s) (sym (drop-cons old start 0 lt))

pub object_enclosed : (ms : List (List ℕ × Data)) (old now : List ℕ) (start : ℕ) → start ≡ length old → now ≡ old ++ members_text ms
    → take start now ++ enclosed 123 125 (drop start now) ≡ old ++ text_of (object_of ms)
object_enclosed ms old now start at is = rest_after old (members_text ms) now start 123 125 at is ∙ ap (λ s. old ++ s) (members_enclosed ms)

pub array_enclosed : {A : Type 0} (tree : A → Data) (xs : List A) (old now : List ℕ) (start : ℕ) → start ≡ length old → now ≡ old ++ entries_text tree xs
    → take start now ++ enclosed 91 93 (drop start now) ≡ old ++ text_of (array_of tree xs)
array_enclosed tree xs old now start at is = rest_after old (entries_text tree xs) now start 91 93 at is ∙ ap (λ s. old ++ s) (entries_enclosed tree xs)

-- members one after the other
pub members_append : (a b : List (List ℕ × Data)) → members_text (a ++ b) ≡ members_text a ++ members_text b
unfolding members_text
members_append [] b = refl
members_append (m ∷ a) b =
    ap (λ t. key_text m.0 ++ (text_of m.1 ++ t)) (members_append a b)
    ∙ ap (λ t. key_text m.0 ++ t) (sym (append_assoc (text_of m.1) (members_text a) (members_text b)))
    ∙ sym (append_assoc (key_text m.0) (text_of m.1 ++ members_text a) (members_text b))

pub three_members : (a b c : List (List ℕ × Data)) (old : List ℕ)
    → ((old ++ members_text a) ++ members_text b) ++ members_text c ≡ old ++ members_text (a ++ (b ++ c))
three_members a b c old =
    append_assoc (old ++ members_text a) (members_text b) (members_text c)
    ∙ append_assoc old (members_text a) (members_text b ++ members_text c)
    ∙ ap (λ t. old ++ (members_text a ++ t)) (sym (members_append b c))
    ∙ ap (λ t. old ++ t) (sym (members_append a (b ++ c)))

-- an object in three parts
pub three_parts : (a b c : List (List ℕ × Data)) (old now : List ℕ) (start : ℕ) → start ≡ length old
    → now ≡ ((old ++ members_text a) ++ members_text b) ++ members_text c
    → take start now ++ enclosed 123 125 (drop start now) ≡ old ++ text_of (object_of (a ++ (b ++ c)))
three_parts a b c old now start at is = object_enclosed (a ++ (b ++ c)) old now start at (is ∙ three_members a b c old)

-- ---- keys

plain_escape : (s : List ℕ) → list_all is_plain s ≡ true → escape s ≡ s
plain_escape [] plain = refl
plain_escape (x ∷ s) plain =
    let parts = and_parts (is_plain x) (list_all is_plain s) plain in
    let none = or_parts ((x == 34) || (x == 92)) _ (not-true _ parts.0) in
    let tests = or_parts (x == 34) _ none.0 in
    ap (λ t. t ++ escape s) (escape_byte_plain x (eqb-false x 34 tests.0) (eqb-false x 92 tests.1) (ltb-false x 32 none.1)) ∙ ap (λ t. x ∷ t) (plain_escape s parts.1)

key_parts : (key : List ℕ) → IsTrue (is_key key) → key ≡ 44 ∷ 34 ∷ (name_in key ++ 34 ∷ 58 ∷ [])
key_parts key is =
    let same = (and_parts (bytes_eq key (44 ∷ 34 ∷ (name_in key ++ 34 ∷ 58 ∷ []))) _ is).0 in
    search (rules, bytes_eq-Decides, same)

pub key_is : (key : List ℕ) → IsTrue (is_key key) → key ≡ key_text (name_in key)
key_is key is =
    let plain = (and_parts (bytes_eq key (44 ∷ 34 ∷ (name_in key ++ 34 ∷ 58 ∷ []))) _ is).1 in
    key_parts key is ∙ ap (λ s. 44 ∷ 34 ∷ (s ++ 34 ∷ 58 ∷ [])) (sym (plain_escape (name_in key) plain))
    ∙ ap (λ s. 44 ∷ 34 ∷ s) (sym (append_assoc (escape (name_in key)) (34 ∷ []) (58 ∷ [])))

pub all_at : {A : Type 0} (p : A → Bool) (xs : List A) (i : ℕ) (d : A) → list_all p xs ≡ true → i < length xs → p (get_or xs i d) ≡ true
all_at p [] i d all lt = absurd (omega arith)
all_at p (x ∷ xs) zero d all lt = (and_parts (p x) (list_all p xs) all).0
all_at p (x ∷ xs) (suc i) d all lt = all_at p xs i d (and_parts (p x) (list_all p xs) all).1 (omega arith)

-- its second byte and its last but one are quotes, so that it can be cut there
pub key_long : (key : List ℕ) → IsTrue (is_key key) → 4 ≤ length key
key_long key is = omega (arith, ap length (key_parts key is), length-append (name_in key) (34 ∷ 58 ∷ []))

pub key_opens : (key : List ℕ) → IsTrue (is_key key) → get_or key 1 0 ≡ 34
key_opens key is = ap (λ s. get_or s 1 0) (key_parts key is)

at_end : (n : List ℕ) (c : ℕ) → get_or (44 ∷ 34 ∷ (n ++ 34 ∷ c ∷ [])) (suc (suc (length n))) 0 ≡ 34
at_end [] c = refl
at_end (x ∷ n) c = at_end n c

pub key_closes : (key : List ℕ) → IsTrue (is_key key) → get_or key (length key - 2) 0 ≡ 34
key_closes key is =
    let at : length key - 2 ≡ suc (suc (length (name_in key))) =
    omega (arith, ap length (key_parts key is), length-append (name_in key) (34 ∷ 58 ∷ [])) in
    ap (λ i. get_or key i 0) at ∙ ap (λ s. get_or s (suc (suc (length (name_in key)))) 0) (key_parts key is) ∙ at_end (name_in key) 58

-- a member, once its key and its value are written
pub one_member : (key : List ℕ) (d : Data) (old : List ℕ) → IsTrue (is_key key) → (old ++ key) ++ text_of d ≡ old ++ members_text ((name_in key, d) ∷ [])
unfolding members_text
one_member key d old is =
    append_assoc old key (text_of d) ∙ ap (λ k. old ++ (k ++ text_of d)) (key_is key is)
    ∙ ap (λ t. old ++ (key_text (name_in key) ++ t)) (sym (append-nil (text_of d)))

-- ---- values

pub string_printed : (s : List ℕ) → print (token.string s ∷ []) ≡ quoted s
string_printed s = print-outline (string s)

-- a text that has no escapes, between quotes
pub plain_quoted : (s old : List ℕ) → escape s ≡ s → ((old ++ 34 ∷ []) ++ s) ++ 34 ∷ [] ≡ old ++ quoted s
plain_quoted s old plain =
    append_assoc (old ++ 34 ∷ []) s (34 ∷ []) ∙ append_assoc old (34 ∷ []) (s ++ 34 ∷ [])
    ∙ ap (λ t. old ++ 34 ∷ (t ++ 34 ∷ [])) (sym plain)

pub nothing_printed : print [] ≡ []
unfolding print_from
nothing_printed = refl
