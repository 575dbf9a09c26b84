-- Members that can be read, and what is found in them.
use Rattle.std.proofs.Common.{◌≡◌, ◌<◌, ◌≤◌, ◌+◌, ◌∷◌, length, drop, get_or, ℕ, List, Bool, true, false, refl, ap, ◌∙◌, sym, Option, Some, None, inl, inr, bytes_eq, cond}
use Rattle.std.specs.Prelude.{IsUtf8, option_map, is_some, option_and_then, ◌&&◌, unwrap_or}
use Rattle.std.proofs.lemmas.Bool.{cases_Bool}
use Rattle.std.proofs.lemmas.Slice.Eq.{bytes_eq-Decides}
use Rattle.std.specs.Borrow.{Bor}
use Rattle.std.proofs.lemmas.List.{at_drop_more, at_drop_all}
use Rattle.json.specs.Value.{members_view, value_view}
use Rattle.json.specs.declared.value.Value.{Value}
use Rattle.json.specs.Json as json
use Rattle.json.specs.Find as jfind
use Rattle.json.specs.Find.{later_or}
use Rattle.serde_json.specs.Data.{Data, Items, Members, no_members, put, array, object, number, Num}
use Rattle.serde_json.specs.Find.{get_member}
use Rattle.std.specs.Str.{is_utf8}
use Rattle.std.proofs.lemmas.Str.{IsUtf8-from_is_utf8, is_utf8-from_IsUtf8}
use Rattle.serde_json.specs.Find.{as_object}
use Rattle.serde_json.specs.Read.{number_of, of_json, of_items, of_members, read}
use Rattle.serde_json.proofs.Views.{get_member-put, get_member-put_other}
use Rattle.site_bodies.specs.Members.{AreJudged, IsJudged, all_readable, body_of, members_in}
use Rattle.site_bodies.specs.declared.judged.Judged.{Judged}
use Rattle.site_bodies.specs.declared.judged.Judged.TheVariants.{Readable, Refused, Deep}

-- members are read exactly where each value is
pub members_readable : (ms : json.Members) (found : Members) → is_some (of_members ms found) ≡ all_readable ms
members_readable json.no_members found = refl
members_readable (json.member k j ms) found = by_value (λ d. members_readable ms (put k d found)) (of_json j) where
  by_value : ((d : Data) → is_some (of_members ms (put k d found)) ≡ all_readable ms) → (o : Option Data)
      → is_some (option_and_then (λ d. of_members ms (put k d found)) o) ≡ (is_some o && all_readable ms)
  by_value rest None = refl
  by_value rest (Some d) = rest d

-- the last value of a key, or what was there
abbrev picked : Option json.Json → Option Data → Option Data
picked None other = other
picked (Some j) other = of_json j

nothing : {A : Type 0} (x : A) → None ≡ Some x → ⊥
nothing x e = cc

pub other_key : (k l : List ℕ) → bytes_eq l k ≡ false → l ≡ k → ⊥
other_key k l not same =
    let is : bytes_eq l k ≡ true = (bytes_eq-Decides l k).1 same in
    let f : true ≡ false = sym is ∙ not in cc

one_put : (k l : List ℕ) (j : json.Json) (found : Members) (d : Data) → of_json j ≡ Some d → (last : Option json.Json)
    → picked last (get_member k (put l d found)) ≡ picked (later_or last (cond (bytes_eq l k) (Some j) None))
    (get_member k found)
one_put k l j found d is (Some i) = refl
one_put k l j found d is None = elim (cases_Bool (bytes_eq l k)) [
  | inl here ↦
      (let same : l ≡ k = (bytes_eq-Decides l k).0 here in
      rw here (rw (← same) (get_member-put l d found ∙ sym is)))
  | inr not ↦ rw not (get_member-put_other k l d found (λ e. other_key k l not (sym e)))
]

by_value : (k l : List ℕ) (j : json.Json) (ms : json.Members) (found ds : Members)
    → ((d : Data) → of_members ms (put l d found) ≡ Some ds
    → get_member k ds ≡ picked (jfind.get_member k ms) (get_member k (put l d found)))
    → (o : Option Data) → of_json j ≡ o → option_and_then (λ d. of_members ms (put l d found)) o ≡ Some ds
    → get_member k ds ≡ picked (later_or (jfind.get_member k ms) (cond (bytes_eq l k) (Some j) None))
    (get_member k found)
by_value k l j ms found ds rest None is read = absurd (nothing ds read)
by_value k l j ms found ds rest (Some d) is read = rest d read ∙ one_put k l j found d is (jfind.get_member k ms)

-- what is found in members that were read is what comes last in the text
found_last : (k : List ℕ) (ms : json.Members) (found ds : Members) → of_members ms found ≡ Some ds
    → get_member k ds ≡ picked (jfind.get_member k ms) (get_member k found)
found_last k json.no_members found ds e = let same : ds ≡ found = cc in ap (get_member k) same
found_last k (json.member l j ms) found ds e =
    by_value k l j ms found ds (λ d. found_last k ms (put l d found) ds) (of_json j) refl e

picked_alone : (o : Option json.Json) → picked o None ≡ option_and_then of_json o
picked_alone None = refl
picked_alone (Some j) = refl

pub found_in : (k : List ℕ) (ms : json.Members) (ds : Members) → of_members ms no_members ≡ Some ds
    → get_member k ds ≡ option_and_then of_json (jfind.get_member k ms)
found_in k ms ds e = found_last k ms no_members ds e ∙ picked_alone (jfind.get_member k ms)

-- ---- bodies

pub body_read : (bytes : List ℕ) (o : Option Data) → IsUtf8 bytes → read bytes ≡ o
    → body_of bytes ≡ option_and_then as_object o
unfolding body_of
body_read bytes o utf8 e = let test : is_utf8 bytes ≡ true = is_utf8-from_IsUtf8 bytes utf8 in rw (test, e) refl

pub body_refused : (bytes : List ℕ) → (IsUtf8 bytes → read bytes ≡ None) → body_of bytes ≡ None
unfolding body_of
body_refused bytes h = elim (cases_Bool (is_utf8 bytes)) [
  | inl good ↦ (let e = h (IsUtf8-from_is_utf8 bytes good) in rw (good, e) refl)
  | inr bad ↦ rw bad refl
]

some_object : (o : Option Members) → is_some (option_and_then as_object (option_map object o)) ≡ is_some o
some_object None = refl
some_object (Some ds) = refl

no_object : (o : Option Members) → is_some o ≡ false → option_and_then as_object (option_map object o) ≡ None
no_object None e = refl
no_object (Some ds) e = cc

no_array : (o : Option Items) → option_and_then as_object (option_map array o) ≡ None
no_array None = refl
no_array (Some ds) = refl

pub object_readable : (ms : json.Members) → all_readable ms ≡ true → is_some (members_in (json.object ms)) ≡ true
object_readable ms e = some_object (of_members ms no_members) ∙ members_readable ms no_members ∙ e

pub object_refused : (ms : json.Members) → all_readable ms ≡ false → members_in (json.object ms) ≡ None
object_refused ms e = no_object (of_members ms no_members) (members_readable ms no_members ∙ e)

pub array_refused : (js : json.Items) → members_in (json.array js) ≡ None
array_refused js = no_array (of_items js)

some_is : (o : Option Members) → is_some o ≡ true → o ≡ Some (unwrap_or o no_members)
some_is None e = cc
some_is (Some ds) e = refl

pub members_are : (j : json.Json) → is_some (members_in j) ≡ true
    → members_in j ≡ Some (unwrap_or (members_in j) no_members)
members_are j e = some_is (members_in j) e

in_object : (k : List ℕ) (ms : json.Members) (o : Option Members) → of_members ms no_members ≡ o
    → is_some (option_and_then as_object (option_map object o)) ≡ true
    → get_member k (unwrap_or (option_and_then as_object (option_map object o)) no_members)
    ≡ option_and_then of_json (jfind.get_member k ms)
in_object k ms None is e = cc
in_object k ms (Some ds) is e = found_in k ms ds is

-- a field of an object that was read
pub field_is : (k : List ℕ) (j : json.Json) → is_some (members_in j) ≡ true
    → get_member k (unwrap_or (members_in j) no_members) ≡ option_and_then of_json (jfind.get k j)
field_is k (json.object ms) e = in_object k ms (of_members ms no_members) refl e
field_is k json.null e = cc
field_is k (json.boolean b) e = cc
field_is k (json.number s) e = absurd (no_number (number_of s) e) where
  no_number : (o : Option Num) → is_some (option_and_then as_object (option_map number o)) ≡ true → ⊥
  no_number None e = cc
  no_number (Some n) e = cc
field_is k (json.string s) e = cc
field_is k (json.array js) e = let none = array_refused js in absurd (let f : false ≡ true = rw none at e in cc)

-- ---- members in turn

-- one that can be read leaves the rest to decide
pub readable_step : {A : Type 0} (xs : List (Bor (List ℕ) × Value A)) (i : ℕ) (d : Bor (List ℕ) × Value A)
    → i < length xs → d ≡ get_or xs i d → is_some (of_json (value_view d.1)) ≡ true
    → all_readable (members_view (drop i xs)) ≡ all_readable (members_view xs)
    → all_readable (members_view (drop (i + 1) xs)) ≡ all_readable (members_view xs)
readable_step {A} xs i d lt at' seen so_far =
    let is = ap (λ (y : Bor (List ℕ) × Value A). is_some (of_json (value_view y.1))) (sym at') ∙ seen in
    let here = at_drop_more (λ ys. all_readable (members_view ys)) xs i d lt in
    let one : all_readable (members_view (get_or xs i d ∷ drop (i + 1) xs)) ≡ all_readable (members_view (drop (i + 1) xs))
    = rw is refl in
    sym one ∙ sym here ∙ so_far

-- one that can't refuses all
pub refused_step : {A : Type 0} (xs : List (Bor (List ℕ) × Value A)) (i : ℕ) (d : Bor (List ℕ) × Value A)
    → i < length xs → d ≡ get_or xs i d → is_some (of_json (value_view d.1)) ≡ false
    → all_readable (members_view (drop i xs)) ≡ all_readable (members_view xs) → all_readable (members_view xs) ≡ false
refused_step {A} xs i d lt at' seen so_far =
    let is = ap (λ (y : Bor (List ℕ) × Value A). is_some (of_json (value_view y.1))) (sym at') ∙ seen in
    let here = at_drop_more (λ ys. all_readable (members_view ys)) xs i d lt in
    let one : all_readable (members_view (get_or xs i d ∷ drop (i + 1) xs)) ≡ false = rw is refl in
    sym so_far ∙ here ∙ one

pub readable_end : {A : Type 0} (xs : List (Bor (List ℕ) × Value A)) (i : ℕ) → length xs ≤ i
    → all_readable (members_view (drop i xs)) ≡ all_readable (members_view xs) → all_readable (members_view xs) ≡ true
readable_end xs i le so_far = sym so_far ∙ at_drop_all (λ ys. all_readable (members_view ys)) xs i le

pub seen_object : (r : Judged) (ms : json.Members) → AreJudged r ms → IsJudged r (json.object ms)
seen_object Readable ms are = object_readable ms are
seen_object Refused ms are = object_refused ms are
seen_object Deep ms are = (ms, refl)

-- a tree of the bytes
pub tree_means : (bytes text : List ℕ) (j : json.Json) → text ≡ bytes → IsUtf8 bytes → read text ≡ of_json j
    → body_of bytes ≡ members_in j
tree_means bytes text j same utf8 e = body_read bytes (of_json j) utf8 (sym (ap read same) ∙ e)

pub none_means : (bytes text : List ℕ) → text ≡ bytes → read text ≡ None → body_of bytes ≡ None
none_means bytes text same e = body_refused bytes (λ utf8. sym (ap read same) ∙ e)

-- and where serde_json reads the bytes, an object is one that it reads
deep_some : (o : Option Members) (d : Data) → option_map object o ≡ Some d
    → is_some (option_and_then as_object (option_map object o)) ≡ true
deep_some None d e = cc
deep_some (Some ds) d e = refl

pub deep_readable : (text bytes : List ℕ) (j : json.Json) (ms : json.Members) (d : Data) → text ≡ bytes
    → read text ≡ of_json j → j ≡ json.object ms → read bytes ≡ Some d → is_some (members_in j) ≡ true
deep_readable text bytes j ms d same e is reads =
    let object_is : option_map object (of_members ms no_members) ≡ Some d = sym (ap of_json is) ∙ sym e
    ∙ ap read same ∙ reads in
    ap (λ (i : json.Json). is_some (members_in i)) is ∙ deep_some (of_members ms no_members) d object_is

-- what is found in an object that was read can be read
both_true : (a b : Bool) → (a && b) ≡ true → (a ≡ true) × (b ≡ true)
both_true true true e = (refl, refl)
both_true true false e = cc
both_true false b e = cc

one_found : (b : Bool) (i j : json.Json) → cond b (Some j) None ≡ Some i → is_some (of_json j) ≡ true
    → is_some (of_json i) ≡ true
one_found true i j e is = let same : j ≡ i = cc in ap (λ (x : json.Json). is_some (of_json x)) (sym same) ∙ is
one_found false i j e is = cc

found_readable : (k : List ℕ) (ms : json.Members) (i : json.Json) → all_readable ms ≡ true
    → jfind.get_member k ms ≡ Some i → is_some (of_json i) ≡ true
found_readable k json.no_members i all found = cc
found_readable k (json.member l j ms) i all found =
    by_later (jfind.get_member k ms) (λ found. found_readable k ms i (both_true (is_some (of_json j))
    (all_readable ms) all).1 found) (both_true (is_some (of_json j)) (all_readable ms) all).0 found where
      by_later : (o : Option json.Json) → (o ≡ Some i → is_some (of_json i) ≡ true) → is_some (of_json j) ≡ true
          → later_or o (cond (bytes_eq l k) (Some j) None) ≡ Some i → is_some (of_json i) ≡ true
      by_later None rest is found = one_found (bytes_eq l k) i j found is
      by_later (Some x) rest is found = rest found

pub value_readable : (k : List ℕ) (j i : json.Json) → is_some (members_in j) ≡ true → Some i ≡ jfind.get k j
    → is_some (of_json i) ≡ true
value_readable k (json.object ms) i e found = found_readable k ms i (sym (members_readable ms no_members)
    ∙ sym (some_object (of_members ms no_members)) ∙ e) (sym found)
value_readable k json.null i e found = cc
value_readable k (json.boolean b) i e found = cc
value_readable k (json.number s) i e found = cc
value_readable k (json.string s) i e found = cc
value_readable k (json.array js) i e found = cc
