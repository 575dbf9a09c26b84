-- The lines of a head: where they end, and the fields that they have.
use Rattle.std.proofs.Common.{◌≡◌, ℕ, ◌+◌, ◌-◌, ◌<◌, ◌≤◌, ◌==◌, List, [], ◌∷◌, ◌++◌, Bool, true, false, Option, Some, None, All, IsTrue, length, map, take, drop, get_or, nat_lt, if◌then◌else◌, refl, sym, ap, ◌∙◌, subst, arith, rules, inl, inr, append-nil, append_assoc, length-append}
use Rattle.std.specs.List.{filter, flat_map, position_or_len, slice_split}
use Rattle.std.specs.Str.{IsTrimAsciiStart, str_eq_ignore_ascii_case, str_to_ascii_lowercase}
use Rattle.std.specs.Char.{is_ascii_whitespace, to_ascii_lowercase}
use Rattle.std.proofs.Math.Seq.{drop-append-add, drop-append_seam, take-append_seam, get_or-append_seam}
use Rattle.std.proofs.lemmas.Bool.{cases_eq, cases_lt, cases_order, eq-eqb, true≢false}
use Rattle.std.proofs.lemmas.Bool.Decides.{eqb_tells}
use Rattle.std.proofs.lemmas.List.{drop-drop, get_or_append_left, length-map, length-take-le, map-append, take_all, take_rest}
use Rattle.std.proofs.lemmas.List.Elements.{All-append, All-cons, All-from_get_or, All-get_or, All-head, All-nil, All-tail, filter-append}
use Rattle.std.proofs.lemmas.List.Splits.{slice_split_at, slice_split_first, slice_split_none}
use Rattle.std.proofs.lemmas.List.Sums.{position_or_len_is}
use Rattle.std.proofs.lemmas.Slice.Eq.{bytes_eq-Decides}
use Rattle.httparse.specs.Grammar.{AllPass, Field, IsField, IsRequestHead, IsToken, LineEnd, RequestHead, crlf, is_token_byte, is_value_byte, lf, print_blank, print_end, print_field, print_request, print_section, print_version, trim_ows}
use Rattle.httparse.specs.Spans.{name_and_value}
use Rattle.httparse.proofs.GrammarLemmas.{cons-append, print_request-append}
use Rattle.memchr.specs.Find.{IsFirstByte, is_byte}
use Rattle.wire.specs.Fields.{Pair, values_of}
use Rattle.wire.specs.Lines.{field_in, fields_in, name_end, request_line, value_after}
use Rattle.wire.proofs.FieldLemmas.{values_of-more, values_of-none}

-- no byte of the list is x
abbrev pub Lacks : ℕ → List ℕ → Type 0
Lacks x bytes = All (λ b. (b == x) ≡ false) bytes

-- where the first x is, or the length
abbrev pub place_of : ℕ → List ℕ → ℕ
place_of x bytes = position_or_len (λ b. b == x) bytes

is_not : (t : Bool) → (t ≡ true → ⊥) → t ≡ false
is_not true = λ no. absurd (no refl)
is_not false = λ no. refl

-- one more byte that is not x
also_lacks : (x b : ℕ) (bytes : List ℕ) → (b == x) ≡ false → Lacks x bytes → Lacks x (b ∷ bytes)
also_lacks x b bytes other lacks = All-cons (λ c. (c == x) ≡ false) b bytes other lacks

lacks_none : (x : ℕ) → Lacks x []
lacks_none x = All-nil (λ c. (c == x) ≡ false)

return_lacks : Lacks 10 (13 ∷ [])
return_lacks = also_lacks 10 13 [] refl (lacks_none 10)

lacks_both : (x : ℕ) (xs ys : List ℕ) → Lacks x xs → Lacks x ys → Lacks x (xs ++ ys)
lacks_both x xs ys = All-append (λ c. (c == x) ≡ false) xs ys

whenever : {X : Type 0} (x y : X) (t : Bool) → t ≡ true → (if t then x else y) ≡ x
whenever x y t e = rw e refl

unless : {X : Type 0} (x y : X) (t : Bool) → t ≡ false → (if t then x else y) ≡ y
unless x y t e = rw e refl

-- what a search for a byte finds is the first place
pub found_at : (x : ℕ) (bytes : List ℕ) (k : ℕ) → IsFirstByte (is_byte x) bytes (Some k) → place_of x bytes ≡ k
found_at x bytes k is =
    position_or_len_is (λ b. b == x) bytes k 0 (omega (arith, is.0.high))
    (λ i low. is_not (get_or bytes i 0 == x) (λ here. is.0.before i (omega arith) low here)) (λ _. is.1)

pub lacks_found : (x : ℕ) (bytes : List ℕ) → IsFirstByte (is_byte x) bytes None → Lacks x bytes
lacks_found x bytes none =
    All-from_get_or (λ b. (b == x) ≡ false) bytes 0
    (λ i low. is_not (get_or bytes i 0 == x) (λ here. none i (omega arith) low here))

pub lacks_unfound : (x : ℕ) (bytes : List ℕ) (r : Option ℕ) → ((k : ℕ) → r ≡ Some k → ⊥) → IsFirstByte (is_byte x) bytes r → Lacks x bytes
lacks_unfound x bytes None none is = lacks_found x bytes is
lacks_unfound x bytes (Some k) none is = absurd (none k refl)

-- a byte that a list lacks has no place in it
pub lacks_place : (x : ℕ) (bytes : List ℕ) → Lacks x bytes → place_of x bytes ≡ length bytes
lacks_place x bytes lacks =
    position_or_len_is (λ b. b == x) bytes (length bytes) 0 (omega arith)
    (λ i low. All-get_or (λ b. (b == x) ≡ false) bytes i 0 low lacks) (λ low. absurd (omega (arith, low)))

-- the first x comes after what lacks it
pub place_after : (x : ℕ) (front rest : List ℕ) → Lacks x front → place_of x (front ++ x ∷ rest) ≡ length front
place_after x front rest lacks =
    let long : length (front ++ x ∷ rest) ≡ length front + length (x ∷ rest) = length-append front (x ∷ rest) in
    position_or_len_is (λ b. b == x) (front ++ x ∷ rest) (length front) 0 (omega (arith, long)) before (λ _. here)
  where
    before : (i : ℕ) → i < length front → (get_or (front ++ x ∷ rest) i 0 == x) ≡ false
    before i low = ap (λ b. b == x) (get_or_append_left front (x ∷ rest) 0 i low) ∙ All-get_or (λ b. (b == x) ≡ false) front i 0 low lacks

    here : (get_or (front ++ x ∷ rest) (length front) 0 == x) ≡ true
    here = eq-eqb (get_or (front ++ x ∷ rest) (length front) 0) x (get_or-append_seam front x rest 0)

-- bytes that pass a test lack each byte that fails it
pub lacks_by : (test : ℕ → Bool) (x : ℕ) → test x ≡ false → (bytes : List ℕ) → AllPass test bytes → Lacks x bytes
lacks_by test x fails bytes pass =
    All-from_get_or (λ b. (b == x) ≡ false) bytes 0 (λ i low. other (get_or bytes i 0) (All-get_or (λ b. IsTrue (test b)) bytes i 0 low pass))
  where
    other : (b : ℕ) → test b ≡ true → (b == x) ≡ false
    other b passes = elim (eqb_tells b x) [ inl is ↦ absurd (true≢false (sym passes ∙ ap test is.1 ∙ fails)) | inr not ↦ not.0 ]

-- the field of a line with a colon
pub field_at : (line : List ℕ) (k : ℕ) → name_end line ≡ k → k < length line
    → field_in line ≡ (take k line, value_after (drop (k + 1) line)) ∷ []
unfolding field_in
field_at line k e low =
    let test : nat_lt k (length line) ≡ true = search (rules, low) in
    let pair : ℕ → Pair = λ n. (take n line, value_after (drop (n + 1) line)) in
    ap (λ n. if nat_lt n (length line) then pair n ∷ [] else []) e ∙ whenever (pair k ∷ []) [] (nat_lt k (length line)) test

pub field_nowhere : (line : List ℕ) → length line ≤ name_end line → field_in line ≡ []
unfolding field_in
field_nowhere line none =
    let test : nat_lt (name_end line) (length line) ≡ false = search (rules, none) in
    let pair : ℕ → Pair = λ n. (take n line, value_after (drop (n + 1) line)) in
    unless (pair (name_end line) ∷ []) [] (nat_lt (name_end line) (length line)) test

-- the field of a line with a name and what comes after its colon
field_of_line : (name raw : List ℕ) → Lacks 58 name → field_in (name ++ 58 ∷ raw) ≡ (name, value_after raw) ∷ []
field_of_line name raw lacks =
    let line = name ++ 58 ∷ raw in
    let low : length name < length line = omega (arith, length-append name (58 ∷ raw)) in
    field_at line (length name) (place_after 58 name raw lacks) low
    ∙ ap (λ n. (n, value_after (drop (length name + 1) line)) ∷ []) (take-append_seam name (58 ∷ raw))
    ∙ ap (λ r. (name, value_after r) ∷ []) (drop-append-add name (58 ∷ raw) 1)

-- the value of one field by its name
pub named_one : (name : List ℕ) (f : Pair) → str_eq_ignore_ascii_case f.0 name ≡ true → values_of name (f ∷ []) ≡ f.1 ∷ []
named_one name f e =
    values_of-more name [] f
    ∙ whenever (values_of name [] ++ f.1 ∷ []) (values_of name []) (str_eq_ignore_ascii_case f.0 name) e
    ∙ ap (λ l. l ++ f.1 ∷ []) (values_of-none name)

pub named_other : (name : List ℕ) (f : Pair) → str_eq_ignore_ascii_case f.0 name ≡ false → values_of name (f ∷ []) ≡ []
named_other name f e =
    values_of-more name [] f
    ∙ unless (values_of name [] ++ f.1 ∷ []) (values_of name []) (str_eq_ignore_ascii_case f.0 name) e
    ∙ values_of-none name

-- names of two lengths are not the same
other_length : (a b : List ℕ) → (length a ≡ length b → ⊥) → str_eq_ignore_ascii_case a b ≡ false
other_length a b other = is_not (str_eq_ignore_ascii_case a b) (λ e. other (same e))
  where
    same : str_eq_ignore_ascii_case a b ≡ true → length a ≡ length b
    same e =
        let lists = (bytes_eq-Decides (str_to_ascii_lowercase a) (str_to_ascii_lowercase b)).0 e in
        sym (length-map a to_ascii_lowercase) ∙ ap (λ (l : List ℕ). length l) lists ∙ length-map b to_ascii_lowercase

-- a line whose name is known to be another has no value of this one
pub other_name : (line name : List ℕ) → (name_end line < length line → name_end line ≡ length name → str_eq_ignore_ascii_case
    (take (name_end line) line) name ≡ false)
    → values_of name (field_in line) ≡ []
other_name line name other = elim (cases_lt (name_end line) (length line)) [
  | inr none ↦ ap (values_of name) (field_nowhere line none) ∙ values_of-none name
  | inl low ↦ ap (values_of name) (field_at line (name_end line) refl low)
      ∙ named_other name (take (name_end line) line, value_after (drop (name_end line + 1) line)) (differs low)
]
  where
    differs : name_end line < length line → str_eq_ignore_ascii_case (take (name_end line) line) name ≡ false
    differs low =
        let long : length (take (name_end line) line) ≡ name_end line = length-take-le (name_end line) line (omega (arith, low)) in
        elim (cases_eq (name_end line) (length name)) [
          | inl e ↦ other low e
          | inr not ↦ other_length (take (name_end line) line) name (λ e. not (sym long ∙ e))
        ]

pub values_of-append : (name : List ℕ) (xs ys : List Pair) → values_of name (xs ++ ys) ≡ values_of name xs ++ values_of name ys
unfolding values_of
values_of-append name xs ys =
    let test : Pair → Bool = λ (g : Pair). str_eq_ignore_ascii_case g.0 name in
    let value : Pair → List ℕ = λ (g : Pair). g.1 in
    ap (map value) (filter-append test xs ys) ∙ map-append value (filter test xs) (filter test ys)

-- the first line of a text, and the others
pub first_line : (text : List ℕ) (k : ℕ) → place_of 10 text ≡ k → k < length text
    → fields_in text ≡ field_in (take k text) ++ fields_in (drop (k + 1) text)
unfolding fields_in
first_line text k e low =
    let inside : place_of 10 text < length text = omega (arith, e, low) in
    ap (flat_map field_in) (slice_split_first (λ b. b == 10) text 0 inside)
    ∙ ap (λ n. field_in (take n text) ++ flat_map field_in (slice_split (λ b. b == 10) (drop (n + 1) text))) e

pub last_line : (text : List ℕ) → Lacks 10 text → fields_in text ≡ field_in text
unfolding fields_in
last_line text lacks = ap (flat_map field_in) (slice_split_none (λ b. b == 10) text lacks) ∙ append-nil (field_in text)

line_more : (line rest : List ℕ) → Lacks 10 line → fields_in (line ++ 10 ∷ rest) ≡ field_in line ++ fields_in rest
unfolding fields_in
line_more line rest lacks = ap (flat_map field_in) (slice_split_at (λ b. b == 10) line 10 rest lacks refl)

value_lacks : (x : ℕ) → is_value_byte x ≡ false → (f : Field) → IsField f → Lacks x f.raw
value_lacks x fails f is = lacks_by is_value_byte x fails f.raw is.raw

name_lacks_colon : (f : Field) → IsField f → Lacks 58 f.name
unfolding is_token_byte
name_lacks_colon f is = lacks_by is_token_byte 58 refl f.name is.name.1

token_lacks_line : (bytes : List ℕ) → AllPass is_token_byte bytes → Lacks 10 bytes
unfolding is_token_byte
token_lacks_line bytes pass = lacks_by is_token_byte 10 refl bytes pass

-- the value up to a carriage return that there is or not
value_plain : (f : Field) → IsField f → value_after f.raw ≡ trim_ows f.raw
value_plain f is =
    ap (λ n. trim_ows (take n f.raw)) (lacks_place 13 f.raw (value_lacks 13 refl f is))
    ∙ ap trim_ows (take_all (length f.raw) f.raw (omega arith))

value_returned : (f : Field) → IsField f → value_after (f.raw ++ 13 ∷ []) ≡ trim_ows f.raw
value_returned f is =
    ap (λ n. trim_ows (take n (f.raw ++ 13 ∷ []))) (place_after 13 f.raw [] (value_lacks 13 refl f is))
    ∙ ap trim_ows (take-append_seam f.raw (13 ∷ []))

-- a line of a field, and what follows
field_more : (f : Field) (rest : List ℕ) → IsField f
    → fields_in ((f.name ++ 58 ∷ f.raw) ++ (print_end f.end ++ rest)) ≡ name_and_value f ∷ fields_in rest
field_more f rest is = by_end f.end
  where
    named : Lacks 10 (f.name ++ 58 ∷ f.raw)
    named = lacks_both 10 f.name (58 ∷ f.raw) (token_lacks_line f.name is.name.1) (also_lacks 10 58 f.raw refl (value_lacks 10 refl f is))

    by_end : (end : LineEnd) → fields_in ((f.name ++ 58 ∷ f.raw) ++ (print_end end ++ rest)) ≡ name_and_value f ∷ fields_in rest
    by_end lf =
        line_more (f.name ++ 58 ∷ f.raw) rest named
        ∙ ap (λ l. l ++ fields_in rest) (field_of_line f.name f.raw (name_lacks_colon f is))
        ∙ ap (λ v. (f.name, v) ∷ fields_in rest) (value_plain f is)
    by_end crlf =
        ap fields_in (regroup f.name f.raw rest)
        ∙ line_more (f.name ++ 58 ∷ (f.raw ++ 13 ∷ [])) rest
        (lacks_both 10 f.name (58 ∷ (f.raw ++ 13 ∷ [])) (token_lacks_line f.name is.name.1)
        (also_lacks 10 58 (f.raw ++ 13 ∷ []) refl (lacks_both 10 f.raw (13 ∷ []) (value_lacks 10 refl f is) return_lacks)))
        ∙ ap (λ l. l ++ fields_in rest) (field_of_line f.name (f.raw ++ 13 ∷ []) (name_lacks_colon f is))
        ∙ ap (λ v. (f.name, v) ∷ fields_in rest) (value_returned f is)
      where
        regroup : (name raw more : List ℕ)
            → (name ++ 58 ∷ raw) ++ (13 ∷ (10 ∷ more)) ≡ (name ++ 58 ∷ (raw ++ 13 ∷ [])) ++ 10 ∷ more
        regroup name raw more = simp (append_assoc, cons-append)

no_fields : (end : LineEnd) → fields_in (print_end end) ≡ []
unfolding fields_in field_in
no_fields lf = refl
no_fields crlf = refl

-- what is left of a line at its end has no field
pub end_more : (end : LineEnd) (rest : List ℕ) → fields_in (print_end end ++ rest) ≡ fields_in rest
unfolding field_in
end_more lf rest = line_more [] rest (lacks_none 10)
end_more crlf rest = line_more (13 ∷ []) rest return_lacks

-- the fields of a section are those of its lines
pub section_fields : (fields : List Field) (last : LineEnd) → All IsField fields
    → fields_in (print_section fields last) ≡ map name_and_value fields
section_fields [] last all = no_fields last
section_fields (f ∷ fields) last all =
    ap fields_in (regroup (f.name ++ 58 ∷ f.raw) (print_end f.end) (flat_map print_field fields) (print_end last))
    ∙ field_more f (print_section fields last) (All-head IsField f fields all)
    ∙ ap (λ l. name_and_value f ∷ l) (section_fields fields last (All-tail IsField f fields all))
  where
    regroup : (a b c d : List ℕ) → ((a ++ b) ++ c) ++ d ≡ a ++ (b ++ (c ++ d))
    regroup a b c d = simp append_assoc

-- what comes after the empty lines of a head
abbrev pub after_blank : RequestHead → List ℕ
after_blank h = request_line h ++ (print_end h.line_end ++ print_section h.fields h.last)

pub head_lines : (h : RequestHead) → print_request h ≡ print_blank h.blank ++ after_blank h
head_lines h =
    sym (append-nil (print_request h)) ∙ print_request-append h []
    ∙ regroup (print_blank h.blank) h.method h.target (print_version h.minor) (print_end h.line_end) (print_section h.fields h.last)
  where
    regroup : (a b c d e f : List ℕ)
        → a ++ (b ++ 32 ∷ (c ++ 32 ∷ (d ++ (e ++ (f ++ []))))) ≡ a ++ ((b ++ 32 ∷ (c ++ 32 ∷ d)) ++ (e ++ f))
    regroup a b c d e f = simp (append_assoc, cons-append, append-nil)

-- the ends of lines are white space
blank_space : (ends : List LineEnd) → AllPass is_ascii_whitespace (print_blank ends)
blank_space [] = All-nil (λ b. IsTrue (is_ascii_whitespace b))
blank_space (lf ∷ ends) = All-cons (λ b. IsTrue (is_ascii_whitespace b)) 10 (print_blank ends) refl (blank_space ends)
blank_space (crlf ∷ ends) =
    All-cons (λ b. IsTrue (is_ascii_whitespace b)) 13 (10 ∷ print_blank ends) refl
    (All-cons (λ b. IsTrue (is_ascii_whitespace b)) 10 (print_blank ends) refl (blank_space ends))

no_space : (b : ℕ) → (b == 9) ≡ false → (b == 10) ≡ false → (b == 12) ≡ false → (b == 13) ≡ false → (b == 32) ≡ false
    → is_ascii_whitespace b ≡ false
no_space b = search rules

-- a token begins with no white space
token_no_space : (token rest : List ℕ) → IsToken token → is_ascii_whitespace (get_or (token ++ rest) 0 0) ≡ false
unfolding is_token_byte
token_no_space token rest is =
    let first = get_or token 0 0 in
    let other : (x : ℕ) → is_token_byte x ≡ false → (first == x) ≡ false = λ x fails. All-get_or (λ b. (b == x) ≡ false) token 0 0 is.0
    (lacks_by is_token_byte x fails token is.1) in
    ap is_ascii_whitespace (get_or_append_left token rest 0 0 is.0)
    ∙ no_space first (other 9 refl) (other 10 refl) (other 12 refl) (other 13 refl) (other 32 refl)

-- white space up to what begins with none is what a trim takes off
trims : (space text r : List ℕ) → AllPass is_ascii_whitespace space → 0 < length text → is_ascii_whitespace (get_or text 0 0) ≡ false
    → IsTrimAsciiStart (space ++ text) r → r ≡ text
trims space text r all some first (n, is, long, below, stops) = elim (cases_order n (length space)) [
  | inl e ↦ is ∙ ap (λ k. drop k (space ++ text)) e ∙ drop-append_seam space text
  | inr (inl low) ↦ absurd (true≢false
      (sym (All-get_or (λ b. IsTrue (is_ascii_whitespace b)) space n 0 low all) ∙ ap is_ascii_whitespace
      (sym (get_or_append_left space text 0 n low)) ∙ stops (omega (arith, length-append space text, low))))
  | inr (inr past) ↦ absurd (true≢false
      (sym (below (length space) past) ∙ ap is_ascii_whitespace (get_or-append space text) ∙ first))
]
  where
    get_or-append : (xs ys : List ℕ) → get_or (xs ++ ys) (length xs) 0 ≡ get_or ys 0 0
    get_or-append [] ys = refl
    get_or-append (x ∷ xs) ys = get_or-append xs ys

-- after the line of a request, the empty lines before it trimmed off, comes its end, and then the
-- lines of the fields
pub after_request_line : (h : RequestHead) (text : List ℕ) → IsRequestHead h → IsTrimAsciiStart (print_request h) text
    → (length (request_line h) ≤ length text) × (drop (length (request_line h)) text ≡ print_end h.line_end ++ print_section h.fields h.last)
after_request_line h text is trimmed =
    let rest = print_end h.line_end ++ print_section h.fields h.last in
    let after_method = 32 ∷ (h.target ++ 32 ∷ print_version h.minor) in
    let begins : is_ascii_whitespace (get_or (after_blank h) 0 0) ≡ false = ap (λ (l : List ℕ). is_ascii_whitespace (get_or l 0 0))
    (append_assoc h.method after_method rest) ∙ token_no_space h.method (after_method ++ rest) is.method in
    let some : 0 < length (after_blank h) = omega (
      arith,
      length-append (request_line h) rest,
      length-append h.method
          after_method,
      is.method.0,
    ) in
    let same : text ≡ after_blank h = trims (print_blank h.blank) (after_blank h) text (blank_space h.blank) some begins (subst
    (λ t. IsTrimAsciiStart t text) (head_lines h) trimmed) in (
      omega (arith, ap (λ (l : List ℕ). length l) same, length-append (request_line h) rest),
      ap (drop (length (request_line h))) same ∙ drop-append_seam (request_line h) rest,
    )

-- the line of a request is its method, its target and ten bytes, and it is part of the head
pub request_line_long : (h : RequestHead)
    → (length (request_line h) ≡ length h.method + length h.target + 10) × (length (request_line h) ≤ length (print_request h))
request_line_long h =
    let method = length-append h.method (32 ∷ (h.target ++ 32 ∷ print_version h.minor)) in
    let target = length-append h.target (32 ∷ print_version h.minor) in
    let whole = ap (λ (l : List ℕ). length l) (head_lines h) ∙ length-append (print_blank h.blank) (after_blank h) in
    let rest_after = length-append (request_line h) (print_end h.line_end ++ print_section h.fields h.last) in
    (omega (arith, method, target), omega (arith, whole, rest_after))

-- what comes after a line and its line feed
pub after_line : (text : List ℕ) (k : ℕ)
    → take (length (take (length text - k) (drop k text)) - 1) (drop 1 (take (length text - k) (drop k text))) ≡ drop (k + 1) text
after_line text k =
    take_rest (take (length text - k) (drop k text)) 1 ∙ ap (λ (l : List ℕ). drop 1 l) (take_rest text k) ∙ drop-drop 1 k text
