-- The values under a name, with one more field.
use Rattle.std.proofs.Common.{◌≡◌, ◌≢◌, ℕ, ◌+◌, ◌-◌, ◌<◌, ◌≤◌, List, [], ◌∷◌, ◌++◌, Bool, true, false, ◌&&◌, ◌||◌, ◌==◌, length, map, take, drop, get_or, slice_range, refl, ap, sym, ◌∙◌, subst, if◌then◌else◌, append-nil, codes, arith, rules, length-drop, get_or-drop}
use Rattle.std.specs.List.{filter, list_any}
use Rattle.std.specs.Str.{str_eq_ignore_ascii_case}
use Rattle.std.proofs.lemmas.List.{drop_more, take_more, map-append}
use Rattle.std.proofs.lemmas.List.Elements.{filter-append}
use Rattle.std.proofs.lemmas.List.Folds.{list_any-append}
use Rattle.httparse.specs.Spans.{header_bytes, span_bytes}
use Rattle.httparse.specs.declared.spans.HeaderSpan.{HeaderSpan}
use Rattle.wire.specs.Fields.{Pair, has_transfer, pieces_after, values_of}
use Rattle.wire.specs.Known.{IsCount}
use Rattle.wire.specs.declared.fields.Values.{Values}

-- the fields of the spans, with one more span
pub fields_more : (bytes : List ℕ) (spans : List HeaderSpan) (i : ℕ) (d : HeaderSpan) → i < length spans
    → map (header_bytes bytes) (take (i + 1) spans) ≡ map (header_bytes bytes) (take i spans) ++ header_bytes bytes (get_or spans i d) ∷ []
fields_more bytes spans i d inside = ap (map (header_bytes bytes)) (take_more spans i d inside) ∙ map-append (header_bytes bytes)
    (take i spans) (get_or spans i d ∷ [])

picked : (test : Pair → Bool) (f : Pair) (t : Bool) → test f ≡ t
    → map (λ (g : Pair). g.1) (filter test (f ∷ [])) ≡ (if t then f.1 ∷ [] else [])
picked test f true e = rw e refl
picked test f false e = rw e refl

chosen : (t : Bool) (xs : List (List ℕ)) (x : List ℕ) → xs ++ (if t then x ∷ [] else []) ≡ (if t then xs ++ x ∷ [] else xs)
chosen true xs x = refl
chosen false xs x = append-nil xs

-- the values under a name, with one more field
pub values_of-more : (name : List ℕ) (fields : List Pair) (f : Pair)
    → values_of name (fields ++ f ∷ []) ≡
    (if str_eq_ignore_ascii_case f.0 name then values_of name fields ++ f.1 ∷ [] else values_of name fields)
unfolding values_of
values_of-more name fields f =
    let test : Pair → Bool = λ (g : Pair). str_eq_ignore_ascii_case g.0 name in
    let value : Pair → List ℕ = λ (g : Pair). g.1 in
    ap (map value) (filter-append test fields (f ∷ []))
    ∙ map-append value (filter test fields) (filter test (f ∷ []))
    ∙ ap (λ l. map value (filter test fields) ++ l) (picked test f (test f) refl)
    ∙ chosen (test f) (map value (filter test fields)) f.1

-- one value more of a name
pub count_more : (wanted : List ℕ) (fields : List Pair) (name value : List ℕ) (is : Bool) (k : Values)
    → is ≡ str_eq_ignore_ascii_case name wanted
    → IsCount (if is then values_of wanted fields ++ value ∷ [] else values_of wanted fields) k
    → IsCount (values_of wanted (fields ++ (name, value) ∷ [])) k
count_more wanted fields name value is k same count =
    subst (λ vs. IsCount vs k)
    (ap (λ t. if t then values_of wanted fields ++ value ∷ [] else values_of wanted fields) same ∙ sym (values_of-more wanted fields
    (name, value)))
    count

-- the fields of the spans with one span more, by the bytes that it covers
pub fields_next : (bytes : List ℕ) (spans : List HeaderSpan) (i : ℕ) (d : HeaderSpan) (name value : List ℕ) → i < length spans
    → name ≡ span_bytes bytes (get_or spans i d).name → value ≡ span_bytes bytes (get_or spans i d).value
    → map (header_bytes bytes) (take i spans) ++ (name, value) ∷ [] ≡ map (header_bytes bytes) (take (i + 1) spans)
fields_next bytes spans i d name value inside named valued =
    let same : Pair = (name, value) in
    let pair : same ≡ header_bytes bytes (get_or spans i d) = λ j. (named j, valued j) in
    ap (λ f. map (header_bytes bytes) (take i spans) ++ f ∷ []) pair ∙ sym (fields_more bytes spans i d inside)

-- one field more that may name a transfer coding
pub transfer_more : (fields : List Pair) (f : Pair)
    → has_transfer (fields ++ f ∷ []) ≡ (has_transfer fields || str_eq_ignore_ascii_case f.0 (codes "transfer-encoding"))
unfolding has_transfer
transfer_more fields f =
    let test : Pair → Bool = λ (g : Pair). str_eq_ignore_ascii_case g.0 (codes "transfer-encoding") in
    list_any-append test fields (f ∷ []) ∙ ap (λ t. list_any test fields || t) (or-false (test f))
  where
    or-false : (t : Bool) → (t || false) ≡ t
    or-false true = refl
    or-false false = refl

-- one value more that may pass a test
pub any_more : (test : List ℕ → Bool) (wanted : List ℕ) (fields : List Pair) (f : Pair)
    → list_any test (values_of wanted (fields ++ f ∷ [])) ≡ (list_any test (values_of wanted fields) ||
    (str_eq_ignore_ascii_case f.0 wanted && test f.1))
any_more test wanted fields f = ap (list_any test) (values_of-more wanted fields f) ∙ by_test (str_eq_ignore_ascii_case f.0 wanted)
    (values_of wanted fields)
  where
    by_value : (a t : Bool) → (a || (t || false)) ≡ (a || t)
    by_value true t = refl
    by_value false true = refl
    by_value false false = refl

    or-none : (a : Bool) → a ≡ (a || false)
    or-none true = refl
    or-none false = refl

    by_test : (t : Bool) (vs : List (List ℕ)) → list_any test (if t then vs ++ f.1 ∷ [] else vs) ≡ (list_any test vs || (t && test f.1))
    by_test true vs = list_any-append test vs (f.1 ∷ []) ∙ by_value (list_any test vs) (test f.1)
    by_test false vs = or-none (list_any test vs)

pub values_of-none : (name : List ℕ) → values_of name [] ≡ []
unfolding values_of
values_of-none name = refl

pub transfer_none : false ≡ has_transfer []
unfolding has_transfer
transfer_none = refl

-- the pieces of a list, from a place on
pub pieces_comma : (list : List ℕ) (start place : ℕ) → place < length list → get_or list place 0 ≡ 44
    → pieces_after (slice_range list start place) (drop place list) ≡ slice_range list start place ∷ pieces_after [] (drop
    (place + 1) list)
pieces_comma list start place inside comma = rw (drop_more list place 0 inside, comma) refl

pub pieces_other : (list : List ℕ) (start place : ℕ) → start ≤ place → place < length list → get_or list place 0 ≢ 44
    → pieces_after (slice_range list start place) (drop place list) ≡ pieces_after (slice_range list start (place + 1)) (drop
    (place + 1) list)
pieces_other list start place order inside other =
    let here : drop place list ≡ get_or list place 0 ∷ drop (place + 1) list = drop_more list place 0 inside in
    let longer : slice_range list start (place + 1) ≡ slice_range list start place ++ get_or list place 0 ∷ []
    = slice_longer list start place order inside in
    ap (pieces_after (slice_range list start place)) here
    ∙ step (get_or list place 0 == 44) (eqb_not (get_or list place 0) other)
    ∙ ap (λ l. pieces_after l (drop (place + 1) list)) (sym longer)
  where
    slice_longer : (list : List ℕ) (start place : ℕ) → start ≤ place → place < length list
        → slice_range list start (place + 1) ≡ slice_range list start place ++ get_or list place 0 ∷ []
    slice_longer list start place order inside =
        let n = place - start in
        let more : place + 1 - start ≡ n + 1 = omega arith in
        let place_is : start + n ≡ place = omega arith in
        let few : n < length (drop start list) = omega (arith, length-drop start list) in
        rw (more, take_more (drop start list) n 0 few, get_or-drop, place_is) refl

    step : (t : Bool) → t ≡ false → (if t then slice_range list start place ∷ pieces_after [] (drop
        (place + 1) list) else pieces_after (slice_range list start place ++ get_or list place 0 ∷ []) (drop (place + 1) list))
        ≡ pieces_after (slice_range list start place ++ get_or list place 0 ∷ []) (drop (place + 1) list)
    step t e = rw e refl

    eqb_not : (n : ℕ) → n ≢ 44 → (n == 44) ≡ false
    eqb_not n other = search rules
