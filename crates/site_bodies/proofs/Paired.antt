-- Pairs of the values of an array, one after another.
use Rattle.std.proofs.Common.{◌≡◌, ◌<◌, ◌≤◌, ◌+◌, ◌++◌, ◌∷◌, [], length, drop, get_or, ℕ, List, Bool, true, false, refl, ap, ◌∙◌, sym, Option, Some, None, append_assoc}
use Rattle.std.specs.Prelude.{IsUtf8, is_some, option_and_then, option_map}
use Rattle.std.proofs.lemmas.List.{append-nil, at_drop_more, at_drop_all}
use Rattle.serde_json.specs.Data.{Data, Members, object}
use Rattle.serde_json.specs.Find.{as_array, as_object, get, get_member}
use Rattle.serde_json.specs.Read.{read}
use Rattle.serde_json.specs.View.{items_view, view}
use Rattle.serde_json.specs.declared.value.Value.{Value}
use Rattle.site_bodies.specs.Members.{body_of}
use Rattle.site_bodies.specs.Pairs.{pair_in, pairs_at, pairs_in}
use Rattle.site_bodies.proofs.Readable.{body_read}

-- the pairs so far, before those of what is left
abbrev pub joined : List (ℕ × ℕ) → Option (List (ℕ × ℕ)) → Option (List (ℕ × ℕ))
joined before rest = option_map (λ ps. before ++ ps) rest

pub join_none : (rest : Option (List (ℕ × ℕ))) → joined [] rest ≡ rest
join_none None = refl
join_none (Some ps) = refl

join_more : (before : List (ℕ × ℕ)) (p : ℕ × ℕ) (rest : Option (List (ℕ × ℕ)))
    → joined (before ++ p ∷ []) rest ≡ joined before (option_map (λ ps. p ∷ ps) rest)
join_more before p None = refl
join_more before p (Some ps) = ap Some (append_assoc before (p ∷ []) ps)

pub pair_step : (first second : List ℕ) (vs : List Value) (i : ℕ) (v : Value) (p : ℕ × ℕ) (before : List (ℕ × ℕ))
    → i < length vs → v ≡ get_or vs i v → Some p ≡ pair_in first second (view v)
    → joined before (pairs_in first second (items_view (drop i vs))) ≡ pairs_in first second (items_view vs)
    → joined (before ++ p ∷ []) (pairs_in first second (items_view (drop (i + 1) vs))) ≡ pairs_in first second (items_view vs)
pair_step first second vs i v p before lt at' report so_far =
    let is : pair_in first second (view (get_or vs i v)) ≡ Some p =
    ap (λ (w : Value). pair_in first second (view w)) (sym at') ∙ sym report in
    let here = at_drop_more (λ (ws : List Value). joined before (pairs_in first second (items_view ws))) vs i v lt in
    let one : joined before (pairs_in first second (items_view (get_or vs i v ∷ drop (i + 1) vs)))
    ≡ joined before (option_map (λ ps. p ∷ ps) (pairs_in first second (items_view (drop (i + 1) vs)))) = rw is refl in
    join_more before p (pairs_in first second (items_view (drop (i + 1) vs))) ∙ sym one ∙ sym here ∙ so_far

pub no_pair : (first second : List ℕ) (vs : List Value) (i : ℕ) (v : Value) (before : List (ℕ × ℕ))
    → i < length vs → v ≡ get_or vs i v → None ≡ pair_in first second (view v)
    → joined before (pairs_in first second (items_view (drop i vs))) ≡ pairs_in first second (items_view vs)
    → None ≡ pairs_in first second (items_view vs)
no_pair first second vs i v before lt at' report so_far =
    let is : pair_in first second (view (get_or vs i v)) ≡ None =
    ap (λ (w : Value). pair_in first second (view w)) (sym at') ∙ sym report in
    let here = at_drop_more (λ (ws : List Value). joined before (pairs_in first second (items_view ws))) vs i v lt in
    let one : joined before (pairs_in first second (items_view (get_or vs i v ∷ drop (i + 1) vs))) ≡ None = rw is refl in
    sym one ∙ sym here ∙ so_far

pub pairs_end : (first second : List ℕ) (vs : List Value) (i : ℕ) (before : List (ℕ × ℕ)) → length vs ≤ i
    → joined before (pairs_in first second (items_view (drop i vs))) ≡ pairs_in first second (items_view vs)
    → Some before ≡ pairs_in first second (items_view vs)
pairs_end first second vs i before le so_far =
    let none = at_drop_all (λ (ws : List Value). joined before (pairs_in first second (items_view ws))) vs i le in
    ap Some (sym (append-nil before)) ∙ sym none ∙ so_far

-- an object's field, by its members
field_in : (name : List ℕ) (d : Data) (ms : Members) → as_object d ≡ Some ms → get name d ≡ get_member name ms
field_in name (object found) ms is = let same : found ≡ ms = cc in ap (get_member name) same
field_in name d ms is = cc

-- the result for an array under that name
array_reported : (first second name : List ℕ) (d : Data) (ms : Members) (report : Option (List (ℕ × ℕ)))
    → as_object d ≡ Some ms
    → report ≡ option_and_then (pairs_in first second) (option_and_then as_array (get name d))
    → report ≡ pairs_at first second name ms
unfolding pairs_at
array_reported first second name d ms report is same =
    same ∙ ap (λ (o : Option Data). option_and_then (pairs_in first second) (option_and_then as_array o)) (field_in name d ms is)

some_is : (o : Option Members) → is_some o ≡ true → (ms : Members) × (o ≡ Some ms)
some_is (Some ms) is = (ms, refl)
some_is None is = cc

none_is : (o : Option Members) → is_some o ≡ false → o ≡ None
none_is None is = refl
none_is (Some ms) is = cc

-- what was read is no object
pub no_body : (bytes : List ℕ) (d : Data) (b : Bool) → IsUtf8 bytes → read bytes ≡ Some d
    → b ≡ false → b ≡ is_some (as_object d) → body_of bytes ≡ None
no_body bytes d b utf8 is not_so tested =
    body_read bytes (Some d) utf8 is ∙ none_is (as_object d) (sym tested ∙ not_so)

-- what was read is an object, and this is the result for its field
pub report_at : (bytes first second name : List ℕ) (d : Data) (b : Bool) (report : Option (List (ℕ × ℕ)))
    → IsUtf8 bytes → read bytes ≡ Some d → b ≡ true → b ≡ is_some (as_object d)
    → report ≡ option_and_then (pairs_in first second) (option_and_then as_array (get name d))
    → (ms : Members) × (body_of bytes ≡ Some ms) × (report ≡ pairs_at first second name ms)
report_at bytes first second name d b report utf8 is so tested same =
    let (ms, here) = some_is (as_object d) (sym tested ∙ so) in
    (ms, body_read bytes (Some d) utf8 is ∙ here, array_reported first second name d ms report here same)

-- the pairs of an array that is there
pub array_pairs : (first second name : List ℕ) (d : Data) (vs ws : List Value) (report : Option (List (ℕ × ℕ)))
    → report ≡ pairs_in first second (items_view vs) → vs ≡ ws
    → Some (items_view ws) ≡ option_and_then as_array (get name d)
    → report ≡ option_and_then (pairs_in first second) (option_and_then as_array (get name d))
array_pairs first second name d vs ws report pairs same here =
    pairs ∙ ap (λ (us : List Value). pairs_in first second (items_view us)) same
    ∙ ap (option_and_then (pairs_in first second)) here
