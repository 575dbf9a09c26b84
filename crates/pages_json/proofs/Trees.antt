-- Objects and lists in memory, member by member and entry by entry.
use Rattle.std.proofs.Common.{◌≡◌, ◌<◌, ◌≤◌, ◌+◌, ℕ, List, [], ◌∷◌, ◌++◌, map, drop, take, length, get_or, refl, ap, ◌∙◌, sym, append_assoc, append-nil}
use Rattle.std.proofs.lemmas.List.{at_drop_more, at_drop_all, map_more, take_all}
use Rattle.serde_json.specs.Data.{Data, Members, no_members, object, put}
use Rattle.serde_json.specs.View.{view}
use Rattle.serde_json.specs.declared.value.Value.{Value}
use Rattle.pages_json.specs.Words.{AreInOrder, object_of, put_all}

views_append : (vs : List Value) (v : Value) → map view (vs ++ v ∷ []) ≡ map view vs ++ view v ∷ []
views_append [] v = refl
views_append (w ∷ vs) v = ap (λ ds. view w ∷ ds) (views_append vs v)

pub trees_step : {A : Type 0} (tree_of : A → Data) (all : List Data) (now next : List Value) (v : Value) (xs : List A) (i : ℕ) (x : A) → i < length xs → x ≡ get_or xs i x
    → map view now ++ map tree_of (drop i xs) ≡ all → view v ≡ tree_of x → next ≡ now ++ v ∷ [] → map view next ++ map tree_of (drop (i + 1) xs) ≡ all
trees_step tree_of all now next v xs i x lt is so_far made pushed =
    let rest = map tree_of (drop (i + 1) xs) in
    let here : map tree_of (drop i xs) ≡ tree_of x ∷ rest = at_drop_more (map tree_of) xs i x lt ∙ ap (λ y. tree_of y ∷ rest) (sym is) in
    ap (λ vs. map view vs ++ rest) pushed ∙ ap (λ ds. ds ++ rest) (views_append now v) ∙ append_assoc (map view now) (view v ∷ []) rest
    ∙ ap (λ d. map view now ++ d ∷ rest) made ∙ ap (λ ds. map view now ++ ds) (sym here) ∙ so_far

pub trees_done : {A : Type 0} (tree_of : A → Data) (all : List Data) (now : List Value) (xs : List A) (i : ℕ) → length xs ≤ i → map view now ++ map tree_of (drop i xs) ≡ all
    → map view now ≡ all
trees_done tree_of all now xs i le so_far = sym (append-nil (map view now)) ∙ ap (λ ds. map view now ++ ds) (sym (at_drop_all (map tree_of) xs i le)) ∙ so_far

put_append : (a b : List (List ℕ × Data)) (found : Members) → put_all (a ++ b) found ≡ put_all b (put_all a found)
put_append [] b found = refl
put_append (m ∷ a) b found = put_append a b (put m.0 m.1 found)

-- one member more is put
pub more_put : {A : Type 0} (pair_of : A → List ℕ × Data) (old now next : Members) (xs : List A) (i : ℕ) (d : A) → i < length xs
    → now ≡ put_all (map pair_of (take i xs)) old → next ≡ put (pair_of (get_or xs i d)).0 (pair_of (get_or xs i d)).1 now
    → next ≡ put_all (map pair_of (take (i + 1) xs)) old
more_put pair_of old now next xs i d lt so_far is =
    let one : List (List ℕ × Data) = pair_of (get_or xs i d) ∷ [] in
    is ∙ ap (put (pair_of (get_or xs i d)).0 (pair_of (get_or xs i d)).1) so_far
    ∙ sym (ap (λ ms. put_all ms old) (map_more pair_of xs i d lt) ∙ put_append (map pair_of (take i xs)) one old)

-- at the end all are put
pub all_put : {A : Type 0} (pair_of : A → List ℕ × Data) (old now : Members) (xs : List A) (i : ℕ) → length xs ≤ i
    → now ≡ put_all (map pair_of (take i xs)) old → now ≡ put_all (map pair_of xs) old
all_put pair_of old now xs i le so_far = so_far ∙ ap (λ ys. put_all (map pair_of ys) old) (take_all i xs le)

-- an object in three parts
pub put_parts : (a b c : List (List ℕ × Data)) (found : Members) → put_all c (put_all b (put_all a found)) ≡ put_all (a ++ (b ++ c)) found
put_parts a b c found = sym (put_append a (b ++ c) found ∙ put_append b c (put_all a found))

pub parts_grown : (a b c : List (List ℕ × Data)) (none first then last : Members) → none ≡ no_members → first ≡ put_all a none → then ≡ put_all b first → last ≡ put_all c then
    → AreInOrder (a ++ (b ++ c)) → object last ≡ object_of (a ++ (b ++ c))
parts_grown a b c none first then last e0 e1 e2 e3 order =
    ap object (e3 ∙ ap (put_all c) (e2 ∙ ap (put_all b) (e1 ∙ ap (put_all a) e0)) ∙ put_parts a b c no_members ∙ order)
