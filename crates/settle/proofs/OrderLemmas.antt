-- Lines of different items have one order, which any sort by day and item gives.
use Rattle.std.proofs.Common.{◌≡◌, ◌≢◌, ℕ, zero, suc, ◌+◌, ◌*◌, ◌<◌, ◌≤◌, ◌==◌, if◌then◌else◌, cond, Bool, true, false, List, [], ◌∷◌, length, get_or, sum_by, All, AllPairs, Contains, ◌⊎◌, inl, inr, refl, sym, ap, ◌∙◌, arith}
use Rattle.std.specs.List.{AllByRecursion as Each}
use Rattle.std.specs.List.Sorted.{IsPermutation, IsNonDecreasingBy}
use Rattle.std.proofs.lemmas.Bool.Decides.{nat_tests}
use Rattle.std.proofs.lemmas.List.Elements.{recursion_from_All}
use Rattle.std.specs.Ordering.{is_lt, nat_cmp, ordering_then}
use Rattle.std.proofs.lemmas.List.Sorted.{All-permutation, IsNonDecreasingBy-from_all_adjacent, IsPermutation-refl, IsPermutation-cons, IsPermutation-trans, IsPermutation-sym, IsPermutation-middle, Contains-permutation, sum_by-IsPermutation}
use Rattle.std.proofs.lemmas.List.Sums.{sum_by-cons}
use Rattle.settle.specs.Lines.{IsNumbered}
use Rattle.settle.specs.Statement.{is_before, insert_line, in_order}
use Rattle.settle.specs.declared.line.Line.{Line}

-- the place of a line among all, as one number
abbrev pub place : Line → ℕ
place l = 1_000_001 * l.day + l.item

before : (a b : Line) → IsNumbered a → IsNumbered b → is_before a b ≡ true → place a < place b
before a b na nb e = grind (arith, nat_tests)

not_before : (a b : Line) → IsNumbered a → IsNumbered b → is_before a b ≡ false → place b ≤ place a
not_before a b na nb e = grind (arith, nat_tests)

-- the places do not fall
abbrev pub Up : List Line → Type 0
Up [] = Unit {0}
Up (x ∷ xs) = Each (λ y. place x ≤ place y) xs × Up xs

-- they rise
abbrev pub Rises : List Line → Type 0
Rises [] = Unit {0}
Rises (x ∷ xs) = Each (λ y. place x < place y) xs × Rises xs

each_weaker : (P Q : Line → Type 0) → ((x : Line) → P x → Q x) → (xs : List Line) → Each P xs → Each Q xs
each_weaker P Q f [] h = tt
each_weaker P Q f (x ∷ xs) h = (f x h.0, each_weaker P Q f xs h.1)

each_both : (P Q R : Line → Type 0) → ((x : Line) → P x → Q x → R x) → (xs : List Line) → Each P xs → Each Q xs → Each R xs
each_both P Q R f [] p q = tt
each_both P Q R f (x ∷ xs) p q = (f x p.0 q.0, each_both P Q R f xs p.1 q.1)

-- by either outcome of the test of `insert_line`
by_test : (P : List Line → Type 0) (b : Bool) (xs ys : List Line) → (b ≡ true → P xs) → (b ≡ false → P ys) → P (if b then xs else ys)
by_test P true xs ys f g = f refl
by_test P false xs ys f g = g refl

insert-each : (P : Line → Type 0) (l : Line) (xs : List Line) → P l → Each P xs → Each P (insert_line l xs)
unfolding insert_line
insert-each P l [] p h = (p, tt)
insert-each P l (x ∷ xs) p h =
    by_test (Each P) (is_before x l) (x ∷ insert_line l xs) (l ∷ x ∷ xs) (λ _. (h.0, insert-each P l xs p h.1)) (λ _. (p, h))

insert-up : (l : Line) (xs : List Line) → IsNumbered l → Each IsNumbered xs → Up xs → Up (insert_line l xs)
unfolding insert_line
insert-up l [] n ns up = (tt, tt)
insert-up l (x ∷ xs) n ns up =
    by_test Up (is_before x l) (x ∷ insert_line l xs) (l ∷ x ∷ xs)
    (λ e. let lt : place x < place l = before x l ns.0 n e in
    (insert-each (λ y. place x ≤ place y) l xs (omega arith) up.0, insert-up l xs n ns.1 up.1))
    (λ e. let le : place l ≤ place x = not_before x l ns.0 n e in
    ((le, each_weaker (λ y. place x ≤ place y) (λ y. place l ≤ place y) (λ y h. omega (arith, h, le)) xs up.0), up))

in_order-each : (P : Line → Type 0) (xs : List Line) → Each P xs → Each P (in_order xs)
unfolding in_order
in_order-each P [] h = tt
in_order-each P (x ∷ xs) h = insert-each P x (in_order xs) h.0 (in_order-each P xs h.1)

in_order-up : (xs : List Line) → Each IsNumbered xs → Up (in_order xs)
unfolding in_order
in_order-up [] ns = tt
in_order-up (x ∷ xs) ns = insert-up x (in_order xs) ns.0 (in_order-each IsNumbered xs ns.1) (in_order-up xs ns.1)

swapped : (l x : Line) (xs : List Line) → IsPermutation (l ∷ x ∷ xs) (x ∷ l ∷ xs)
swapped l x xs = IsPermutation-middle (l ∷ []) x xs

insert-permutation : (l : Line) (xs : List Line) → IsPermutation (l ∷ xs) (insert_line l xs)
unfolding insert_line
insert-permutation l [] = IsPermutation-refl (l ∷ [])
insert-permutation l (x ∷ xs) =
    by_test (IsPermutation (l ∷ x ∷ xs)) (is_before x l) (x ∷ insert_line l xs) (l ∷ x ∷ xs)
    (λ _. IsPermutation-trans _ _ _ (swapped l x xs) (IsPermutation-cons x (l ∷ xs) (insert_line l xs) (insert-permutation l xs)))
    (λ _. IsPermutation-refl (l ∷ x ∷ xs))

-- lines in order are the lines
pub in_order-permutation : (xs : List Line) → IsPermutation xs (in_order xs)
unfolding in_order
in_order-permutation [] = IsPermutation-refl []
in_order-permutation (x ∷ xs) =
    IsPermutation-trans _ _ _ (IsPermutation-cons x xs (in_order xs) (in_order-permutation xs)) (insert-permutation x (in_order xs))

-- how many lines have a place
abbrev at : ℕ → Line → ℕ
at k l = cond (place l == k) 1 0

none_at : (k : ℕ) (xs : List Line) → sum_by (at k) xs ≡ 0 → Each (λ y. place y ≢ k) xs
none_at k [] e = tt
none_at k (x ∷ xs) e =
    let parts = sum_by-cons (at k) x xs in
    let zero_here : at k x ≡ 0 = omega (arith, parts, e) in
    let other : place x ≢ k = λ q. let one : at k x ≡ 1 = grind (arith, nat_tests) in absurd (omega (arith, one, zero_here)) in
    (other, none_at k xs (omega (arith, parts, e)))

at_none : (k : ℕ) (xs : List Line) → Each (λ y. place y ≢ k) xs → sum_by (at k) xs ≡ 0
at_none k [] h = refl
at_none k (x ∷ xs) h =
    let other : place x ≢ k = h.0 in
    let zero_here : at k x ≡ 0 = grind (arith, nat_tests) in
    omega (arith, sum_by-cons (at k) x xs, zero_here, at_none k xs h.1)

-- no two lines are of one item
abbrev Different : List Line → Type 0
Different [] = Unit {0}
Different (x ∷ xs) = Each (λ y. x.item ≢ y.item) xs × Different xs

different : (xs : List Line) → AllPairs (λ a b. a.item ≢ b.item) xs → Different xs
different [] h = tt
different (x ∷ xs) h = (
  recursion_from_All (λ y. x.item ≢ y.item) xs (λ k d within. h 0 (suc k) d (omega arith) (omega arith)),
  different xs (λ i j d lt within. h (suc i) (suc j) d (omega arith) (omega arith)),
)

same_item : (x y : Line) → IsNumbered x → IsNumbered y → place x ≡ place y → x.item ≡ y.item
same_item x y nx ny e = omega arith

at_most_one : (k : ℕ) (xs : List Line) → Each IsNumbered xs → Different xs → sum_by (at k) xs ≤ 1
at_most_one k [] ns d = omega arith
at_most_one k (x ∷ xs) ns d = by_place (at_most_one k xs ns.1 d.1) (place x == k) refl
  where
    parts : sum_by (at k) (x ∷ xs) ≡ at k x + sum_by (at k) xs
    parts = sum_by-cons (at k) x xs

    by_place : sum_by (at k) xs ≤ 1 → (b : Bool) → (place x == k) ≡ b → sum_by (at k) (x ∷ xs) ≤ 1
    by_place rest true e =
        let here : place x ≡ k = grind (arith, nat_tests) in
        let one : at k x ≡ 1 = grind (arith, nat_tests) in
        let others = each_both IsNumbered (λ y. x.item ≢ y.item) (λ y. place y ≢ k) (λ y n o q. o (same_item x y ns.0 n (here ∙ sym q))) xs ns.1 d.0 in
        omega (arith, parts, one, at_none k xs others)
    by_place rest false e =
        let none : at k x ≡ 0 = grind (arith, nat_tests) in
        omega (arith, parts, none, rest)

rises : (xs : List Line) → Up xs → ((k : ℕ) → sum_by (at k) xs ≤ 1) → Rises xs
rises [] up one = tt
rises (x ∷ xs) up one =
    let here : at (place x) x ≡ 1 = grind (arith, nat_tests) in
    let none : sum_by (at (place x)) xs ≡ 0 = omega (arith, one (place x), sum_by-cons (at (place x)) x xs, here) in (
      each_both (λ y. place x ≤ place y) (λ y. place y ≢ place x) (λ y. place x < place y) (λ y le ne. apart (place x) (place y) le ne) xs up.0 (none_at (place x) xs none),
      rises xs up.1 (λ k. omega (arith, one k, sum_by-cons (at k) x xs)),
    )
  where
    apart : (m n : ℕ) → m ≤ n → n ≢ m → m < n
    apart m n le ne = grind arith

-- a line is one of these
abbrev In : Line → List Line → Type 0
In l [] = ⊥
In l (x ∷ xs) = (l ≡ x) ⊎ In l xs

in_each : (P : Line → Type 0) (l : Line) (xs : List Line) → Each P xs → In l xs → P l
in_each P l [] h i = absurd i
in_each P l (x ∷ xs) h (inl e) = rw e h.0
in_each P l (x ∷ xs) h (inr i) = in_each P l xs h.1 i

in_contains : (l : Line) (xs : List Line) → In l xs → Contains xs l
in_contains l [] i = absurd i
in_contains l (x ∷ xs) (inl e) = (0, omega arith, sym e)
in_contains l (x ∷ xs) (inr i) = let c = in_contains l xs i in (suc c.0, omega (arith, c.1), c.2)

contains_in_at : (l : Line) (xs : List Line) (k : ℕ) → k < length xs → get_or xs k l ≡ l → In l xs
contains_in_at l [] k within e = absurd (omega (arith, within))
contains_in_at l (x ∷ xs) zero within e = inl (sym e)
contains_in_at l (x ∷ xs) (suc k) within e = inr (contains_in_at l xs k (omega (arith, within)) e)

-- lines that rise and have the same elements are the same
unique : (xs ys : List Line) → Rises xs → Rises ys → ((l : Line) → In l xs → In l ys) → ((l : Line) → In l ys → In l xs) → xs ≡ ys
unique [] [] rx ry f g = refl
unique [] (y ∷ ys) rx ry f g = absurd (g y (inl refl))
unique (x ∷ xs) [] rx ry f g = absurd (f x (inl refl))
unique (x ∷ xs) (y ∷ ys) rx ry f g =
    let heads : x ≡ y = elim (f x (inl refl)) [
      | inl e ↦ e
      | inr i ↦ elim (g y (inl refl)) [
        | inl e ↦ sym e
        | inr j ↦
            let a : place y < place x = in_each (λ z. place y < place z) x ys ry.0 i in
            let b : place x < place y = in_each (λ z. place x < place z) y xs rx.0 j in
            absurd (omega (arith, a, b))
      ]
    ] in
    let tails : xs ≡ ys = unique xs ys rx.1 ry.1
    (λ l i. elim (f l (inr i)) [
      | inl e ↦ absurd (let a : place x < place l = in_each (λ z. place x < place z) l xs rx.0 i in let b : place l ≡ place x = ap place (e ∙ sym heads) in omega (arith, a, b))
      | inr j ↦ j
    ])
    (λ l i. elim (g l (inr i)) [
      | inl e ↦ absurd (let a : place y < place l = in_each (λ z. place y < place z) l ys ry.0 i in let b : place l ≡ place y = ap place (e ∙ heads) in omega (arith, a, b))
      | inr j ↦ j
    ]) in
    cc

up_from : (xs : List Line) → IsNonDecreasingBy place xs → Up xs
up_from [] h = tt
up_from (x ∷ xs) h = (
  recursion_from_All (λ y. place x ≤ place y) xs (λ k d within. h 0 (suc k) d (omega arith) (omega arith)),
  up_from xs (λ i j d le within. h (suc i) (suc j) d (omega arith) (omega arith)),
)

-- the lines in another order that does not fall: they are in order
pub sorted_is : (xs ys : List Line) → AllPairs (λ a b. a.item ≢ b.item) xs → All IsNumbered xs → IsPermutation xs ys → IsNonDecreasingBy place ys → ys ≡ in_order xs
sorted_is xs ys apart numbered moved up =
    let ns = recursion_from_All IsNumbered xs numbered in
    let few = λ (k : ℕ). at_most_one k xs ns (different xs apart) in
    let few_y : (k : ℕ) → sum_by (at k) ys ≤ 1 = λ k. omega (arith, few k, sum_by-IsPermutation (at k) xs ys moved) in
    let ordered = in_order-permutation xs in
    let few_o : (k : ℕ) → sum_by (at k) (in_order xs) ≤ 1 = λ k. omega (arith, few k, sum_by-IsPermutation (at k) xs (in_order xs) ordered) in
    let there = IsPermutation-trans _ _ _ (IsPermutation-sym xs ys moved) ordered in
    let back = IsPermutation-sym ys (in_order xs) there in
    unique ys (in_order xs) (rises ys (up_from ys up) few_y) (rises (in_order xs) (in_order-up xs ns) few_o)
    (λ l i. let c = Contains-permutation ys (in_order xs) l there (in_contains l ys i) in contains_in_at l (in_order xs) c.0 c.1 c.2)
    (λ l i. let c = Contains-permutation (in_order xs) ys l back (in_contains l (in_order xs) i) in contains_in_at l ys c.0 c.1 c.2)

-- of two neighbours the second is not before the first
neighbours : (x y : Line) → IsNumbered x → IsNumbered y → is_lt (ordering_then (nat_cmp y.day x.day) (nat_cmp y.item x.item)) ≡ false → place x ≤ place y
neighbours x y nx ny e = grind (arith, nat_tests)

-- a sort by day and item leaves places that do not fall
pub sorted_up : (ys : List Line) → All IsNumbered ys
    → ((k : ℕ) (d : Line) → 0 ≤ k → k + 1 < length ys → is_lt (ordering_then (nat_cmp (get_or ys (k + 1) d).day (get_or ys k d).day) (nat_cmp (get_or ys (k + 1) d).item (get_or ys k d).item)) ≡ false)
    → IsNonDecreasingBy place ys
sorted_up ys numbered h =
    IsNonDecreasingBy-from_all_adjacent place ys (λ k d within.
    neighbours (get_or ys k d) (get_or ys (k + 1) d) (numbered k d (omega (arith, within))) (numbered (k + 1) d within) (h k d (omega arith) within))

-- what the sort of the lines says, taken together
pub sort_is : (xs ys : List Line) → AllPairs (λ a b. a.item ≢ b.item) xs → All IsNumbered xs → IsPermutation xs ys
    → ((k : ℕ) (d : Line) → 0 ≤ k → k + 1 < length ys → is_lt (ordering_then (nat_cmp (get_or ys (k + 1) d).day (get_or ys k d).day) (nat_cmp (get_or ys (k + 1) d).item (get_or ys k d).item)) ≡ false)
    → ys ≡ in_order xs
sort_is xs ys apart numbered moved h =
    sorted_is xs ys apart numbered moved (sorted_up ys (All-permutation IsNumbered xs ys moved numbered) h)
