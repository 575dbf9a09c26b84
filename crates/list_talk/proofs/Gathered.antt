-- Rows found item by item are those that pass among all.
use Rattle.std.proofs.Common.{◌≡◌, ℕ, ◌+◌, ◌≤◌, ◌<◌, List, [], ◌∷◌, ◌++◌, length, take, drop, filter, get_or, Bool, true, false, refl, ◌∙◌, ap, sym, arith, inl, inr, Result, Ok, Err}
use Rattle.std.specs.Prelude.{◌==◌, nat_le, nat_lt}
use Rattle.std.specs.List.{AllByRecursion, list_any}
use Rattle.std.proofs.lemmas.Bool.Decides.{nat_tests}
use Rattle.std.proofs.lemmas.List.{append-nil, append_assoc, length-append, length-take, take-append-drop, take_all, take_more}
use Rattle.house_rows.proofs.Every.{every_as}
use Rattle.house_rows.proofs.Put.{by_test}
use Rattle.house_rows.specs.History.{Key, is_less}
use Rattle.std.specs.Prelude.{IfOk, Vec}
use Rattle.list_rows.proofs.Growing.{front_stays, front_twice}
use Rattle.list_rows.proofs.Order.{every_filtered}
use Rattle.list_rows.specs.Blocks.{IsRising, rows_of}
use Rattle.list_talk.specs.Sorted.{AreRisen, AreSorted}

-- those that pass of two lists
filter_both : {A : Type 0} (p : A → Bool) (xs ys : List A) → filter p (xs ++ ys) ≡ filter p xs ++ filter p ys
filter_both p [] ys = refl
filter_both p (x ∷ xs) ys = elim (by_test (p x)) [ inl is ↦ rw is (ap (λ rest. x ∷ rest) (filter_both p xs ys)) | inr not ↦ rw not (filter_both p xs ys) ]

-- those that pass with one row more
filter_one : {A : Type 0} (p : A → Bool) (xs : List A) (i : ℕ) (x : A) → i < length xs → x ≡ get_or xs i x → filter p (take (i + 1) xs) ≡ filter p (take i xs) ++ filter p (x ∷ [])
filter_one p xs i x lt at' = rw (take_more xs i x lt, ← at') (filter_both p (take i xs) (x ∷ []))

-- one more row that passes
pub passing_more : {A : Type 0} (p : A → Bool) (old xs : List A) (i : ℕ) (x : A) (found : List A) → i < length xs → x ≡ get_or xs i x → found ≡ old ++ filter p (take i xs) → p x ≡ true
    → found ++ x ∷ [] ≡ old ++ filter p (take (i + 1) xs)
passing_more p old xs i x found lt at' is passes =
    ap (λ ys. ys ++ x ∷ []) is ∙ append_assoc old (filter p (take i xs)) (x ∷ []) ∙ ap (λ ys. old ++ ys) (sym (rw passes at (filter_one p xs i x lt at')))

-- one that doesn't
pub passing_less : {A : Type 0} (p : A → Bool) (old xs : List A) (i : ℕ) (x : A) (found : List A) → i < length xs → x ≡ get_or xs i x → found ≡ old ++ filter p (take i xs) → p x ≡ false
    → found ≡ old ++ filter p (take (i + 1) xs)
passing_less p old xs i x found lt at' is fails =
    is ∙ ap (λ ys. old ++ ys) (sym (rw fails at (filter_one p xs i x lt at') ∙ append-nil (filter p (take i xs))))

-- a front with one more, where there is room
pub front_push : {A : Type 0} (most : ℕ) (ys : List A) (x : A) → length (take most ys) < most → take most (ys ++ x ∷ []) ≡ take most ys ++ x ∷ []
front_push most ys x lt =
    let l = length-take most ys in let few : length ys < most = omega arith in
    let fits : length (ys ++ x ∷ []) ≤ most = simp length-append (omega arith) in
    take_all most (ys ++ x ∷ []) fits ∙ ap (λ front. front ++ x ∷ []) (sym (take_all most ys (omega arith)))

-- what is found so far, with nothing looked at
pub front_start : {A : Type 0} (most : ℕ) (ys : List A) → length ys ≤ most → ys ≡ take most (ys ++ [])
front_start most ys le = rw (append-nil ys) (sym (take_all most ys le))

-- one more row that passes, where there is room
pub shown_more : {A : Type 0} (p : A → Bool) (most : ℕ) (old xs : List A) (i : ℕ) (x : A) (found : List A) → i < length xs → x ≡ get_or xs i x → found ≡ take most (old ++ filter p (take i xs))
    → p x ≡ true → length found < most → found ++ x ∷ [] ≡ take most (old ++ filter p (take (i + 1) xs))
shown_more p most old xs i x found lt at' is passes room =
    ap (λ ys. ys ++ x ∷ []) is ∙ sym (front_push most (old ++ filter p (take i xs)) x (rw is at room))
    ∙ ap (take most) (passing_more p old xs i x (old ++ filter p (take i xs)) lt at' refl passes)

-- one that doesn't
pub shown_less : {A : Type 0} (p : A → Bool) (most : ℕ) (old xs : List A) (i : ℕ) (x : A) (found : List A) → i < length xs → x ≡ get_or xs i x → found ≡ take most (old ++ filter p (take i xs))
    → p x ≡ false → found ≡ take most (old ++ filter p (take (i + 1) xs))
shown_less p most old xs i x found lt at' is fails = is ∙ ap (take most) (passing_less p old xs i x (old ++ filter p (take i xs)) lt at' refl fails)

-- where there is no room, the other rows don't count
pub shown_full : {A : Type 0} (p : A → Bool) (most : ℕ) (old xs : List A) (i : ℕ) (found : List A) → found ≡ take most (old ++ filter p (take i xs)) → most ≤ length found
    → found ≡ take most (old ++ filter p xs)
shown_full p most old xs i found is full =
    is ∙ front_stays most (old ++ filter p (take i xs)) (filter p (drop i xs)) (rw is at full)
    ∙ ap (take most) (append_assoc old (filter p (take i xs)) (filter p (drop i xs)) ∙ ap (λ ys. old ++ ys) (sym (filter_both p (take i xs) (drop i xs)) ∙ ap (filter p) (take-append-drop i xs)))

-- at the end all rows were looked at
pub shown_all : {A : Type 0} (p : A → Bool) (most : ℕ) (old xs : List A) (i : ℕ) (found : List A) → found ≡ take most (old ++ filter p (take i xs)) → length xs ≤ i → found ≡ take most (old ++ filter p xs)
shown_all p most old xs i found is end = is ∙ ap (λ ys. take most (old ++ filter p ys)) (take_all i xs end)

-- numbers that rise don't fall, and a part of them rises
pub risen_sorted : {A : Type 0} (number : A → ℕ) (xs : List A) → AreRisen number xs → AreSorted number xs
risen_sorted number [] risen = tt
risen_sorted number (x ∷ xs) risen = (every_as (λ y. number x < number y) (λ y. number x ≤ number y) xs (λ y lt. omega arith) risen.0, risen_sorted number xs risen.1)

-- those that pass rise as all do
pub risen_filter : {A : Type 0} (number : A → ℕ) (p : A → Bool) (xs : List A) → AreRisen number xs → AreRisen number (filter p xs)
risen_filter number p [] risen = tt
risen_filter number p (x ∷ xs) risen =
    elim (by_test (p x)) [
      | inl is ↦ rw is (every_filtered (λ y. number x < number y) p xs risen.0, risen_filter number p xs risen.1)
      | inr other ↦ rw other (risen_filter number p xs risen.1)
    ]

-- the rows that pass, of one item after another
abbrev pub gathered : {A C : Type 0} → (A → ℕ) → (C → ℕ) → (A → Bool) → List A → List C → List A
gathered item number p rows [] = []
gathered item number p rows (c ∷ cs) = filter p (filter (λ r. item r == number c) rows) ++ gathered item number p rows cs

-- rows gathered from two lists of items
gathered_both : {A C : Type 0} (item : A → ℕ) (number : C → ℕ) (p : A → Bool) (rows : List A) (cs ds : List C)
    → gathered item number p rows (cs ++ ds) ≡ gathered item number p rows cs ++ gathered item number p rows ds
gathered_both item number p rows [] ds = refl
gathered_both item number p rows (c ∷ cs) ds =
    ap (λ rest. filter p (filter (λ r. item r == number c) rows) ++ rest) (gathered_both item number p rows cs ds)
    ∙ sym (append_assoc (filter p (filter (λ r. item r == number c) rows)) (gathered item number p rows cs) (gathered item number p rows ds))

-- rows gathered from one item more
pub gathered_more : {A C : Type 0} (item : A → ℕ) (number : C → ℕ) (p : A → Bool) (rows : List A) (cs : List C) (i : ℕ) (d : C) (k : ℕ) → i < length cs → k ≡ number (get_or cs i d)
    → gathered item number p rows (take (i + 1) cs) ≡ gathered item number p rows (take i cs) ++ filter p (filter (λ r. item r == k) rows)
gathered_more item number p rows cs i d k lt is =
    rw (take_more cs i d lt, is) (gathered_both item number p rows (take i cs) (get_or cs i d ∷ [])
    ∙ ap (λ rest. gathered item number p rows (take i cs) ++ rest) (append-nil (filter p (filter (λ r. item r == number (get_or cs i d)) rows))))

-- the rows of one more item, as far as they are shown
pub gathered_shown : {A C : Type 0} (item : A → ℕ) (number : C → ℕ) (p : A → Bool) (rows : List A) (cs : List C) (i : ℕ) (d : C) (k most : ℕ) (found after : List A) → i < length cs → k ≡ number (get_or cs i d)
    → found ≡ take most (gathered item number p rows (take i cs)) → after ≡ take most (found ++ filter p (filter (λ r. item r == k) rows))
    → after ≡ take most (gathered item number p rows (take (i + 1) cs))
gathered_shown item number p rows cs i d k most found after lt at' is made =
    made ∙ ap (λ ys. take most (ys ++ filter p (filter (λ r. item r == k) rows))) is
    ∙ front_twice most (gathered item number p rows (take i cs)) (filter p (filter (λ r. item r == k) rows))
    ∙ ap (take most) (sym (gathered_more item number p rows cs i d k lt at'))

-- where there is no room, the other items don't count
pub gathered_full : {A C : Type 0} (item : A → ℕ) (number : C → ℕ) (p : A → Bool) (rows : List A) (cs : List C) (i most : ℕ) (found : List A) → found ≡ take most (gathered item number p rows (take i cs)) → most ≤ length found
    → found ≡ take most (gathered item number p rows cs)
gathered_full item number p rows cs i most found is full =
    is ∙ front_stays most (gathered item number p rows (take i cs)) (gathered item number p rows (drop i cs)) (rw is at full)
    ∙ ap (take most) (sym (gathered_both item number p rows (take i cs) (drop i cs)) ∙ ap (gathered item number p rows) (take-append-drop i cs))

-- each row that passes, from a number on, has its item among the numbers
abbrev AreComplete : {A C : Type 0} → (A → ℕ) → (C → ℕ) → (A → Bool) → ℕ → List C → List A → Type 0
AreComplete item number p least cs rows = AllByRecursion (λ r. p r ≡ true → least ≤ item r → list_any (λ c. number c == item r) cs ≡ true) rows

-- with no item nothing passes
none_from : {A C : Type 0} (item : A → ℕ) (number : C → ℕ) (p : A → Bool) (least : ℕ) (rows : List A) → AreComplete item number p least [] rows → [] ≡ filter p (filter (λ r. nat_le least (item r)) rows)
none_from item number p least [] complete = refl
none_from item number p least (r ∷ rows) complete =
    elim (by_test (nat_le least (item r))) [
      | inl is ↦ elim (by_test (p r)) [
        | inl passes ↦ absurd (let le : least ≤ item r = grind (arith, nat_tests, is) in let e : false ≡ true = complete.0 passes le in cc)
        | inr fails ↦ rw (is, fails) (none_from item number p least rows complete.1)
      ]
      | inr not ↦ rw not (none_from item number p least rows complete.1)
    ]

-- after a greater number there is no smaller one
none_later : {A : Type 0} (item : A → ℕ) (k : ℕ) (rows : List A) → AllByRecursion (λ r. k < item r) rows → filter (λ r. item r == k) rows ≡ []
none_later item k [] all = refl
none_later item k (r ∷ rows) all = let lt = all.0 in let other : (item r == k) ≡ false = grind (arith, nat_tests, lt) in rw other (none_later item k rows all.1)

-- no number that rises above another is below it
none_short : (k n : ℕ) {C : Type 0} (number : C → ℕ) (cs : List C) → AllByRecursion (λ d. k < number d) cs → n ≤ k → list_any (λ c. number c == n) cs ≡ false
none_short k n number [] all le = refl
none_short k n number (d ∷ cs) all le = let lt = all.0 in let other : (number d == n) ≡ false = grind (arith, nat_tests, lt) in rw other (none_short k n number cs all.1 le)

-- the rows of an item, and those of the items after it
one_item : {A : Type 0} (item : A → ℕ) (p : A → Bool) (least k : ℕ) (rows : List A) → AreSorted item rows → least ≤ k
    → AllByRecursion (λ r. p r ≡ true → least ≤ item r → k ≤ item r) rows
    → filter p (filter (λ r. item r == k) rows) ++ filter p (filter (λ r. nat_le (k + 1) (item r)) rows) ≡ filter p (filter (λ r. nat_le least (item r)) rows)
one_item item p least k [] sorted le from = refl
one_item item p least k (r ∷ rows) sorted le from =
    let rest = one_item item p least k rows sorted.1 le from.1 in
    elim (by_test (nat_lt (item r) k)) [
      | inl less ↦ (let a : (item r == k) ≡ false = grind (arith, nat_tests, less) in let b : nat_le (k + 1) (item r) ≡ false = grind (arith, nat_tests, less) in
          elim (by_test (nat_le least (item r))) [
            | inl is ↦ elim (by_test (p r)) [
              | inl passes ↦ absurd (let here : least ≤ item r = grind (arith, nat_tests, is) in let there : k ≤ item r = from.0 passes here in let lt : item r < k = grind (arith, nat_tests, less) in omega arith)
              | inr fails ↦ rw (a, b, is, fails) rest
            ]
            | inr not ↦ rw (a, b, not) rest
          ])
      | inr more ↦ elim (by_test (item r == k)) [
        | inl same ↦ (let b : nat_le (k + 1) (item r) ≡ false = grind (arith, nat_tests, same) in let is : nat_le least (item r) ≡ true = grind (arith, nat_tests, same) in
            elim (by_test (p r)) [ inl passes ↦ rw (same, b, is, passes) (ap (λ ys. r ∷ ys) rest) | inr fails ↦ rw (same, b, is, fails) rest ])
        | inr other ↦ (let lt : k < item r = grind (arith, nat_tests, more, other) in
            let b : nat_le (k + 1) (item r) ≡ true = grind (arith, nat_tests) in let is : nat_le least (item r) ≡ true = grind (arith, nat_tests) in
            let none : filter (λ r. item r == k) rows ≡ [] = none_later item k rows (every_as (λ y. item r ≤ item y) (λ y. k < item y) rows (λ y later. omega arith) sorted.0) in
            let here : filter p (filter (λ r. nat_le (k + 1) (item r)) rows) ≡ filter p (filter (λ r. nat_le least (item r)) rows) = rw none at rest in
            rw (other, b, is, none) (elim (by_test (p r)) [ inl passes ↦ rw passes (ap (λ ys. r ∷ ys) here) | inr fails ↦ rw fails here ]))
      ]
    ]

-- the first of numbers that rise is the least
first_least : {C : Type 0} (number : C → ℕ) (c : C) (cs : List C) (n : ℕ) → AllByRecursion (λ d. number c < number d) cs → list_any (λ d. number d == n) (c ∷ cs) ≡ true → number c ≤ n
first_least number c cs n risen any =
    elim (by_test (nat_lt n (number c))) [
      | inl less ↦ absurd (
          let other : (number c == n) ≡ false = grind (arith, nat_tests, less) in
          let le : n ≤ number c = grind (arith, nat_tests, less) in
          let none : list_any (λ d. number d == n) cs ≡ false = none_short (number c) n number cs risen le in
          let e : false ≡ true = rw (other, none) at any in cc)
      | inr not ↦ grind (arith, nat_tests, not)
    ]

-- no row that passes is of an item before the first
from_first : {A C : Type 0} (item : A → ℕ) (number : C → ℕ) (p : A → Bool) (least : ℕ) (c : C) (cs : List C) (rows : List A) → AllByRecursion (λ d. number c < number d) cs
    → AreComplete item number p least (c ∷ cs) rows → AllByRecursion (λ r. p r ≡ true → least ≤ item r → number c ≤ item r) rows
from_first item number p least c cs rows risen complete =
    every_as (λ r. p r ≡ true → least ≤ item r → list_any (λ d. number d == item r) (c ∷ cs) ≡ true) (λ r. p r ≡ true → least ≤ item r → number c ≤ item r) rows
    (λ r known passes le. first_least number c cs (item r) risen (known passes le)) complete

-- a greater number is among the later ones
among_later : {C : Type 0} (number : C → ℕ) (c : C) (cs : List C) (n : ℕ) → number c + 1 ≤ n → list_any (λ d. number d == n) (c ∷ cs) ≡ true → list_any (λ d. number d == n) cs ≡ true
among_later number c cs n le any = let other : (number c == n) ≡ false = grind (arith, nat_tests, le) in rw other at any

-- the later items are those of the later rows
later_complete : {A C : Type 0} (item : A → ℕ) (number : C → ℕ) (p : A → Bool) (least : ℕ) (c : C) (cs : List C) (rows : List A) → least ≤ number c
    → AreComplete item number p least (c ∷ cs) rows → AreComplete item number p (number c + 1) cs rows
later_complete item number p least c cs rows above complete =
    every_as (λ r. p r ≡ true → least ≤ item r → list_any (λ d. number d == item r) (c ∷ cs) ≡ true) (λ r. p r ≡ true → number c + 1 ≤ item r → list_any (λ d. number d == item r) cs ≡ true) rows
    (λ r known passes le. among_later number c cs (item r) le (known passes (omega arith))) complete

-- the rows from an item on
gathered_from : {A C : Type 0} (item : A → ℕ) (number : C → ℕ) (p : A → Bool) (least : ℕ) (rows : List A) (cs : List C) → AreSorted item rows → AreRisen number cs
    → AllByRecursion (λ c. least ≤ number c) cs → AreComplete item number p least cs rows → gathered item number p rows cs ≡ filter p (filter (λ r. nat_le least (item r)) rows)
gathered_from item number p least rows [] sorted risen above complete = none_from item number p least rows complete
gathered_from item number p least rows (c ∷ cs) sorted risen above complete =
    ap (λ rest. filter p (filter (λ r. item r == number c) rows) ++ rest)
    (gathered_from item number p (number c + 1) rows cs sorted risen.1 (every_as (λ d. number c < number d) (λ d. number c + 1 ≤ number d) cs (λ d lt. omega arith) risen.0)
    (later_complete item number p least c cs rows above.0 complete))
    ∙ one_item item p least (number c) rows sorted above.0 (from_first item number p least c cs rows risen.0 complete)

-- no number is below 0
all_above : {C : Type 0} (number : C → ℕ) (cs : List C) → AllByRecursion (λ c. 0 ≤ number c) cs
all_above number [] = tt
all_above number (c ∷ cs) = (omega arith, all_above number cs)

-- all rows are from item 0 on
all_pass : {A : Type 0} (item : A → ℕ) (rows : List A) → filter (λ r. nat_le 0 (item r)) rows ≡ rows
all_pass item [] = refl
all_pass item (r ∷ rows) = let is : nat_le 0 (item r) ≡ true = grind (arith, nat_tests) in rw is (ap (λ rest. r ∷ rest) (all_pass item rows))

-- numbers that rise and leave no item out give all rows that pass
pub gathered_all : {A C : Type 0} (item : A → ℕ) (number : C → ℕ) (p : A → Bool) (rows : List A) (cs : List C) → AreSorted item rows → AreRisen number cs
    → AllByRecursion (λ r. p r ≡ true → list_any (λ c. number c == item r) cs ≡ true) rows → gathered item number p rows cs ≡ filter p rows
gathered_all item number p rows cs sorted risen complete =
    gathered_from item number p 0 rows cs sorted risen (all_above number cs)
    (every_as (λ r. p r ≡ true → list_any (λ c. number c == item r) cs ≡ true) (λ r. p r ≡ true → 0 ≤ item r → list_any (λ c. number c == item r) cs ≡ true) rows (λ r known passes le. known passes) complete)
    ∙ ap (filter p) (all_pass item rows)

-- rows in the order of their keys are so by the first number
pub sorted_by_first : {A : Type 0} (key : A → Key) (rows : List A) → IsRising key rows → AreSorted (λ r. (key r).first) rows
sorted_by_first key [] rising = tt
sorted_by_first key (r ∷ rows) rising =
    (every_as (λ s. is_less (key r) (key s) ≡ true) (λ s. (key r).first ≤ (key s).first) rows (λ s less. grind (arith, nat_tests, less)) rising.0, sorted_by_first key rows rising.1)

-- the rows of two lists of blocks
rows_both : {A Z : Type 0} (xs ys : List (Vec A Z)) → rows_of (xs ++ ys) ≡ rows_of xs ++ rows_of ys
rows_both [] ys = refl
rows_both (x ∷ xs) ys = ap (λ rest. x.items ++ rest) (rows_both xs ys) ∙ sym (append_assoc x.items (rows_of xs) (rows_of ys))

-- the rows of one more block
pub rows_more : {A Z : Type 0} (blocks : List (Vec A Z)) (i : ℕ) (block : Vec A Z) → i < length blocks → block ≡ get_or blocks i block
    → rows_of (take (i + 1) blocks) ≡ rows_of (take i blocks) ++ block.items
rows_more blocks i block lt at' =
    rw (take_more blocks i block lt, ← at') (rows_both (take i blocks) (block ∷ []) ∙ ap (λ rest. rows_of (take i blocks) ++ rest) (append-nil block.items))

-- those that pass of one more block
pub passed_more : {A Z : Type 0} (p : A → Bool) (blocks : List (Vec A Z)) (i : ℕ) (block : Vec A Z) (found after : List A) → i < length blocks → block ≡ get_or blocks i block
    → found ≡ filter p (rows_of (take i blocks)) → after ≡ found ++ filter p block.items → after ≡ filter p (rows_of (take (i + 1) blocks))
passed_more p blocks i block found after lt at' is made =
    made ∙ ap (λ ys. ys ++ filter p block.items) is ∙ sym (filter_both p (rows_of (take i blocks)) block.items) ∙ ap (filter p) (sym (rows_more blocks i block lt at'))

-- at the end all blocks were looked at
pub passed_all : {A Z : Type 0} (p : A → Bool) (blocks : List (Vec A Z)) (i : ℕ) (found : List A) → length blocks ≤ i → found ≡ filter p (rows_of (take i blocks)) → found ≡ filter p (rows_of blocks)
passed_all p blocks i found end is = is ∙ ap (λ bs. filter p (rows_of bs)) (take_all i blocks end)

-- what was answered, as another list
pub ok_same : {A Z E : Type 0} (r : Result (Vec A Z) E) (xs ys : List A) → IfOk r (λ v. v.items ≡ xs) → xs ≡ ys → IfOk r (λ v. v.items ≡ ys)
ok_same (Ok v) xs ys is same = is ∙ same
ok_same (Err e) xs ys is same = tt
