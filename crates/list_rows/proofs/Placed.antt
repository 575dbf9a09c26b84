-- Where a row is among rows that rise.
use Rattle.std.proofs.Common.{◌≡◌, ◌<◌, ◌≤◌, ◌+◌, ◌-◌, ℕ, zero, suc, List, [], ◌∷◌, map, filter, length, get_or, set, Bool, true, false, not, refl, ap, sym, ◌∙◌, arith, inl, inr, Some, None, Result, Ok, Err}
use Rattle.std.specs.Prelude.{if◌then◌else◌, find, position, nat_lt, IfOk, IfErr, OnErr}
use Rattle.std.specs.List.{AllByRecursion, HoldsAt, insert, list_any, position_or_len, remove}
use Rattle.std.specs.List.Sorted.{IsBinarySearchResult, IsNonDecreasingBy, IsPartitionPoint, IsSearchInRange}
use Rattle.std.specs.declared.cmp.Ordering.TheVariants.{Less, Equal, Greater}
use Rattle.std.specs.Ordering.{ordering_index}
use Rattle.std.proofs.lemmas.Bool.Decides.{nat_tests}
use Rattle.std.proofs.Math.Numerals.{one-add}
use Rattle.std.proofs.lemmas.List.{get_or_default}
use Rattle.house_rows.specs.History.{Key, is_less, put_by}
use Rattle.house_rows.proofs.Every.{every_as}
use Rattle.house_rows.proofs.Put.{by_test}
use Rattle.list_rows.specs.Blocks.{IsRising, order_of, same_key}
use Rattle.list_rows.proofs.Order.{greater_apart, less_apart, less_not_after, less_twice, order_equal, order_greater, order_less, order_rises, same_is}

-- the first place

pub place_within : {A : Type 0} (p : A → Bool) (xs : List A) → position_or_len p xs ≤ length xs
place_within p [] = omega arith
place_within p (x ∷ xs) = let le = place_within p xs in elim (by_test (p x)) [ inl is ↦ rw is (omega arith) | inr not ↦ rw not (omega arith) ]

at_place : {A : Type 0} (p : A → Bool) (xs : List A) (i : ℕ) → position_or_len p xs ≡ i → i < length xs → position p xs ≡ Some i
at_place p xs i at' lt = let is : nat_lt (position_or_len p xs) (length xs) ≡ true = grind (arith, nat_tests) in rw is (ap Some at')

pub place_of : {A : Type 0} (p : A → Bool) (xs : List A) (i : ℕ) → position p xs ≡ Some i → (position_or_len p xs ≡ i) × (i < length xs)
place_of p xs i found =
    elim (by_test (nat_lt (position_or_len p xs) (length xs))) [
      | inl is ↦ (let e : Some (position_or_len p xs) ≡ Some i = rw is at found in let same : position_or_len p xs ≡ i = cc in (same, grind (arith, nat_tests, is, same)))
      | inr not ↦ absurd (let e : None ≡ Some i = rw not at found in cc)
    ]

-- where a place is found, a row is; where none is, none passes
pub none_passes : {A : Type 0} (p : A → Bool) (xs : List A) → position p xs ≡ None → AllByRecursion (λ x. p x ≡ false) xs
none_passes p [] none = tt
none_passes p (x ∷ xs) none =
    elim (by_test (p x)) [
      | inl is ↦ absurd (let e : position p (x ∷ xs) ≡ Some 0 = at_place p (x ∷ xs) 0 (rw is refl) (omega arith) in let wrong : Some 0 ≡ None = sym e ∙ none in cc)
      | inr not ↦ (not, none_passes p xs (later p x xs not none))
    ] where
      later : {A : Type 0} (p : A → Bool) (x : A) (xs : List A) → p x ≡ false → position p (x ∷ xs) ≡ None → position p xs ≡ None
      later p x xs not none =
          elim (by_test (nat_lt (position_or_len p xs) (length xs))) [
            | inl is ↦ absurd (
                let lt : position_or_len p xs + 1 < length (x ∷ xs) = grind (arith, nat_tests, is) in
                let here : position_or_len p (x ∷ xs) ≡ position_or_len p xs + 1 = rw not (omega arith) in
                let e : position p (x ∷ xs) ≡ Some (position_or_len p xs + 1) = at_place p (x ∷ xs) (position_or_len p xs + 1) here lt in
                let wrong : Some (position_or_len p xs + 1) ≡ None = sym e ∙ none in cc)
            | inr beyond ↦ rw beyond refl
          ]

pub nowhere : {A : Type 0} (p : A → Bool) (xs : List A) → AllByRecursion (λ x. p x ≡ false) xs → position_or_len p xs ≡ length xs
nowhere p [] all = refl
nowhere p (x ∷ xs) all = rw all.0 (let e = nowhere p xs all.1 in omega arith)

pub no_place : {A : Type 0} (p : A → Bool) (xs : List A) → AllByRecursion (λ x. p x ≡ false) xs → position p xs ≡ None
no_place p xs all =
    let e = nowhere p xs all in
    let is : nat_lt (position_or_len p xs) (length xs) ≡ false = grind (arith, nat_tests) in
    rw is refl

pub none_any : {A : Type 0} (p : A → Bool) (xs : List A) → AllByRecursion (λ x. p x ≡ false) xs → list_any p xs ≡ false
none_any p [] all = refl
none_any p (x ∷ xs) all = rw all.0 (none_any p xs all.1)

pub none_found : {A : Type 0} (p : A → Bool) (xs : List A) → AllByRecursion (λ x. p x ≡ false) xs → find p xs ≡ None
none_found p [] all = refl
none_found p (x ∷ xs) all = rw all.0 (none_found p xs all.1)

pub some_any : {A : Type 0} (p : A → Bool) (xs : List A) → position_or_len p xs < length xs → list_any p xs ≡ true
some_any p [] lt = absurd (omega arith)
some_any p (x ∷ xs) lt =
    elim (by_test (p x)) [ inl is ↦ rw is refl | inr not ↦ rw not (some_any p xs (let rest = rw not at lt in omega arith)) ]

pub some_found : {A : Type 0} (p : A → Bool) (xs : List A) (d : A) → position_or_len p xs < length xs → find p xs ≡ Some (get_or xs (position_or_len p xs) d)
some_found p [] d lt = absurd (omega arith)
some_found p (x ∷ xs) d lt =
    elim (by_test (p x)) [ inl is ↦ rw is refl | inr not ↦ rw not (rw one-add (some_found p xs d (let rest = rw not at lt in omega arith))) ]

-- rows that rise, at their places

pub every_at : {A : Type 0} (P : A → Type 0) (xs : List A) (i : ℕ) (d : A) → AllByRecursion P xs → i < length xs → P (get_or xs i d)
every_at P [] i d all lt = absurd (omega arith)
every_at P (x ∷ xs) zero d all lt = all.0
every_at P (x ∷ xs) (suc i) d all lt = every_at P xs i d all.1 (omega arith)

pub every_by_places : {A : Type 0} (P : A → Type 0) (xs : List A) → ((k : ℕ) (d : A) → k < length xs → P (get_or xs k d)) → AllByRecursion P xs
every_by_places P [] at' = tt
every_by_places P (x ∷ xs) at' = (at' 0 x (omega arith), every_by_places P xs (λ k d lt. at' (suc k) d (omega arith)))

pub rising_at : {A : Type 0} (key : A → Key) (xs : List A) (i j : ℕ) (d : A) → IsRising key xs → i < j → j < length xs → is_less (key (get_or xs i d)) (key (get_or xs j d)) ≡ true
rising_at key [] i j d rising before lt = absurd (omega arith)
rising_at key (x ∷ xs) i zero d rising before lt = absurd (omega arith)
rising_at key (x ∷ xs) zero (suc j) d rising before lt = every_at (λ y. is_less (key x) (key y) ≡ true) xs j d rising.0 (omega arith)
rising_at key (x ∷ xs) (suc i) (suc j) d rising before lt = rising_at key xs i j d rising.1 (omega arith) (omega arith)

-- answers of a binary search rise
pub orders_rise : {A : Type 0} (key : A → Key) (w : Key) (xs : List A) → IsRising key xs → IsNonDecreasingBy (λ y. ordering_index (order_of (key y) w)) xs
orders_rise key w xs rising = λ i j d le lt.
    elim (by_test (nat_lt i j)) [
      | inl is ↦ order_rises (key (get_or xs i d)) (key (get_or xs j d)) w (rising_at key xs i j d rising (grind (arith, nat_tests, is)) lt)
      | inr not ↦ (let same : i ≡ j = grind (arith, nat_tests, not, le) in rw same (omega arith))
    ]

-- a row of the key that is wanted is the only one
pub same_place : {A : Type 0} (key : A → Key) (w : Key) (xs : List A) (i : ℕ) → IsRising key xs → i < length xs → ((d : A) → same_key (key (get_or xs i d)) w ≡ true) → position_or_len (λ y. same_key (key y) w) xs ≡ i
same_place key w [] i rising lt is = absurd (omega arith)
same_place key w (x ∷ xs) zero rising lt is = rw (is x) refl
same_place key w (x ∷ xs) (suc i) rising lt is =
    let there : key (get_or xs i x) ≡ w = same_is (key (get_or xs i x)) w (is x) in
    let before : is_less (key x) w ≡ true = rw there at (every_at (λ y. is_less (key x) (key y) ≡ true) xs i x rising.0 (omega arith)) in
    let rest = same_place key w xs i rising.1 (omega arith) is in
    rw (less_apart (key x) w before) (omega arith)

pub found_place : {A : Type 0} (key : A → Key) (w : Key) (xs : List A) (i : ℕ) → IsRising key xs → i < length xs → HoldsAt (λ y. order_of (key y) w ≡ Equal) xs i → position (λ y. same_key (key y) w) xs ≡ Some i
found_place key w xs i rising lt at' = at_place (λ y. same_key (key y) w) xs i (same_place key w xs i rising lt (λ d. order_equal (key (get_or xs i d)) w (at' d))) lt

-- where none is, rows before the place have lesser keys, and the others greater ones
pub absent_apart : {A : Type 0} (key : A → Key) (w : Key) (xs : List A) (i : ℕ) → IsPartitionPoint (λ y. order_of (key y) w ≡ Less) (λ y. order_of (key y) w ≡ Greater) xs i → AllByRecursion (λ y. same_key (key y) w ≡ false) xs
absent_apart key w xs i point = every_by_places (λ y. same_key (key y) w ≡ false) xs (λ k d lt.
    elim (by_test (nat_lt k i)) [
      | inl is ↦ less_apart (key (get_or xs k d)) w (order_less (key (get_or xs k d)) w (point.0 k d (omega arith) (grind (arith, nat_tests, is))))
      | inr not ↦ greater_apart (key (get_or xs k d)) w (order_greater (key (get_or xs k d)) w (point.1 k d (grind (arith, nat_tests, not)) lt))
    ])

between : {A : Type 0} (key : A → Key) (w : Key) (xs : List A) (i : ℕ) → i ≤ length xs → ((k : ℕ) (d : A) → k < i → is_less (key (get_or xs k d)) w ≡ true) → ((k : ℕ) (d : A) → i ≤ k → k < length xs → is_less w (key (get_or xs k d)) ≡ true) → position_or_len (λ y. is_less w (key y)) xs ≡ i
between key w [] i le before rest_after = omega arith
between key w (x ∷ xs) zero le before rest_after = rw (rest_after 0 x (omega arith) (omega arith)) refl
between key w (x ∷ xs) (suc i) le before rest_after =
    let rest = between key w xs i (omega arith) (λ k d lt. before (suc k) d (omega arith)) (λ k d ge lt. rest_after (suc k) d (omega arith) (omega arith)) in
    rw (less_not_after (key x) w (before 0 x (omega arith))) (omega arith)

pub absent_place : {A : Type 0} (key : A → Key) (w : Key) (xs : List A) (i : ℕ) → i ≤ length xs → IsPartitionPoint (λ y. order_of (key y) w ≡ Less) (λ y. order_of (key y) w ≡ Greater) xs i → position_or_len (λ y. is_less w (key y)) xs ≡ i
absent_place key w xs i le point = between key w xs i le
    (λ k d lt. order_less (key (get_or xs k d)) w (point.0 k d (omega arith) lt))
    (λ k d ge lt. order_greater (key (get_or xs k d)) w (point.1 k d ge lt))

-- after the last row all keys are lesser
pub all_before : {A : Type 0} (key : A → Key) (w : Key) (xs : List A) (d : A) → IsRising key xs → 0 < length xs → is_less (key (get_or xs (length xs - 1) d)) w ≡ true → AllByRecursion (λ y. is_less (key y) w ≡ true) xs
all_before key w xs d rising some last = every_by_places (λ y. is_less (key y) w ≡ true) xs (λ k e lt.
    rw (get_or_default xs k e d lt) (elim (by_test (nat_lt k (length xs - 1))) [
      | inl is ↦ less_twice (key (get_or xs k d)) (key (get_or xs (length xs - 1) d)) w (rising_at key xs k (length xs - 1) d rising (grind (arith, nat_tests, is)) (omega arith)) last
      | inr not ↦ (let same : k ≡ length xs - 1 = grind (arith, nat_tests, not, lt, some) in rw same last)
    ]))

pub before_apart : {A : Type 0} (key : A → Key) (w : Key) (xs : List A) → AllByRecursion (λ y. is_less (key y) w ≡ true) xs → AllByRecursion (λ y. same_key (key y) w ≡ false) xs
before_apart key w xs all = every_as (λ y. is_less (key y) w ≡ true) (λ y. same_key (key y) w ≡ false) xs (λ y less. less_apart (key y) w less) all

pub before_place : {A : Type 0} (key : A → Key) (w : Key) (xs : List A) → AllByRecursion (λ y. is_less (key y) w ≡ true) xs → position_or_len (λ y. is_less w (key y)) xs ≡ length xs
before_place key w xs all = nowhere (λ y. is_less w (key y)) xs (every_as (λ y. is_less (key y) w ≡ true) (λ y. is_less w (key y) ≡ false) xs (λ y less. less_not_after (key y) w less) all)

-- what is done at a place

pub put_is : {A : Type 0} (key : A → Key) (x : A) (ys : List A) → insert ys (position_or_len (λ y. is_less (key x) (key y)) ys) x ≡ put_by key x ys
put_is key x [] = refl
put_is key x (y ∷ ys) = elim (by_test (is_less (key x) (key y))) [ inl is ↦ rw is refl | inr not ↦ rw not (rw one-add (ap (λ rest. y ∷ rest) (put_is key x ys))) ]

pub kept_all : {A : Type 0} (p : A → Bool) (xs : List A) → AllByRecursion (λ x. p x ≡ false) xs → filter (λ x. not (p x)) xs ≡ xs
kept_all p [] all = refl
kept_all p (x ∷ xs) all = rw all.0 (ap (λ rest. x ∷ rest) (kept_all p xs all.1))

pub left_all : {A : Type 0} (p : A → Bool) (f : A → A) (xs : List A) → AllByRecursion (λ x. p x ≡ false) xs → map (λ x. if p x then f x else x) xs ≡ xs
left_all p f [] all = refl
left_all p f (x ∷ xs) all = rw all.0 (ap (λ rest. x ∷ rest) (left_all p f xs all.1))

-- after a row of the key there is no other
others_apart : {A : Type 0} (key : A → Key) (w : Key) (x : A) (xs : List A) → same_key (key x) w ≡ true → AllByRecursion (λ y. is_less (key x) (key y) ≡ true) xs → AllByRecursion (λ y. same_key (key y) w ≡ false) xs
others_apart key w x xs same all = every_as (λ y. is_less (key x) (key y) ≡ true) (λ y. same_key (key y) w ≡ false) xs
    (λ y less. greater_apart (key y) w (let e = same_is (key x) w same in rw (← e) less)) all

pub cut_is : {A : Type 0} (key : A → Key) (w : Key) (xs : List A) → IsRising key xs → position_or_len (λ y. same_key (key y) w) xs < length xs → remove xs (position_or_len (λ y. same_key (key y) w) xs) ≡ filter (λ y. not (same_key (key y) w)) xs
cut_is key w [] rising lt = absurd (omega arith)
cut_is key w (x ∷ xs) rising lt =
    elim (by_test (same_key (key x) w)) [
      | inl is ↦ rw is (sym (kept_all (λ y. same_key (key y) w) xs (others_apart key w x xs is rising.0)))
      | inr not ↦ rw not (rw one-add (ap (λ rest. x ∷ rest) (cut_is key w xs rising.1 (let rest = rw not at lt in omega arith))))
    ]

pub update_is : {A : Type 0} (key : A → Key) (w : Key) (f : A → A) (xs : List A) (d : A) → IsRising key xs → position_or_len (λ y. same_key (key y) w) xs < length xs
    → set xs (position_or_len (λ y. same_key (key y) w) xs) (f (get_or xs (position_or_len (λ y. same_key (key y) w) xs) d)) ≡ map (λ y. if same_key (key y) w then f y else y) xs
update_is key w f [] d rising lt = absurd (omega arith)
update_is key w f (x ∷ xs) d rising lt =
    elim (by_test (same_key (key x) w)) [
      | inl is ↦ rw is (ap (λ rest. f x ∷ rest) (sym (left_all (λ y. same_key (key y) w) f xs (others_apart key w x xs is rising.0))))
      | inr not ↦ rw not (rw one-add (ap (λ rest. x ∷ rest) (update_is key w f xs d rising.1 (let rest = rw not at lt in omega arith))))
    ]

-- what a binary search answers
pub searched_found : {A : Type 0} (key : A → Key) (w : Key) (xs : List A) (r : Result ℕ ℕ) → IsRising key xs → IsSearchInRange r (length xs) → IsBinarySearchResult (λ y. order_of (key y) w) xs r → IfOk r (λ i. position (λ y. same_key (key y) w) xs ≡ Some i)
searched_found key w xs (Ok i) rising lt at' = found_place key w xs i rising lt at'
searched_found key w xs (Err i) rising le point = tt

pub searched_absent : {A : Type 0} (key : A → Key) (w : Key) (xs : List A) (r : Result ℕ ℕ) → IsRising key xs → IsSearchInRange r (length xs) → IsBinarySearchResult (λ y. order_of (key y) w) xs r → OnErr r (position (λ y. same_key (key y) w) xs ≡ None)
searched_absent key w xs (Ok i) rising lt at' = tt
searched_absent key w xs (Err i) rising le point = no_place (λ y. same_key (key y) w) xs (absent_apart key w xs i (point (orders_rise key w xs rising)))

pub searched_place : {A : Type 0} (key : A → Key) (w : Key) (xs : List A) (r : Result ℕ ℕ) → IsRising key xs → IsSearchInRange r (length xs) → IsBinarySearchResult (λ y. order_of (key y) w) xs r → IfErr r (λ i. i ≡ position_or_len (λ y. is_less w (key y)) xs)
searched_place key w xs (Ok i) rising lt at' = tt
searched_place key w xs (Err i) rising le point = sym (absent_place key w xs i le (point (orders_rise key w xs rising)))
