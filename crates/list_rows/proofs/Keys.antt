-- For callers: what is known of rows by their keys.
use Rattle.std.proofs.Common.{◌≡◌, ◌<◌, ℕ, List, [], ◌∷◌, map, length, get_or, Bool, true, false, not, refl, ap, sym, ◌∙◌, arith, inl, inr, Option, Some, None}
use Rattle.std.specs.Prelude.{Vec, find, nat_lt}
use Rattle.std.specs.List.{list_any, position_or_len}
use Rattle.std.proofs.lemmas.List.{get_or_default}
use Rattle.std.proofs.lemmas.Bool.Decides.{nat_tests}
use Rattle.house_rows.specs.History.{Key, is_less, put_by}
use Rattle.house_rows.proofs.Put.{by_test}
use Rattle.list_rows.specs.Blocks.{IsBlocked, IsRising, rows_of, same_key}
use Rattle.list_rows.proofs.Order.{greater_apart, less_apart, same_self}
use Rattle.list_rows.proofs.Placed.{rising_at, same_place, some_found}
use Rattle.list_rows.proofs.Blocked.{rows_rise}

-- two rows never share a key
pub apart : {A : Type 0} (key : A → Key) (xs : List A) (i j : ℕ) (d : A) → IsRising key xs → i < length xs → j < length xs → same_key (key (get_or xs i d)) (key (get_or xs j d)) ≡ true → i ≡ j
apart key xs i j d rising here there same =
    elim (by_test (nat_lt i j)) [
      | inl before ↦ absurd (let e : true ≡ false = sym same ∙ less_apart (key (get_or xs i d)) (key (get_or xs j d)) (rising_at key xs i j d rising (grind (arith, nat_tests, before)) there) in cc)
      | inr not ↦ elim (by_test (nat_lt j i)) [
        | inl rest_after ↦ absurd (let e : true ≡ false = sym same ∙ greater_apart (key (get_or xs i d)) (key (get_or xs j d)) (rising_at key xs j i d rising (grind (arith, nat_tests, rest_after)) here) in cc)
        | inr nor ↦ grind (arith, nat_tests, not, nor)
      ]
    ]

-- a row that is there is found by its key
pub there_found : {A : Type 0} (key : A → Key) (xs : List A) (i : ℕ) (d : A) → IsRising key xs → i < length xs → find (λ x. same_key (key x) (key (get_or xs i d))) xs ≡ Some (get_or xs i d)
there_found key xs i d rising lt =
    let w : Key = key (get_or xs i d) in
    let place : position_or_len (λ x. same_key (key x) w) xs ≡ i = same_place key w xs i rising lt (λ e. rw (get_or_default xs i e d lt) (same_self w)) in
    some_found (λ x. same_key (key x) w) xs d (rw place lt) ∙ ap (λ k. Some (get_or xs k d)) place

-- the same of a table in blocks
pub rows_apart : {A Z : Type 0} (key : A → Key) (blocks : List (Vec A Z)) (i j : ℕ) (d : A) → IsBlocked key blocks → i < length (rows_of blocks) → j < length (rows_of blocks) → same_key (key (get_or (rows_of blocks) i d)) (key (get_or (rows_of blocks) j d)) ≡ true → i ≡ j
rows_apart key blocks i j d are here there same = apart key (rows_of blocks) i j d (rows_rise key 0 blocks are) here there same

pub rows_found : {A Z : Type 0} (key : A → Key) (blocks : List (Vec A Z)) (i : ℕ) (d : A) → IsBlocked key blocks → i < length (rows_of blocks) → find (λ x. same_key (key x) (key (get_or (rows_of blocks) i d))) (rows_of blocks) ≡ Some (get_or (rows_of blocks) i d)
rows_found key blocks i d are lt = there_found key (rows_of blocks) i d (rows_rise key 0 blocks are) lt

-- tests that say the same of each row say the same of a list
pub find_alike : {A : Type 0} (p q : A → Bool) (xs : List A) → ((x : A) → p x ≡ q x) → find p xs ≡ find q xs
find_alike p q [] same = refl
find_alike p q (x ∷ xs) same = rw (same x, find_alike p q xs same) refl

pub any_alike : {A : Type 0} (p q : A → Bool) (xs : List A) → ((x : A) → p x ≡ q x) → list_any p xs ≡ list_any q xs
any_alike p q [] same = refl
any_alike p q (x ∷ xs) same = rw (same x, any_alike p q xs same) refl

pub map_alike : {A B : Type 0} (f g : A → B) (xs : List A) → ((x : A) → f x ≡ g x) → map f xs ≡ map g xs
map_alike f g [] same = refl
map_alike f g (x ∷ xs) same = rw (same x, map_alike f g xs same) refl

-- looking up after a put

pub find_put_other : {A : Type 0} (key : A → Key) (p : A → Bool) (x : A) (xs : List A) → p x ≡ false → find p (put_by key x xs) ≡ find p xs
find_put_other key p x [] other = rw other refl
find_put_other key p x (y ∷ ys) other =
    elim (by_test (is_less (key x) (key y))) [
      | inl less ↦ rw (less, other) refl
      | inr not ↦ rw not (elim (by_test (p y)) [ inl is ↦ rw is refl | inr apart ↦ rw apart (find_put_other key p x ys other) ])
    ]

pub find_put : {A : Type 0} (key : A → Key) (p : A → Bool) (x : A) (xs : List A) → p x ≡ true → list_any p xs ≡ false → find p (put_by key x xs) ≡ Some x
find_put key p x [] is free = rw is refl
find_put key p x (y ∷ ys) is free =
    elim (by_test (is_less (key x) (key y))) [
      | inl less ↦ rw (less, is) refl
      | inr not ↦ rw not (elim (by_test (p y)) [
        | inl taken ↦ absurd (let e : true ≡ false = rw taken at free in cc)
        | inr apart ↦ rw apart (find_put key p x ys is (rw apart at free))
      ])
    ]

-- where nothing is found, no row passes, and where none passes, nothing is found
pub any_by_find : {A : Type 0} (p : A → Bool) (xs : List A) → find p xs ≡ None → list_any p xs ≡ false
any_by_find p [] none = refl
any_by_find p (x ∷ xs) none =
    elim (by_test (p x)) [ inl is ↦ absurd (something x (find p (x ∷ xs)) (rw is refl) none) | inr not ↦ rw not (any_by_find p xs (rw not at none)) ] where
      something : {A : Type 0} (x : A) (o : Option A) → o ≡ Some x → o ≡ None → ⊥
      something x o some none = cc
