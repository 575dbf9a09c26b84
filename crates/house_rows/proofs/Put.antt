-- Rows put in their places.
use Rattle.std.proofs.Common.{◌≡◌, List, [], ◌∷◌, filter, Bool, true, false, not, refl, ◌∙◌, ap, sym, arith, inl, inr, ◌⊎◌}
use Rattle.std.specs.List.{AllByRecursion}
use Rattle.std.proofs.lemmas.Bool.Decides.{nat_tests}
use Rattle.house_rows.specs.History.{Key, is_less, put_by}

pub by_test : (b : Bool) → (b ≡ true) ⊎ (b ≡ false)
by_test true = inl refl
by_test false = inr refl

not_after : (a b : Key) → is_less a b ≡ true → is_less b a ≡ false
not_after a b less = grind (arith, nat_tests)

after_both : (x y z : Key) → is_less x y ≡ true → is_less z y ≡ false → is_less x z ≡ true
after_both x y z xy zy = grind (arith, nat_tests)

-- no row comes before an earlier one
abbrev pub IsInOrder : {A : Type 0} → (A → Key) → List A → Type 0
IsInOrder key [] = Unit {0}
IsInOrder key (y ∷ ys) = AllByRecursion (λ z. is_less (key z) (key y) ≡ false) ys × IsInOrder key ys

-- every row comes after x
abbrev AreAfter : {A : Type 0} → (A → Key) → A → List A → Type 0
AreAfter key x ys = AllByRecursion (λ z. is_less (key x) (key z) ≡ true) ys

all_after : {A : Type 0} (key : A → Key) (x y : A) (ys : List A) → is_less (key x) (key y) ≡ true → AllByRecursion (λ z. is_less (key z) (key y) ≡ false) ys → AreAfter key x ys
all_after key x y [] less all = tt
all_after key x y (z ∷ ys) less all = (after_both (key x) (key y) (key z) less all.0, all_after key x y ys less all.1)

filter_after : {A : Type 0} (key : A → Key) (x : A) (p : A → Bool) (ys : List A) → AreAfter key x ys → AreAfter key x (filter p ys)
filter_after key x p [] all = tt
filter_after key x p (y ∷ ys) all =
    elim (by_test (p y)) [ inl is ↦ rw is (all.0, filter_after key x p ys all.1) | inr not ↦ rw not (filter_after key x p ys all.1) ]

put_first : {A : Type 0} (key : A → Key) (x : A) (ys : List A) → AreAfter key x ys → put_by key x ys ≡ x ∷ ys
put_first key x [] all = refl
put_first key x (y ∷ ys) all = rw all.0 refl

-- a row that is not looked for makes no difference
pub filter_put_other : {A : Type 0} (key : A → Key) (p : A → Bool) (x : A) (xs : List A) → p x ≡ false → filter p (put_by key x xs) ≡ filter p xs
filter_put_other key p x [] other = rw other refl
filter_put_other key p x (y ∷ ys) other =
    elim (by_test (is_less (key x) (key y))) [
      | inl less ↦ rw (less, other) refl
      | inr not ↦ rw not (rw (filter_put_other key p x ys other) refl)
    ]

-- one that is looked for is put among those that are
pub filter_put : {A : Type 0} (key : A → Key) (p : A → Bool) (x : A) (xs : List A) → p x ≡ true → IsInOrder key xs → filter p (put_by key x xs) ≡ put_by key x (filter p xs)
filter_put key p x [] is order = rw is refl
filter_put key p x (y ∷ ys) is order =
    elim (by_test (is_less (key x) (key y))) [
      | inl less ↦ (let rest_after : AreAfter key x (y ∷ ys) = (less, all_after key x y ys less order.0) in
          rw (less, is) (ap (λ rest. x ∷ rest) refl ∙ sym (put_first key x (filter p (y ∷ ys)) (filter_after key x p (y ∷ ys) rest_after))))
      | inr not ↦ elim (by_test (p y)) [
        | inl here ↦ rw (not, here) (rw not (ap (λ rest. y ∷ rest) (filter_put key p x ys is order.1)))
        | inr other ↦ rw (not, other) (filter_put key p x ys is order.1)
      ]
    ]

put_all : {A : Type 0} (key : A → Key) (y x : A) (ys : List A) → is_less (key x) (key y) ≡ false → AllByRecursion (λ z. is_less (key z) (key y) ≡ false) ys → AllByRecursion (λ z. is_less (key z) (key y) ≡ false) (put_by key x ys)
put_all key y x [] here all = (here, tt)
put_all key y x (z ∷ ys) here all =
    elim (by_test (is_less (key x) (key z))) [ inl less ↦ rw less (here, all) | inr not ↦ rw not (all.0, put_all key y x ys here all.1) ]

none_before : {A : Type 0} (key : A → Key) (x : A) (ys : List A) → AreAfter key x ys → AllByRecursion (λ z. is_less (key z) (key x) ≡ false) ys
none_before key x [] all = tt
none_before key x (y ∷ ys) all = (not_after (key x) (key y) all.0, none_before key x ys all.1)

pub put_in_order : {A : Type 0} (key : A → Key) (x : A) (xs : List A) → IsInOrder key xs → IsInOrder key (put_by key x xs)
put_in_order key x [] order = (tt, tt)
put_in_order key x (y ∷ ys) order =
    elim (by_test (is_less (key x) (key y))) [
      | inl less ↦ rw less (none_before key x (y ∷ ys) (less, all_after key x y ys less order.0), order)
      | inr not ↦ rw not (put_all key y x ys not order.0, put_in_order key x ys order.1)
    ]

filter_all : {A : Type 0} (key : A → Key) (y : A) (p : A → Bool) (ys : List A) → AllByRecursion (λ z. is_less (key z) (key y) ≡ false) ys → AllByRecursion (λ z. is_less (key z) (key y) ≡ false) (filter p ys)
filter_all key y p [] all = tt
filter_all key y p (z ∷ ys) all =
    elim (by_test (p z)) [ inl is ↦ rw is (all.0, filter_all key y p ys all.1) | inr not ↦ rw not (filter_all key y p ys all.1) ]

pub filter_in_order : {A : Type 0} (key : A → Key) (p : A → Bool) (xs : List A) → IsInOrder key xs → IsInOrder key (filter p xs)
filter_in_order key p [] order = tt
filter_in_order key p (y ∷ ys) order =
    elim (by_test (p y)) [ inl is ↦ rw is (filter_all key y p ys order.0, filter_in_order key p ys order.1) | inr not ↦ rw not (filter_in_order key p ys order.1) ]

-- two filters in either order
pub filter_swap : {A : Type 0} (p q : A → Bool) (xs : List A) → filter p (filter q xs) ≡ filter q (filter p xs)
filter_swap p q [] = refl
filter_swap p q (x ∷ xs) =
    elim (by_test (p x)) [
      | inl is ↦ elim (by_test (q x)) [ inl also ↦ rw (is, also, is) (ap (λ rest. x ∷ rest) (filter_swap p q xs)) | inr not ↦ rw (is, not) (filter_swap p q xs) ]
      | inr not ↦ elim (by_test (q x)) [ inl is ↦ rw (is, not) (filter_swap p q xs) | inr also ↦ rw (not, also) (filter_swap p q xs) ]
    ]

pub filter_alike : {A : Type 0} (p q : A → Bool) (xs : List A) → ((x : A) → p x ≡ q x) → filter p xs ≡ filter q xs
filter_alike p q [] same = refl
filter_alike p q (x ∷ xs) same = rw (same x, filter_alike p q xs same) refl
