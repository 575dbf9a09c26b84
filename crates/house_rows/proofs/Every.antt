-- Lists each of whose elements has a property.
use Rattle.std.proofs.Common.{◌≡◌, ◌==◌, ℕ, List, [], ◌∷◌, ◌++◌, map, Bool, true, false, refl, arith, inl, inr, Option, Some, None}
use Rattle.std.specs.Prelude.{find, is_some}
use Rattle.std.specs.List.{AllByRecursion, list_any}
use Rattle.std.proofs.lemmas.Bool.Decides.{nat_tests}
use Rattle.house_rows.specs.History.{Key, is_less, put_by}
use Rattle.house_rows.proofs.Put.{by_test}

pub every_more : {A : Type 0} (P : A → Type 0) (xs : List A) (x : A) → AllByRecursion P xs → P x → AllByRecursion P (xs ++ x ∷ [])
every_more P [] x all one = (one, tt)
every_more P (y ∷ xs) x all one = (all.0, every_more P xs x all.1 one)

pub every_joined : {A : Type 0} (P : A → Type 0) (xs ys : List A) → AllByRecursion P xs → AllByRecursion P ys → AllByRecursion P (xs ++ ys)
every_joined P [] ys all also = also
every_joined P (x ∷ xs) ys all also = (all.0, every_joined P xs ys all.1 also)

pub every_as : {A : Type 0} (P Q : A → Type 0) (xs : List A) → ((x : A) → P x → Q x) → AllByRecursion P xs → AllByRecursion Q xs
every_as P Q [] as' all = tt
every_as P Q (x ∷ xs) as' all = (as' x all.0, every_as P Q xs as' all.1)

pub every_both : {A : Type 0} (P Q R : A → Type 0) (xs : List A) → ((x : A) → P x → Q x → R x) → AllByRecursion P xs → AllByRecursion Q xs → AllByRecursion R xs
every_both P Q R [] both all also = tt
every_both P Q R (x ∷ xs) both all also = (both x all.0 also.0, every_both P Q R xs both all.1 also.1)

pub every_map : {A B : Type 0} (f : A → B) (P : B → Type 0) (xs : List A) → AllByRecursion (λ x. P (f x)) xs → AllByRecursion P (map f xs)
every_map f P [] all = tt
every_map f P (x ∷ xs) all = (all.0, every_map f P xs all.1)

pub every_put : {A : Type 0} (key : A → Key) (P : A → Type 0) (x : A) (xs : List A) → AllByRecursion P xs → P x → AllByRecursion P (put_by key x xs)
every_put key P x [] all one = (one, tt)
every_put key P x (y ∷ xs) all one =
    elim (by_test (is_less (key x) (key y))) [ inl less ↦ rw less (one, all) | inr not ↦ rw not (all.0, every_put key P x xs all.1 one) ]

nothing_found : {A : Type 0} (x : A) (o : Option A) → o ≡ None → o ≡ Some x → ⊥
nothing_found x o none some = cc

found_one : {A : Type 0} (x y : A) → Some x ≡ Some y → x ≡ y
found_one x y e = cc

-- what is found has the property
pub found_has : {A : Type 0} (P : A → Type 0) (p : A → Bool) (xs : List A) (x : A) → AllByRecursion P xs → find p xs ≡ Some x → P x
found_has P p [] x all found = absurd (nothing_found x None refl found)
found_has P p (y ∷ xs) x all found =
    elim (by_test (p y)) [
      | inl is ↦ (let e : y ≡ x = found_one y x (rw is at found) in rw (← e) all.0)
      | inr not ↦ found_has P p xs x all.1 (rw not at found)
    ]

-- and passes the test
pub found_is : {A : Type 0} (p : A → Bool) (xs : List A) (x : A) → find p xs ≡ Some x → p x ≡ true
found_is p [] x found = absurd (nothing_found x None refl found)
found_is p (y ∷ xs) x found =
    elim (by_test (p y)) [
      | inl is ↦ (let e : y ≡ x = found_one y x (rw is at found) in rw (← e) is)
      | inr not ↦ found_is p xs x (rw not at found)
    ]

-- the number by which one is found is one of those that have a property
pub found_number : {A : Type 0} (number : A → ℕ) (P : A → Type 0) (Is : ℕ → Type 0) (n : ℕ) (xs : List A) → ((x : A) → P x → Is (number x)) → AllByRecursion P xs
    → is_some (find (λ x. number x == n) xs) ≡ true → Is n
found_number number P Is n [] has all found = absurd (let e : false ≡ true = found in cc)
found_number number P Is n (x ∷ xs) has all found =
    elim (by_test (number x == n)) [
      | inl is ↦ (let same : number x ≡ n = grind (arith, nat_tests, is) in rw (← same) (has x all.0))
      | inr not ↦ found_number number P Is n xs has all.1 (rw not at found)
    ]

-- what is found stays found
pub found_more : {A : Type 0} (p : A → Bool) (xs ys : List A) (x : A) → find p xs ≡ Some x → find p (xs ++ ys) ≡ Some x
found_more p [] ys x found = absurd (nothing_found x None refl found)
found_more p (y ∷ xs) ys x found =
    elim (by_test (p y)) [ inl is ↦ rw is (rw is at found) | inr not ↦ rw not (found_more p xs ys x (rw not at found)) ]

-- where some element passes, one with the property does
pub some_has : {A : Type 0} (P : A → Type 0) (p : A → Bool) (xs : List A) → AllByRecursion P xs → list_any p xs ≡ true → (x : A) × P x × (p x ≡ true)
some_has P p [] all any = absurd (let e : false ≡ true = any in cc)
some_has P p (y ∷ xs) all any =
    elim (by_test (p y)) [ inl is ↦ (y, all.0, is) | inr not ↦ some_has P p xs all.1 (rw not at any) ]
