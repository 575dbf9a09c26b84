-- Lists that are tested, found and made.
use Rattle.std.proofs.Common.{◌≡◌, List, [], ◌∷◌, map, filter, Bool, refl, ◌∙◌, ap, inl, inr}
use Rattle.std.specs.Prelude.{find, is_some, option_map, ◌&&◌}
use Rattle.std.specs.List.{AllByRecursion, list_any}
use Rattle.house_rows.proofs.Put.{by_test}

-- what is found is there
pub some_found : {A : Type 0} (p : A → Bool) (xs : List A) → is_some (find p xs) ≡ list_any p xs
some_found p [] = refl
some_found p (x ∷ xs) = elim (by_test (p x)) [ inl is ↦ rw is refl | inr not ↦ rw not (some_found p xs) ]

-- of what is made, the elements that pass are made of those that would
pub filter_made : {A B : Type 0} (p : B → Bool) (make : A → B) (xs : List A) → filter p (map make xs) ≡ map make (filter (λ x. p (make x)) xs)
filter_made p make [] = refl
filter_made p make (x ∷ xs) = elim (by_test (p (make x))) [ inl is ↦ rw is (ap (λ r. make x ∷ r) (filter_made p make xs)) | inr not ↦ rw not (filter_made p make xs) ]

pub find_made : {A B : Type 0} (p : B → Bool) (make : A → B) (xs : List A) → find p (map make xs) ≡ option_map make (find (λ x. p (make x)) xs)
find_made p make [] = refl
find_made p make (x ∷ xs) = elim (by_test (p (make x))) [ inl is ↦ rw is refl | inr not ↦ rw not (find_made p make xs) ]

-- one test after another is both at once
pub filter_twice : {A : Type 0} (p q : A → Bool) (xs : List A) → filter q (filter p xs) ≡ filter (λ x. p x && q x) xs
filter_twice p q [] = refl
filter_twice p q (x ∷ xs) = elim (by_test (p x)) [
  | inl is ↦ elim (by_test (q x)) [ inl also ↦ rw (is, also) (ap (λ r. x ∷ r) (filter_twice p q xs)) | inr other ↦ rw (is, other) (filter_twice p q xs) ]
  | inr not ↦ rw not (filter_twice p q xs)
]

-- what is made alike of each element that is there
pub map_each : {A B : Type 0} (f g : A → B) (P : A → Type 0) (xs : List A) → ((x : A) → P x → f x ≡ g x) → AllByRecursion P xs → map f xs ≡ map g xs
map_each f g P [] alike all = refl
map_each f g P (x ∷ xs) alike all = ap (λ y. y ∷ map f xs) (alike x all.0) ∙ ap (λ ys. g x ∷ ys) (map_each f g P xs alike all.1)

-- to make in two steps is to make in one
pub map_twice : {A B C : Type 0} (f : A → B) (g : B → C) (xs : List A) → map g (map f xs) ≡ map (λ x. g (f x)) xs
map_twice f g [] = refl
map_twice f g (x ∷ xs) = ap (λ r. g (f x) ∷ r) (map_twice f g xs)

cons_both : {A : Type 0} (x y : A) (xs ys : List A) → x ≡ y → xs ≡ ys → x ∷ xs ≡ y ∷ ys
cons_both x y xs ys first rest = cc

pub map_same : {A B : Type 0} (f g : A → B) (xs : List A) → ((x : A) → f x ≡ g x) → map f xs ≡ map g xs
map_same f g [] same = refl
map_same f g (x ∷ xs) same = cons_both _ _ _ _ (same x) (map_same f g xs same)

pub any_of_filtered : {A : Type 0} (p q : A → Bool) (xs : List A) → list_any (λ x. p x && q x) xs ≡ list_any q (filter p xs)
any_of_filtered p q [] = refl
any_of_filtered p q (x ∷ xs) = elim (by_test (p x)) [
  | inl is ↦ elim (by_test (q x)) [ inl also ↦ rw (is, also) refl | inr other ↦ rw (is, other) (any_of_filtered p q xs) ]
  | inr not ↦ rw not (any_of_filtered p q xs)
]
