-- Lists of rows that pass a test, as they grow from row to row.
use Rattle.std.proofs.Common.{◌≡◌, ℕ, zero, suc, ◌+◌, ◌≤◌, ◌<◌, List, [], ◌∷◌, ◌++◌, length, take, map, filter, get_or, Bool, true, false, refl, ◌∙◌, ap, sym, arith, inl, inr}
use Rattle.std.specs.Prelude.{◌&&◌, max, nat_lt}
use Rattle.std.proofs.lemmas.Bool.Decides.{nat_tests}
use Rattle.std.proofs.lemmas.List.{length-append, length-take, take_more, take_all, take-append-le, get_or-map, length-map, map-append}
use Rattle.proxy.specs.Bids.{greatest_of}
use Rattle.house_rows.proofs.Put.{by_test}

filter_both : {A : Type 0} (p : A → Bool) (xs ys : List A) → filter p (xs ++ ys) ≡ filter p xs ++ filter p ys
filter_both p [] ys = refl
filter_both p (x ∷ xs) ys = elim (by_test (p x)) [ inl is ↦ rw is (ap (λ rest. x ∷ rest) (filter_both p xs ys)) | inr not ↦ rw not (filter_both p xs ys) ]

pub filter_few : {A : Type 0} (p : A → Bool) (xs : List A) → length (filter p xs) ≤ length xs
filter_few p [] = omega arith
filter_few p (x ∷ xs) = let few = filter_few p xs in elim (by_test (p x)) [ inl is ↦ rw is (omega arith) | inr not ↦ rw not (omega arith) ]

-- a list as long as the table leaves nothing out
pub take_filter : {A : Type 0} (p : A → Bool) (xs : List A) → take (length xs) (filter p xs) ≡ filter p xs
take_filter p xs = take_all (length xs) (filter p xs) (filter_few p xs)

pub filter_every : {A : Type 0} (xs : List A) → filter (λ _. true) xs ≡ xs
filter_every [] = refl
filter_every (x ∷ xs) = ap (λ rest. x ∷ rest) (filter_every xs)

-- two tests in turn are one
pub filter_twice : {A : Type 0} (p q : A → Bool) (xs : List A) → filter (λ x. p x && q x) xs ≡ filter q (filter p xs)
filter_twice p q [] = refl
filter_twice p q (x ∷ xs) =
    elim (by_test (p x)) [
      | inl is ↦ elim (by_test (q x)) [ inl also ↦ rw (is, also) (ap (λ rest. x ∷ rest) (filter_twice p q xs)) | inr not ↦ rw (is, not) (filter_twice p q xs) ]
      | inr not ↦ rw not (filter_twice p q xs)
    ]

-- one more row that passes comes last
pub filter_more : {A : Type 0} (p : A → Bool) (xs : List A) (i : ℕ) (x : A) → i < length xs → x ≡ get_or xs i x → p x ≡ true → filter p (take (i + 1) xs) ≡ filter p (take i xs) ++ x ∷ []
filter_more p xs i x lt at' is = rw (take_more xs i x lt, ← at', filter_both p (take i xs) (x ∷ []), is) refl

-- one that doesn't changes nothing
pub filter_less : {A : Type 0} (p : A → Bool) (xs : List A) (i : ℕ) (x : A) → i < length xs → x ≡ get_or xs i x → p x ≡ false → filter p (take (i + 1) xs) ≡ filter p (take i xs)
filter_less p xs i x lt at' not = rw (take_more xs i x lt, ← at', filter_both p (take i xs) (x ∷ []), not) (append_none (filter p (take i xs))) where
  append_none : {A : Type 0} (ys : List A) → ys ++ [] ≡ ys
  append_none [] = refl
  append_none (y ∷ ys) = ap (λ rest. y ∷ rest) (append_none ys)

few_taken : {A : Type 0} (most : ℕ) (ys : List A) → length (take most ys) < most → length ys < most
few_taken most ys lt = let l = length-take most ys in omega arith

-- where there is room, the front of a longer list is the front with one more
pub front_more : {A : Type 0} (most : ℕ) (ys : List A) (x : A) → length (take most ys) < most → take most (ys ++ x ∷ []) ≡ take most ys ++ x ∷ []
front_more most ys x lt =
    let few : length ys < most = few_taken most ys lt in
    let fits : length (ys ++ x ∷ []) ≤ most = simp length-append (omega arith) in
    take_all most (ys ++ x ∷ []) fits ∙ ap (λ front. front ++ x ∷ []) (sym (take_all most ys (omega arith)))

-- where there is none, it stays
pub front_full : {A : Type 0} (most : ℕ) (ys : List A) (x : A) → most ≤ length (take most ys) → take most (ys ++ x ∷ []) ≡ take most ys
front_full most ys x le = let l = length-take most ys in take-append-le most ys (x ∷ []) (omega arith)

-- a full front takes no more
pub front_stays : {A : Type 0} (most : ℕ) (ys zs : List A) → most ≤ length (take most ys) → take most ys ≡ take most (ys ++ zs)
front_stays most ys zs le = let l = length-take most ys in sym (take-append-le most ys zs (omega arith))

-- the front of a front with more after it
pub front_twice : {A : Type 0} (most : ℕ) (ys zs : List A) → take most (take most ys ++ zs) ≡ take most (ys ++ zs)
front_twice most ys zs =
    elim (by_test (nat_lt (length ys) most)) [
      | inl is ↦ (let few : length ys ≤ most = grind (arith, nat_tests, is) in rw (take_all most ys few) refl)
      | inr not ↦ (let l = length-take most ys in let many : most ≤ length ys = grind (arith, nat_tests, not) in
          let full : most ≤ length (take most ys) = omega arith in
          take-append-le most (take most ys) zs full ∙ take_all most (take most ys) (omega arith) ∙ sym (take-append-le most ys zs many))
    ]

-- what is put after need be no longer than the front
pub front_after : {A : Type 0} (most many : ℕ) (ys zs : List A) → most ≤ many → take most (ys ++ take many zs) ≡ take most (ys ++ zs)
front_after zero many ys zs le = refl
front_after (suc most) zero ys zs le = absurd (omega arith)
front_after (suc most) (suc many) [] [] le = refl
front_after (suc most) (suc many) [] (z ∷ zs) le = ap (λ rest. z ∷ rest) (front_after most many [] zs (omega arith))
front_after (suc most) (suc many) (y ∷ ys) zs le = ap (λ rest. y ∷ rest) (front_after most (suc many) ys zs (omega arith))

-- a front is no longer than it may be
pub front_short : {A : Type 0} (most : ℕ) (ys found : List A) → found ≡ take most ys → length found ≤ most
front_short most ys found is = let l = length-take most ys in rw is (omega arith)

-- a row of a table: it is shown, there is no room, or it doesn't pass
pub shown_more : {A : Type 0} (p : A → Bool) (most : ℕ) (xs : List A) (i : ℕ) (x : A) (found : List A) → i < length xs → x ≡ get_or xs i x
    → found ≡ take most (filter p (take i xs)) → p x ≡ true → length found < most → found ++ x ∷ [] ≡ take most (filter p (take (i + 1) xs))
shown_more p most xs i x found lt at' is passes room =
    rw (filter_more p xs i x lt at' passes) (ap (λ front. front ++ x ∷ []) is ∙ sym (front_more most (filter p (take i xs)) x (rw is at room)))

pub shown_full : {A : Type 0} (p : A → Bool) (most : ℕ) (xs : List A) (i : ℕ) (x : A) (found : List A) → i < length xs → x ≡ get_or xs i x
    → found ≡ take most (filter p (take i xs)) → p x ≡ true → most ≤ length found → found ≡ take most (filter p (take (i + 1) xs))
shown_full p most xs i x found lt at' is passes full =
    rw (filter_more p xs i x lt at' passes) (is ∙ sym (front_full most (filter p (take i xs)) x (rw is at full)))

pub shown_less : {A : Type 0} (p : A → Bool) (most : ℕ) (xs : List A) (i : ℕ) (x : A) (found : List A) → i < length xs → x ≡ get_or xs i x
    → found ≡ take most (filter p (take i xs)) → p x ≡ false → found ≡ take most (filter p (take (i + 1) xs))
shown_less p most xs i x found lt at' is fails = rw (filter_less p xs i x lt at' fails) is

-- the greatest of numbers with one more
pub greatest_more : (ys : List ℕ) (y : ℕ) → greatest_of (ys ++ y ∷ []) ≡ max (greatest_of ys) y
greatest_more [] y = omega arith
greatest_more (x ∷ ys) y = let e = greatest_more ys y in omega arith

-- the same row as something is made of each
pub made_at : {A B : Type 0} (f : A → B) (xs : List A) (i : ℕ) (x : A) → i < length xs → x ≡ get_or xs i x → f x ≡ get_or (map f xs) i (f x)
made_at f xs i x lt at' = ap f at' ∙ sym (get_or-map f xs i x (f x) lt)

pub made_long : {A B : Type 0} (f : A → B) (xs : List A) (i : ℕ) → i < length xs → i < length (map f xs)
made_long f xs i lt = simp length-map lt

-- the same of what is made of each row
pub made_shown : {A B : Type 0} (f : A → B) (p : B → Bool) (most : ℕ) (xs : List A) (i : ℕ) (x : A) (y : B) (found : List B) → i < length xs → x ≡ get_or xs i x → y ≡ f x
    → found ≡ take most (filter p (take i (map f xs))) → p y ≡ true → length found < most → found ++ y ∷ [] ≡ take most (filter p (take (i + 1) (map f xs)))
made_shown f p most xs i x y found lt at' made is passes room =
    shown_more p most (map f xs) i y found (made_long f xs i lt) (rw made (made_at f xs i x lt at')) is passes room

pub made_full : {A B : Type 0} (f : A → B) (p : B → Bool) (most : ℕ) (xs : List A) (i : ℕ) (x : A) (y : B) (found : List B) → i < length xs → x ≡ get_or xs i x → y ≡ f x
    → found ≡ take most (filter p (take i (map f xs))) → p y ≡ true → most ≤ length found → found ≡ take most (filter p (take (i + 1) (map f xs)))
made_full f p most xs i x y found lt at' made is passes full =
    shown_full p most (map f xs) i y found (made_long f xs i lt) (rw made (made_at f xs i x lt at')) is passes full

pub made_less : {A B : Type 0} (f : A → B) (p : B → Bool) (most : ℕ) (xs : List A) (i : ℕ) (x : A) (y : B) (found : List B) → i < length xs → x ≡ get_or xs i x → y ≡ f x
    → found ≡ take most (filter p (take i (map f xs))) → p y ≡ false → found ≡ take most (filter p (take (i + 1) (map f xs)))
made_less f p most xs i x y found lt at' made is fails =
    shown_less p most (map f xs) i y found (made_long f xs i lt) (rw made (made_at f xs i x lt at')) is fails

-- at the end all were looked at
pub made_all : {A B : Type 0} (f : A → B) (xs : List A) (i : ℕ) → length xs ≤ i → take i (map f xs) ≡ map f xs
made_all f xs i le = take_all i (map f xs) (simp length-map le)

-- as many as there are rows leave nothing out
pub whole_filter : {A B : Type 0} (f : A → B) (p : B → Bool) (xs : List A) (n : ℕ) → n ≡ length xs → take n (filter p (map f xs)) ≡ filter p (map f xs)
whole_filter f p xs n is = take_all n (filter p (map f xs)) (let few = filter_few p (map f xs) in let l = length-map xs f in omega arith)

pub whole_list : {A B : Type 0} (f : A → B) (xs : List A) (n : ℕ) → n ≡ length xs → take n (filter (λ _. true) (map f xs)) ≡ map f xs
whole_list f xs n is = whole_filter f (λ _. true) xs n is ∙ filter_every (map f xs)

-- the greatest of what is reported of the rows that pass
pub greatest_passed : {A : Type 0} (f : A → ℕ) (p : A → Bool) (xs : List A) (i : ℕ) (x : A) (most : ℕ) → i < length xs → x ≡ get_or xs i x → most ≡ greatest_of (map f (filter p (take i xs)))
    → p x ≡ true → max most (f x) ≡ greatest_of (map f (filter p (take (i + 1) xs)))
greatest_passed f p xs i x most lt at' is passes =
    rw (filter_more p xs i x lt at' passes, map-append f (filter p (take i xs)) (x ∷ []), greatest_more (map f (filter p (take i xs))) (f x)) (ap (λ m. max m (f x)) is)

pub greatest_left : {A : Type 0} (f : A → ℕ) (p : A → Bool) (xs : List A) (i : ℕ) (x : A) (most : ℕ) → i < length xs → x ≡ get_or xs i x → most ≡ greatest_of (map f (filter p (take i xs)))
    → p x ≡ false → most ≡ greatest_of (map f (filter p (take (i + 1) xs)))
greatest_left f p xs i x most lt at' is fails = rw (filter_less p xs i x lt at' fails) is

pub map_twice : {A B C : Type 0} (g : B → C) (f : A → B) (xs : List A) → map (λ x. g (f x)) xs ≡ map g (map f xs)
map_twice g f [] = refl
map_twice g f (x ∷ xs) = ap (λ rest. g (f x) ∷ rest) (map_twice g f xs)
