-- Lists that belong together, element by element.
use Rattle.std.proofs.Common.{◌≡◌, ◌≢◌, ◌∙◌, ◌<◌, ◌≤◌, ◌+◌, ◌++◌, ◌∷◌, [], ℕ, zero, suc, List, get_or, length, map, take, ap, refl, sym, arith}
use Rattle.std.specs.List.{AllZip}
use Rattle.std.proofs.lemmas.List.{length-map, length-take, map-append, take_more}

pub zip_length : {A B : Type 0} (R : A → B → Type 0) (xs : List A) (ys : List B) → AllZip R xs ys
    → length ys ≡ length xs
zip_length R [] [] h = refl
zip_length R [] (y ∷ ys) h = absurd h
zip_length R (x ∷ xs) [] h = absurd h
zip_length R (x ∷ xs) (y ∷ ys) h = ap suc (zip_length R xs ys h.1)

-- the first so many belong together too
pub zip_take : {A B : Type 0} (R : A → B → Type 0) (n : ℕ) (xs : List A) (ys : List B)
    → AllZip R xs ys → AllZip R (take n xs) (take n ys)
zip_take R zero xs ys h = tt
zip_take R (suc n) [] [] h = tt
zip_take R (suc n) [] (y ∷ ys) h = absurd h
zip_take R (suc n) (x ∷ xs) [] h = absurd h
zip_take R (suc n) (x ∷ xs) (y ∷ ys) h = (h.0, zip_take R n xs ys h.1)

-- one more element has one more that belongs to it
pub zip_last : {A B : Type 0} (R : A → B → Type 0) (xs : List A) (x : A) (ys : List B)
    → AllZip R (xs ++ x ∷ []) ys
    → (front : List B) × (y : B) × (ys ≡ front ++ y ∷ []) × AllZip R xs front × R x y
zip_last R [] x [] h = absurd h
zip_last R [] x (y ∷ []) h = ([], y, refl, tt, h.0)
zip_last R [] x (y ∷ z ∷ ys) h = absurd h.1
zip_last R (a ∷ xs) x [] h = absurd h
zip_last R (a ∷ xs) x (y ∷ ys) h =
    let (front, last, e, before, here) = zip_last R xs x ys h.1 in
    (y ∷ front, last, ap (λ l. y ∷ l) e, (h.0, before), here)

pub map_take : {A B : Type 0} (f : A → B) (n : ℕ) (xs : List A)
    → map f (take n xs) ≡ take n (map f xs)
map_take f zero xs = refl
map_take f (suc n) [] = refl
map_take f (suc n) (x ∷ xs) = ap (λ l. f x ∷ l) (map_take f n xs)

-- one more element, as it is read
pub next_read : {A B : Type 0} (f : A → B) (n : ℕ) (xs : List A) (x : A) (y : B) → n < length xs
    → x ≡ get_or xs n x → y ≡ f x → take (n + 1) (map f xs) ≡ take n (map f xs) ++ y ∷ []
next_read f n xs x y lt is e =
    sym (map_take f (n + 1) xs) ∙ ap (map f) (take_more xs n x lt)
    ∙ map-append f (take n xs) (get_or xs n x ∷ [])
    ∙ ap (λ l. l ++ f (get_or xs n x) ∷ []) (map_take f n xs)
    ∙ ap (λ z. take n (map f xs) ++ z ∷ []) (ap f (sym is) ∙ sym e)

-- of two lists one has a next element and the other has none
pub ends_apart : {A B : Type 0} (f : A → B) (n : ℕ) (xs ys : List A) → n < length xs
    → length ys ≤ n → length (take (n + 1) (map f xs)) ≢ length (take (n + 1) (map f ys))
ends_apart f n xs ys lt ended same =
    omega (
      arith,
      length-take (n + 1) (map f xs),
      length-take (n + 1) (map f ys),
      length-map xs f,
      length-map ys f,
      lt,
      ended,
      same,
    )
