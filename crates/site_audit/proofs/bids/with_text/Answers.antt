use Rattle.std.proofs.Common.{◌≡◌, ◌∙◌, ◌≤◌, ◌-◌, ◌++◌, ◌∷◌, [], ℕ, zero, suc, List, ap, arith, drop, length, map, refl, set, subst, sym, take}
use Rattle.std.specs.List.{AllZip}
use Rattle.std.proofs.lemmas.List.{length-map, map-set, set_split}
use Rattle.house_laws.specs.Covered.{raised}
use Rattle.site_audit.proofs.bids.with_text.Goals as goal

bytes_same : (xs ys : List ℕ) → AllZip (λ x y. y ≡ x) xs ys → ys ≡ xs
bytes_same [] [] all = refl
bytes_same [] (y ∷ ys) all = absurd all
bytes_same (x ∷ xs) [] all = absurd all
bytes_same (x ∷ xs) (y ∷ ys) all =
    ap (λ b. b ∷ ys) all.0 ∙ ap (λ l. x ∷ l) (bytes_same xs ys all.1)

-- copies are what they copy, as f sees them
copies_same : {A : Type 0} (f : A → List ℕ) (R : A → A → Type 0)
    → ((x y : A) → R x y → f y ≡ f x) → (xs ys : List A) → AllZip R xs ys → map f ys ≡ map f xs
copies_same f R same [] [] all = refl
copies_same f R same [] (y ∷ ys) all = absurd all
copies_same f R same (x ∷ xs) [] all = absurd all
copies_same f R same (x ∷ xs) (y ∷ ys) all =
    ap (λ t. t ∷ map f ys) (same x y all.0)
    ∙ ap (λ l. f x ∷ l) (copies_same f R same xs ys all.1)

raised_is : {A : Type 0} (place : ℕ) (x : A) (xs : List A) → 1 ≤ place → place ≤ length xs
    → set xs (place - 1) x ≡ raised place x xs
raised_is zero x xs first last = absurd (omega (arith, first))
raised_is (suc i) x xs first last =
    let here : suc i - 1 ≡ i = omega arith in
    subst (λ k. set xs k x ≡ take k xs ++ x ∷ drop (suc i) xs) (sym here)
    (set_split xs i x (omega (arith, last)))

pub returns : goal.returns
returns c =
    let texts = c.args.messages.now in
    let list = c.in_ok-list.list.items in
    let same : map (λ m. m.items) list ≡ map (λ m. m.items) texts =
    copies_same (λ m. m.items) _ (λ x y copy. bytes_same x.items y.items copy.0) texts list
    c.in_ok-list.ensures.ok in
    map-set (λ m. m.items) list (c.args.place - 1) c.args.text
    ∙ (ap (λ l. set l (c.args.place - 1) c.args.text.items) same
    ∙ raised_is c.args.place c.args.text.items (map (λ m. m.items) texts) c.requires.place.0
    (omega (arith, c.requires.place.1, length-map texts (λ m. m.items))))
