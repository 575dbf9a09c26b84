-- A change of the row of one number is a change at its place.
use Rattle.std.proofs.Common.{◌≡◌, ◌≢◌, ℕ, suc, zero, ◌+◌, ◌-◌, ◌≤◌, ◌<◌, List, [], ◌∷◌, length, map, get_or, set, refl, ◌∙◌, ap, sym, arith}
use Rattle.std.proofs.Common.{Bor, Option, Some, None, inl, inr, ◌⊎◌}
use Rattle.std.specs.Prelude.{◌==◌, find, slice_get}
use Rattle.std.specs.Option.{option_copied}
use Rattle.std.specs.Slice.{IsItemAt}
use Rattle.std.proofs.lemmas.Option.{slice_get_past, slice_get_read}
use Rattle.house_rows.specs.Keeping.{AreInTurn}
use Rattle.list_items.proofs.Joined.{found_at}

-- no row has the number
pub changed_none : {A : Type 0} (number : A → ℕ) (f : A → A) (next i : ℕ) (rows : List A) → AreInTurn number next rows → ((x : A) → number x ≢ i → f x ≡ x) → i < next → map f rows ≡ rows
changed_none number f next i [] are same lt = refl
changed_none number f next i (x ∷ xs) are same lt =
    let first : number x ≡ next = are.0 in
    rw (same x (let ne : number x ≢ i = omega arith in ne), changed_none number f (next + 1) i xs are.1 same (omega arith)) refl

pub changed_past : {A : Type 0} (number : A → ℕ) (f : A → A) (next i : ℕ) (rows : List A) → AreInTurn number next rows → ((x : A) → number x ≢ i → f x ≡ x) → next + length rows ≤ i → map f rows ≡ rows
changed_past number f next i [] are same le = refl
changed_past number f next i (x ∷ xs) are same le =
    let first : number x ≡ next = are.0 in
    let long : length (x ∷ xs) ≡ length xs + 1 = omega arith in
    rw (same x (let ne : number x ≢ i = omega arith in ne), changed_past number f (next + 1) i xs are.1 same (omega arith)) refl

-- the row at its place changes alone
pub changed_at : {A : Type 0} (number : A → ℕ) (f : A → A) (next place : ℕ) (rows : List A) (d : A) → AreInTurn number next rows → ((x : A) → number x ≢ next + place → f x ≡ x) → place < length rows
    → map f rows ≡ set rows place (f (get_or rows place d))
changed_at number f next place [] d are same lt = absurd (omega arith)
changed_at number f next zero (x ∷ xs) d are same lt =
    ap (λ rest. f x ∷ rest) (changed_none number f (next + 1) (next + 0) xs are.1 same (omega arith))
changed_at number f next (suc place) (x ∷ xs) d are same lt =
    let first : number x ≡ next = are.0 in
    let e : next + suc place ≡ (next + 1) + place = omega arith in
    rw (same x (let ne : number x ≢ next + suc place = omega arith in ne)) (ap (λ rest. x ∷ rest) (changed_at number f (next + 1) place xs d are.1 (rw e at same) (let long : length (x ∷ xs) ≡ length xs + 1 = omega arith in omega arith)))

-- the row of a number, changed where it is
pub placed : {A : Type 0} (number : A → ℕ) (f : A → A) (rows : List A) (place i : ℕ) (row new : A) → AreInTurn number 1 rows → ((x : A) → number x ≢ i → f x ≡ x) → place < length rows → place + 1 ≡ i
    → row ≡ get_or rows place row → new ≡ f row → set rows place new ≡ map f rows
placed number f rows place i row new are same lt here at' made =
    let e : i ≡ 1 + place = omega arith in
    ap (λ r. set rows place r) (made ∙ ap f at') ∙ sym (changed_at number f 1 place rows row are (λ x apart. same x (λ is. apart (is ∙ e))) lt)

-- where there is no row of the number, nothing changes
pub unplaced : {A : Type 0} (number : A → ℕ) (f : A → A) (rows : List A) (i : ℕ) → AreInTurn number 1 rows → ((x : A) → number x ≢ i → f x ≡ x) → (i ≡ 0) ⊎ (length rows < i) → rows ≡ map f rows
unplaced number f rows i are same none =
    elim none [ inl zero' ↦ sym (changed_none number f 1 i rows are same (omega arith)) | inr past ↦ sym (changed_past number f 1 i rows are same (omega arith)) ]

-- what a look-up by place finds
pub item_copied : {A : Type 0} (xs : List A) (i : ℕ) (r : Option (Bor A)) → IsItemAt xs i r → option_copied r ≡ slice_get xs i
item_copied xs i None is = sym (slice_get_past xs i is.3)
item_copied xs i (Some x) is = sym (slice_get_read xs (length xs) i x.now refl is.3.0 is.1)

-- a look-up at its place finds the row of a number
pub entry_at : {A : Type 0} (number : A → ℕ) (rows : List A) (k place : ℕ) (r : Option (Bor A)) → AreInTurn number 1 rows → 1 ≤ k → place ≡ k - 1 → IsItemAt rows place r → option_copied r ≡ find (λ row. number row == k) rows
entry_at number rows k place r are le here is =
    let e : k ≡ 1 + place = omega arith in
    item_copied rows place r is ∙ sym (found_at number 1 rows place are) ∙ ap (λ n. find (λ row. number row == n) rows) (sym e)
