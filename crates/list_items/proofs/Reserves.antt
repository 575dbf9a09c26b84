-- A member's reserves, from number to number.
use Rattle.std.proofs.Common.{◌≡◌, ℕ, ◌+◌, ◌≤◌, ◌<◌, List, [], ◌∷◌, ◌++◌, length, take, drop, filter, get_or, true, false, refl, ◌∙◌, ap, sym, arith, inl, inr, Option, Some, None}
use Rattle.std.specs.Prelude.{◌==◌, ◌&&◌, find, is_some, nat_le, option_and_then}
use Rattle.std.specs.List.{AllByRecursion, filter_map}
use Rattle.std.proofs.lemmas.List.{append-nil, length-take, take-append-drop, take-append-le}
use Rattle.std.proofs.lemmas.List.Elements.{filter_map-append}
use Rattle.house_rows.specs.Found.{own_reserves, reserves_in}
use Rattle.house_rows.specs.Keeping.{AreInTurn}
use Rattle.house_rows.specs.Limits.{most_shown}
use Rattle.house_rows.specs.Pages.{met_in}
use Rattle.house_rows.specs.Tables.{ItemRow, Tables}
use Rattle.house_rows.proofs.Put.{by_test}
use Rattle.list_items.specs.Indexed.{number_of, seller_of}
use Rattle.list_items.specs.Reserves.{reserve_with}
use Rattle.list_items.specs.Rising.{HasAll, IsRisingFrom, is_among, rows_at}
use Rattle.list_items.proofs.Fronts.{among_filter, rising_filter, rows_less, rows_more}
use Rattle.list_items.proofs.Joined.{both_ways, joined, same_number}

-- what is made of the rows of some numbers
abbrev pub made_at : {A B : Type 0} → (A → Option B) → (A → ℕ) → List A → List ℕ → List B
made_at make number rows ks = filter_map make (rows_at number ks rows)

-- a number's row makes one more, or none
pub made_more : {A B : Type 0} (make : A → Option B) (number : A → ℕ) (rows : List A) (ks : List ℕ) (i k : ℕ) (y : B) → i < length ks → k ≡ get_or ks i 0 → Some y ≡ option_and_then make (find (λ row. number row == k) rows)
    → made_at make number rows (take (i + 1) ks) ≡ made_at make number rows (take i ks) ++ y ∷ []
made_more {A = A} {B = B} make number rows ks i k y lt at' some = by_row (find (λ row. number row == k) rows) refl some where
  nothing : {B : Type 0} (y : B) → Some y ≡ None → ⊥
  nothing y e = cc

  by_row : (o : Option A) → find (λ row. number row == k) rows ≡ o → Some y ≡ option_and_then make o → made_at make number rows (take (i + 1) ks) ≡ made_at make number rows (take i ks) ++ y ∷ []
  by_row None is some = absurd (nothing y some)
  by_row (Some row) is some =
      ap (filter_map make) (rows_more number ks i k rows row lt at' is)
      ∙ filter_map-append make (rows_at number (take i ks) rows) (row ∷ []) ∙ rw (← some) refl

pub made_none : {A B : Type 0} (make : A → Option B) (number : A → ℕ) (rows : List A) (ks : List ℕ) (i k : ℕ) → i < length ks → k ≡ get_or ks i 0 → None ≡ option_and_then make (find (λ row. number row == k) rows)
    → made_at make number rows (take (i + 1) ks) ≡ made_at make number rows (take i ks)
made_none {A = A} {B = B} make number rows ks i k lt at' none = by_row (find (λ row. number row == k) rows) refl none where
  by_row : (o : Option A) → find (λ row. number row == k) rows ≡ o → None ≡ option_and_then make o → made_at make number rows (take (i + 1) ks) ≡ made_at make number rows (take i ks)
  by_row None is none = ap (filter_map make) (rows_less number ks i k rows lt at' is)
  by_row (Some row) is none =
      ap (filter_map make) (rows_more number ks i k rows row lt at' is)
      ∙ filter_map-append make (rows_at number (take i ks) rows) (row ∷ []) ∙ rw (← none) (append-nil (made_at make number rows (take i ks)))

-- a full page is the front of what all the numbers make
pub made_full : {A B : Type 0} (make : A → Option B) (number : A → ℕ) (rows : List A) (ks : List ℕ) (i most : ℕ) (found : List B) → found ≡ take most (made_at make number rows (take i ks)) → most ≤ length found
    → found ≡ take most (made_at make number rows ks)
made_full make number rows ks i most found is full =
    let front = made_at make number rows (take i ks) in
    let long : most ≤ length front = (let l = length-take most front in let f : length found ≡ length (take most front) = ap length is in omega arith) in
    let split : made_at make number rows ks ≡ front ++ made_at make number rows (drop i ks) =
    ap (made_at make number rows) (sym (take-append-drop i ks))
    ∙ ap (filter_map make) (filter_map-append (λ j. find (λ row. number row == j) rows) (take i ks) (drop i ks))
    ∙ filter_map-append make (rows_at number (take i ks) rows) (rows_at number (drop i ks) rows) in
    is ∙ sym (take-append-le most front (made_at make number rows (drop i ks)) long) ∙ ap (take most) (sym split)

-- only the rows that make one count
made_kept : {A B : Type 0} (make : A → Option B) (xs : List A) → filter_map make xs ≡ filter_map make (filter (λ x. is_some (make x)) xs)
made_kept make [] = refl
made_kept {A = A} {B = B} make (x ∷ xs) = by_made (make x) refl (made_kept make xs) where
  by_made : (o : Option B) → make x ≡ o → filter_map make xs ≡ filter_map make (filter (λ x. is_some (make x)) xs) → filter_map make (x ∷ xs) ≡ filter_map make (filter (λ x. is_some (make x)) (x ∷ xs))
  by_made None is rest = rw is rest
  by_made (Some y) is rest = rw is (rw is (ap (λ more. y ∷ more) rest))

-- they are those that pages give
reserves_reported : (member from : ℕ) (rows : List ItemRow)
    → filter_map (reserve_with member from) rows ≡ filter (λ r. nat_le from r.item) (reserves_in (filter (λ row. row.item.terms.seller == member) rows))
reserves_reported member from [] = refl
reserves_reported member from (row ∷ rows) = by_reserve row.standing.reserve refl (reserves_reported member from rows) where
  by_reserve : (o : Option ℕ) → row.standing.reserve ≡ o
      → filter_map (reserve_with member from) rows ≡ filter (λ r. nat_le from r.item) (reserves_in (filter (λ row. row.item.terms.seller == member) rows))
      → filter_map (reserve_with member from) (row ∷ rows) ≡ filter (λ r. nat_le from r.item) (reserves_in (filter (λ row. row.item.terms.seller == member) (row ∷ rows)))
  by_reserve None is rest = elim (by_test (row.item.terms.seller == member)) [
    | inl mine ↦ elim (by_test (nat_le from row.item.terms.item)) [ inl above ↦ rw (mine, above, is) rest | inr below ↦ rw (mine, below, is) rest ]
    | inr other ↦ rw other rest
  ]
  by_reserve (Some r) is rest = elim (by_test (row.item.terms.seller == member)) [
    | inl mine ↦ elim (by_test (nat_le from row.item.terms.item)) [
      | inl above ↦ rw (mine, above, is) (rw above (ap (λ more. record { item = row.item.terms.item; met = met_in row.item.terms; reserve = r } ∷ more) rest))
      | inr below ↦ rw (mine, below, is) (rw below rest)
    ]
    | inr other ↦ rw other rest
  ]

-- what such a reserve is of
reserve_tests : (member from : ℕ) (row : ItemRow) → is_some (reserve_with member from row) ≡ true → ((row.item.terms.seller == member) ≡ true) × (nat_le from row.item.terms.item ≡ true)
reserve_tests member from row some =
    elim (by_test (row.item.terms.seller == member)) [
      | inl mine ↦ elim (by_test (nat_le from row.item.terms.item)) [
        | inl above ↦ (mine, above)
        | inr below ↦ absurd (both_ways false (rw (mine, below) at some) refl)
      ]
      | inr other ↦ absurd (both_ways false (rw other at some) refl)
    ]

-- a seller's numbers, from one on, have every item with such a reserve
own_has : (rows : List ItemRow) (sold_by : ℕ → List ℕ) (member from : ℕ) → AllByRecursion (λ row. is_among (sold_by (seller_of row)) (number_of row) ≡ true) rows
    → HasAll number_of (λ row. is_some (reserve_with member from row)) (filter (nat_le from) (sold_by member)) rows
own_has [] sold_by member from has = tt
own_has (row ∷ rows) sold_by member from has = (
  λ passes.
      let tests = reserve_tests member from row passes in
      let mine : row.item.terms.seller ≡ member = same_number row.item.terms.seller member tests.0 in
      among_filter (nat_le from) (sold_by member) (number_of row) (rw mine at has.0) tests.1,
  own_has rows sold_by member from has.1,
)

-- at the end the reserves are those that a search of all rows would find
pub reserves_all : (t : Tables) (rows : List ItemRow) (sold_by : ℕ → List ℕ) (member from : ℕ) → t.items ≡ rows → AreInTurn number_of 1 rows → IsRisingFrom 0 (sold_by member)
    → AllByRecursion (λ row. is_among (sold_by (seller_of row)) (number_of row) ≡ true) rows
    → take most_shown (made_at (reserve_with member from) number_of rows (filter (nat_le from) (sold_by member))) ≡ own_reserves t member from
reserves_all t rows sold_by member from same are rising has =
    let make = reserve_with member from in
    let ks : List ℕ = filter (nat_le from) (sold_by member) in
    ap (take most_shown) (
    made_kept make (rows_at number_of ks rows)
    ∙ ap (filter_map make) (sym (joined number_of (λ row. is_some (make row)) rows ks are (rising_filter (nat_le from) 0 (sold_by member) rising) (own_has rows sold_by member from has)))
    ∙ sym (made_kept make rows) ∙ reserves_reported member from rows)
    ∙ ap (λ rs. take most_shown (filter (λ r. nat_le from r.item) (reserves_in (filter (λ row. row.item.terms.seller == member) rs)))) (sym same)
