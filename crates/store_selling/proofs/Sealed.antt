-- A reserve that comes to the rows.
use Rattle.std.proofs.Common.{◌≡◌, ◌≢◌, ◌<◌, ℕ, true, false, List, [], ◌∷◌, ◌++◌, map, Option, Some, None, refl, ap, ap₂, sym, subst, ◌∙◌, arith, inl, inr, true≢false}
use Rattle.std.specs.Prelude.{◌==◌, All, if◌then◌else◌}
use Rattle.std.specs.List.{AllByRecursion}
use Rattle.std.proofs.lemmas.Bool.Decides.{nat_tests}
use Rattle.std.proofs.lemmas.List.Elements.{recursion_from_All}
use Rattle.sqlite_value.specs.Order.{Row, column}
use Rattle.proxy.specs.Kept.{Kept}
use Rattle.house_rows.specs.Tables.{ItemRow}
use Rattle.house_rows.proofs.Put.{by_test}
use Rattle.store_rows.specs.declared.reserve.ReserveRow.{ReserveRow}
use Rattle.store_rows.specs.ItemRows.{amount_of, item_columns, item_of, item_row_in, item_row_with, item_with, kept_from}
use Rattle.store_rows.specs.Rows.{maybe_number_in, number_in}

-- a reserve at the end is that of its item
amount_new : (reserves : List ReserveRow) (r : ReserveRow) → amount_of reserves r.item ≡ None → amount_of (reserves ++ r ∷ []) r.item ≡ Some r.amount
amount_new [] r none = let here : (r.item == r.item) ≡ true = grind (arith, nat_tests) in rw here refl
amount_new (s ∷ reserves) r none =
    elim (by_test (s.item == r.item)) [
      | inl here ↦ absurd (let e : Some s.amount ≡ None = rw here at none in cc)
      | inr other ↦ rw other (amount_new reserves r (rw other at none))
    ]

-- and leaves every other item its own
amount_more : (reserves : List ReserveRow) (r : ReserveRow) (n : ℕ) → r.item ≢ n → amount_of (reserves ++ r ∷ []) n ≡ amount_of reserves n
amount_more [] r n apart = let other : (r.item == n) ≡ false = grind (arith, nat_tests, apart) in rw other refl
amount_more (s ∷ reserves) r n apart =
    elim (by_test (s.item == n)) [
      | inl here ↦ rw here refl
      | inr other ↦ rw other (amount_more reserves r n apart)
    ]

-- ---- a reserve that comes to a row

-- a row with a reserve
abbrev pub sealed_row : ℕ → ItemRow → ItemRow
sealed_row amount row = record { item = item_with (Some amount) row.standing.top row.item; standing = record row.standing { reserve = Some amount } }

kept_sealed : (start : ℕ) (reserve : Option ℕ) (amount at : ℕ) (led top next : Option ℕ) (count : ℕ) → kept_from start (Some amount) at led top next count ≡ record (kept_from start reserve at led top next count) { reserve = Some amount }
kept_sealed start reserve amount at None top next count = refl
kept_sealed start reserve amount at (Some l) None next count = refl
kept_sealed start reserve amount at (Some l) (Some t) next count = refl

top_kept : (start : ℕ) (reserve : Option ℕ) (at : ℕ) (led top next : Option ℕ) (count : ℕ) → top ≡ (kept_from start reserve at led top next count).top
top_kept start reserve at None top next count = refl
top_kept start reserve at (Some l) None next count = refl
top_kept start reserve at (Some l) (Some t) next count = refl

with_sealed : (reserve : Option ℕ) (amount : ℕ) (r : Row) → item_row_with (Some amount) r ≡ sealed_row amount (item_row_with reserve r)
with_sealed reserve amount r =
    let start = number_in (column r 7) in
    let at = number_in (column r 12) in
    let led = maybe_number_in (column r 13) in
    let top = maybe_number_in (column r 14) in
    let next = maybe_number_in (column r 15) in
    let count = number_in (column r 16) in
    ap₂ (λ (t : Option ℕ) (k : Kept). record { item = item_with (Some amount) t (item_of (item_columns r)); standing = k })
    (top_kept start reserve at led top next count) (kept_sealed start reserve amount at led top next count)

-- the row of one item has the reserve, each other is as it was
abbrev pub seal : ReserveRow → ItemRow → ItemRow
seal x row = if row.item.terms.item == x.item then sealed_row x.amount row else row

row_sealed : (reserves : List ReserveRow) (x : ReserveRow) (r : Row) → amount_of reserves x.item ≡ None → item_row_in (reserves ++ x ∷ []) r ≡ seal x (item_row_in reserves r)
row_sealed reserves x r none =
    let n : ℕ = number_in (column r 0) in
    elim (by_test (n == x.item)) [
      | inl here ↦ (let at : n ≡ x.item = grind (arith, nat_tests, here) in
          let now : amount_of (reserves ++ x ∷ []) n ≡ Some x.amount = subst (λ (m : ℕ). amount_of (reserves ++ x ∷ []) m ≡ Some x.amount) (sym at) (amount_new reserves x none) in
          rw here (ap (λ (o : Option ℕ). item_row_with o r) now ∙ with_sealed (amount_of reserves n) x.amount r))
      | inr other ↦ (let apart : x.item ≢ n = λ e. (let here : (n == x.item) ≡ true = grind (arith, nat_tests, e) in true≢false (sym here ∙ other)) in
          rw other (ap (λ (o : Option ℕ). item_row_with o r) (amount_more reserves x n apart)))
    ]

pub all_sealed : (reserves : List ReserveRow) (x : ReserveRow) (rows : List Row) → amount_of reserves x.item ≡ None → map (item_row_in (reserves ++ x ∷ [])) rows ≡ map (seal x) (map (item_row_in reserves) rows)
all_sealed reserves x [] none = refl
all_sealed reserves x (r ∷ rows) none = ap₂ (λ (a : ItemRow) (l : List ItemRow). a ∷ l) (row_sealed reserves x r none) (all_sealed reserves x rows none)

unsealed : (x : ReserveRow) (rows : List ItemRow) → AllByRecursion (λ row. row.item.terms.item < x.item) rows → map (seal x) rows ≡ rows
unsealed x [] below = refl
unsealed x (row ∷ rows) below =
    let first : row.item.terms.item < x.item = below.0 in
    let other : (row.item.terms.item == x.item) ≡ false = grind (arith, nat_tests) in
    rw (other, unsealed x rows below.1) refl

-- rows with lesser numbers are as they were
pub none_sealed : (x : ReserveRow) (rows : List ItemRow) → All (λ row. row.item.terms.item < x.item) rows → map (seal x) rows ≡ rows
none_sealed x rows below = unsealed x rows (recursion_from_All (λ (row : ItemRow). row.item.terms.item < x.item) rows below)
