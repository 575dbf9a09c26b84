-- A row at its place, a test of a table row by row, and a row column by column.
use Rattle.std.proofs.Common.{◌≡◌, ◌≢◌, ℕ, zero, suc, ◌+◌, ◌<◌, true, false, List, [], ◌∷◌, ◌++◌, length, get_or, take, drop, set, map, Ordering, Less, Equal, Greater, true≢false, refl, sym, ap, ◌∙◌, arith, add-one, drop-cons, length-take-le}
use Rattle.std.specs.Prelude.{ℤ, ◌&&◌, insert}
use Rattle.std.specs.Ordering.{match_ordering, is_eq}
use Rattle.std.specs.Cmp.{Equal-is}
use Rattle.std.proofs.lemmas.List.{take_more}
use Rattle.sqlite_value.specs.declared.value.Value.TheVariants.{Null, Int, Real, Text, Blob}
use Rattle.sqlite_value.specs.Order.{Row, column, value_cmp}
use Rattle.sqlite_trees.specs.Tree.{rowid, put_row}
use Rattle.sqlite_trees.specs.View.{is_int}
use Rattle.tree_order.specs.Place.{IsPlace, IsTaken}
use Rattle.tree_order.specs.Rows.{shifted, renumbered_row, is_before, is_table, in_order}

later : (new r : Row) (rows : List Row) (at : ℕ) → IsPlace new (r ∷ rows) (suc at) → IsPlace new rows at
later new r rows at h = record { within = omega (arith, h.within); below = λ k low. h.below (suc k) (omega arith); there = λ low. h.there (omega arith) }

pub put_there : (new : Row) (rows : List Row) (at : ℕ) → IsPlace new rows at → IsTaken new rows at false
    → put_row new rows ≡ insert rows at new
put_there new [] zero h apart = refl
put_there new [] (suc at) h apart = absurd (omega (arith, h.within))
put_there new (r ∷ rows) zero h apart = go (value_cmp (rowid r) (rowid new)) refl
  where
    go : (o : Ordering) → value_cmp (rowid r) (rowid new) ≡ o → match_ordering o (r ∷ put_row new rows) (new ∷ rows) (new ∷ r ∷ rows) ≡ new ∷ r ∷ rows
    go Less e = absurd (h.there (omega arith) e)
    go Equal e = absurd (true≢false (sym (ap is_eq e) ∙ apart (omega arith)))
    go Greater e = refl
put_there new (r ∷ rows) (suc at) h apart =
    ap (λ o. match_ordering o (r ∷ put_row new rows) (new ∷ rows) (new ∷ r ∷ rows)) (h.below 0 (omega arith))
    ∙ ap (λ l. r ∷ l) (put_there new rows at (later new r rows at h) (λ low. apart (omega arith)))

pub put_over : (new : Row) (rows : List Row) (at : ℕ) → IsPlace new rows at → IsTaken new rows at true
    → put_row new rows ≡ set rows at new
put_over new [] at h taken = let low = taken.0 in absurd (omega arith)
put_over new (r ∷ rows) zero h taken = ap (λ o. match_ordering o (r ∷ put_row new rows) (new ∷ rows) (new ∷ r ∷ rows)) ((Equal-is _).0 taken.1)
put_over new (r ∷ rows) (suc at) h taken =
    ap (λ o. match_ordering o (r ∷ put_row new rows) (new ∷ rows) (new ∷ r ∷ rows)) (h.below 0 (omega arith))
    ∙ ap (λ l. r ∷ l) (put_over new rows at (later new r rows at h) (omega (arith, taken.0), taken.1))

-- a table from some place on
pub table_step : (rows : List Row) (at : ℕ) → at < length rows
    → is_table (drop at rows) ≡ (is_int (rowid (get_or rows at [])) && (is_before (get_or rows at []) (drop (at + 1) rows) && is_table (drop (at + 1) rows)))
table_step rows at low = ap is_table (drop-cons rows at [] low) ∙ ap (λ n. is_int (rowid (get_or rows at [])) && (is_before (get_or rows at []) (drop n rows) && is_table (drop n rows))) (sym (add-one at))

pub sorted_step : (numbers : List ℕ) (rows : List Row) (at : ℕ) → at < length rows
    → in_order (map (renumbered_row numbers) (drop at rows)) ≡ put_row (renumbered_row numbers (get_or rows at [])) (in_order (map (renumbered_row numbers) (drop (at + 1) rows)))
sorted_step numbers rows at low =
    ap (λ l. in_order (map (renumbered_row numbers) l)) (drop-cons rows at [] low)
    ∙ ap (λ n. put_row (renumbered_row numbers (get_or rows at [])) (in_order (map (renumbered_row numbers) (drop n rows)))) (sym (add-one at))

pub row_first : (numbers : List ℕ) (row : Row) (id : ℤ) → column row 0 ≡ Int id → (0 < length row) × (Int (shifted numbers id) ∷ [] ≡ renumbered_row numbers (take 1 row))
row_first numbers [] id is = absurd (cc)
row_first numbers (v ∷ more) id is = (omega arith, ap (λ k. renumbered_row numbers (k ∷ [])) (sym is))

pub row_more : (numbers : List ℕ) (row : Row) (at : ℕ) → 0 < at → at < length row
    → renumbered_row numbers (take (at + 1) row) ≡ renumbered_row numbers (take at row) ++ column row at ∷ []
row_more numbers row at some low = ap (renumbered_row numbers) (take_more row at Null low) ∙ front (take at row) (omega (arith, length-take-le at row (omega arith)))
  where
    front : (xs : Row) → 0 < length xs → renumbered_row numbers (xs ++ column row at ∷ []) ≡ renumbered_row numbers xs ++ column row at ∷ []
    front [] none = absurd (omega arith)
    front (v ∷ xs) some = refl

pub row_kept : (numbers : List ℕ) (row : Row) → is_int (rowid row) ≡ false → row ≡ renumbered_row numbers row
row_kept numbers [] h = refl
row_kept numbers (Null ∷ more) h = refl
row_kept numbers (Int id ∷ more) h = absurd (cc)
row_kept numbers (Real x ∷ more) h = refl
row_kept numbers (Text t ∷ more) h = refl
row_kept numbers (Blob b ∷ more) h = refl
