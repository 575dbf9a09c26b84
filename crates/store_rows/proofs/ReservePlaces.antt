-- What a search finds among reserves whose items rise, and what leaves them so.
use Rattle.std.proofs.Common.{◌≡◌, ◌≢◌, ◌<◌, ◌≤◌, ◌+◌, ◌-◌, ◌++◌, ℕ, zero, suc, List, [], ◌∷◌, length, get_or, slice_get, Some, None, Result, Ok, Err, IfOk, IfErr, refl, sym, subst, ap, ◌∙◌, inl, inr, arith}
use Rattle.std.specs.Prelude.{◌==◌, find, option_map, OnErr, OnOk}
use Rattle.std.specs.List.Sorted.{IsSearchInRange, IsBinarySearchResult, IsNonDecreasingBy}
use Rattle.std.specs.Ordering.{nat_cmp, ordering_index}
use Rattle.std.proofs.lemmas.Bool.{cases_lt}
use Rattle.std.proofs.lemmas.Bool.Decides.{nat_tests}
use Rattle.std.proofs.lemmas.Cmp.{ranked}
use Rattle.std.proofs.Math.ListN.{get_or-append}
use Rattle.std.proofs.Math.Seq.{get_or-append_seam}
use Rattle.std.proofs.lemmas.List.{length-append}
use Rattle.std.proofs.lemmas.List.Sorted.{IsNonDecreasingBy-from_default}
use Rattle.house_rows.specs.declared.fault.KeepFault.{KeepFault}
use Rattle.store_rows.specs.declared.reserve.ReserveRow.{ReserveRow}
use Rattle.store_rows.specs.ItemRows.{amount_of}
use Rattle.store_rows.specs.Reserves.{AreRising, IsAt, IsGap, item_at, no_row}

-- no reserve before a place is of the item
abbrev NoneBefore : List ReserveRow → ℕ → ℕ → Type 0
NoneBefore rows item i = (j : ℕ) → j < i → item_at rows j ≢ item

none_later : (r : ReserveRow) (rows : List ReserveRow) (item i : ℕ) → NoneBefore (r ∷ rows) item (suc i) → NoneBefore rows item i
none_later r rows item i none j lt = none (suc j) (omega arith)

at_later : (r : ReserveRow) (rows : List ReserveRow) (item i : ℕ) → IsAt (r ∷ rows) item (suc i) → IsAt rows item i
at_later r rows item i is = record { in_range = omega (arith, is.in_range); of_item = is.of_item }

absent : (rows : List ReserveRow) (item : ℕ) → NoneBefore rows item (length rows) → find (λ r. r.item == item) rows ≡ None
absent [] item none = refl
absent (r ∷ rows) item none = grind (arith, nat_tests, none 0 (omega arith), absent rows item (none_later r rows item _ none))

present : (rows : List ReserveRow) (item i : ℕ) → IsAt rows item i → NoneBefore rows item i → find (λ r. r.item == item) rows ≡ Some (get_or rows i no_row)
present [] item i is none = absurd (omega (arith, is.in_range))
present (r ∷ rows) item zero is none = grind (arith, nat_tests, is.of_item)
present (r ∷ rows) item (suc i) is none = grind (arith, nat_tests, none 0 (omega arith), present rows item i (at_later r rows item i is) (none_later r rows item i none))

module _ (rows : List ReserveRow) (rising : AreRising rows) (item : ℕ) where
  comparisons_rise : IsNonDecreasingBy (λ r. ordering_index (nat_cmp r.item item)) rows
  comparisons_rise = IsNonDecreasingBy-from_default (λ r. ordering_index (nat_cmp r.item item)) rows no_row (λ i j le in_range.
      let items_rise : item_at rows i ≤ item_at rows j = grind (arith, rising i j, λ (same : i ≡ j). ap (item_at rows) same) in
      grind (arith, nat_tests))

  -- a binary search ends at the item, or at the gap for it
  pub searched : (r : Result ℕ ℕ) → IsSearchInRange r (length rows) → IsBinarySearchResult (λ row. nat_cmp row.item item) rows r → record { found : IfOk r (IsAt rows item); absent : IfErr r (IsGap rows item) }
  searched (Ok at) in_range equal = record { found = record { in_range = in_range; of_item = ranked _ item _ (sym (equal no_row)) }; absent = tt }
  searched (Err at) in_range parted = record {
    found = tt;
    absent = record {
      in_range = in_range;
      lesser = λ j lt. ranked _ item _ (sym ((parted comparisons_rise).0 j no_row (omega arith) lt));
      greater = λ j le lt. ranked _ item _ (sym ((parted comparisons_rise).1 j no_row le lt));
    };
  }

  pub amount_at : (i : ℕ) → IsAt rows item i → amount_of rows item ≡ Some (get_or rows i no_row).amount
  amount_at i is = ap (option_map (λ (r : ReserveRow). r.amount)) (present rows item i is (λ j lt same. let up = rising j i lt is.in_range in let here = is.of_item in omega (arith, up, here, same)))

  pub no_amount : (i : ℕ) → IsGap rows item i → amount_of rows item ≡ None
  no_amount i gap = ap (option_map (λ (r : ReserveRow). r.amount)) (absent rows item (λ j lt same. grind (arith, gap.lesser j, gap.greater j)))

-- where each item is under the next, they rise
pub rising_by_steps : (rows : List ReserveRow) → ((k : ℕ) → k + 1 < length rows → item_at rows k < item_at rows (k + 1)) → AreRising rows
rising_by_steps rows steps i zero lt in_range = absurd (omega (arith, lt))
rising_by_steps rows steps i (suc j) lt in_range =
    let last : item_at rows j < item_at rows (suc j) = grind (arith, steps j) in
    elim (cases_lt i j) [
      | inl before ↦ (let first = rising_by_steps rows steps i j before (omega (arith, in_range)) in omega (arith, first, last))
      | inr there ↦ (let same : i ≡ j = omega (arith, there, lt) in let e = ap (item_at rows) same in omega (arith, e, last))
    ]

-- the last is the greatest
pub below_last : (rows : List ReserveRow) → AreRising rows → (i : ℕ) → i < length rows → item_at rows i ≤ item_at rows (length rows - 1)
below_last rows rising i in_range = grind (arith, rising i (length rows - 1), λ (same : i ≡ length rows - 1). ap (item_at rows) same)

-- a reserve of a greater item comes after them
pub rising_more : (rows : List ReserveRow) (new : ReserveRow) → AreRising rows → ((i : ℕ) → i < length rows → item_at rows i < new.item) → AreRising (rows ++ new ∷ [])
rising_more rows new rising above i j lt in_range =
    let long : length (rows ++ new ∷ []) ≡ length rows + 1 = length-append rows (new ∷ []) in
    let first : item_at (rows ++ new ∷ []) i ≡ item_at rows i = ap (λ (r : ReserveRow). r.item) (get_or-append rows (new ∷ []) no_row i (omega (arith, lt, in_range, long))) in
    elim (cases_lt j (length rows)) [
      | inl before ↦ (let second : item_at (rows ++ new ∷ []) j ≡ item_at rows j = ap (λ (r : ReserveRow). r.item) (get_or-append rows (new ∷ []) no_row j before) in
          let up = rising i j lt before in omega (arith, first, second, up))
      | inr there ↦ (let same : j ≡ length rows = omega (arith, there, in_range, long) in
          let second : item_at (rows ++ new ∷ []) j ≡ new.item = ap (item_at (rows ++ new ∷ [])) same ∙ ap (λ (r : ReserveRow). r.item) (get_or-append_seam rows new [] no_row) in
          let up = above i (omega (arith, lt, there, in_range, long)) in omega (arith, first, second, up))
    ]

-- what is found at a place is there
pub slice_get_is : (rows : List ReserveRow) (i : ℕ) (r : ReserveRow) → slice_get rows i ≡ Some r → (i < length rows) × (item_at rows i ≡ r.item)
slice_get_is [] i r e = absurd (let h : None ≡ Some r = e in cc)
slice_get_is (x ∷ rows) zero r e = (omega arith, (let h : Some x ≡ Some r = e in let same : x ≡ r = cc in ap (λ (s : ReserveRow). s.item) same))
slice_get_is (x ∷ rows) (suc i) r e = let rest = slice_get_is rows i r e in (omega (arith, rest.0), rest.1)

-- where nothing is the last, there is nothing
pub none_last : (rows : List ReserveRow) → slice_get rows (length rows - 1) ≡ None → length rows ≡ 0
none_last [] e = refl
none_last (x ∷ rows) e = absurd (some (x ∷ rows) (length (x ∷ rows) - 1) (omega arith) e)
  where
    some : (xs : List ReserveRow) (i : ℕ) → i < length xs → slice_get xs i ≡ None → ⊥
    some [] i lt e = omega (arith, lt)
    some (y ∷ ys) zero lt e = let h : Some y ≡ None = e in cc
    some (y ∷ ys) (suc i) lt e = some ys i (omega (arith, lt)) e

-- after a push that may have failed they rise
pub after_push : (rows new : List ReserveRow) (r : ReserveRow) (result : Result (Unit {0}) KeepFault) → OnOk result (new ≡ rows ++ r ∷ []) → OnErr result (new ≡ rows) → AreRising rows → AreRising (rows ++ r ∷ []) → AreRising new
after_push rows new r (Ok _) ok err rising more = subst AreRising (sym ok) more
after_push rows new r (Err _) ok err rising more = subst AreRising (sym err) rising
