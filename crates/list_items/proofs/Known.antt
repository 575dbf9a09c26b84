-- What the indexes know stays true as rows change and come.
use Rattle.std.proofs.Common.{◌≡◌, ℕ, ◌+◌, ◌≤◌, List, [], ◌∷◌, ◌++◌, length, map, Bool, true, false, refl, ◌∙◌, ap, sym, arith, inl, inr, Option, Some, None}
use Rattle.std.specs.Prelude.{if◌then◌else◌, ◌==◌, ◌&&◌, find, option_map}
use Rattle.std.specs.List.{AllByRecursion}
use Rattle.std.proofs.lemmas.List.{length-append, length-map}
use Rattle.std.specs.Cmp.Lexicographic.{bytes_decides}
use Rattle.house_rows.specs.Items.{is_open}
use Rattle.house_rows.specs.Tables.{ItemRow}
use Rattle.house_rows.specs.Text.{same_text}
use Rattle.house_rows.proofs.Every.{every_as, every_map, every_more}
use Rattle.house_rows.proofs.InTurn.{turn_map, turn_more}
use Rattle.house_rows.proofs.Put.{by_test}
use Rattle.list_items.specs.Indexed.{AreGrouped, IsIndexed, IsNoted, category_of, has_lot, lot_in, number_of, seller_of}
use Rattle.list_items.specs.Rising.{IsRisingFrom, is_among}
use Rattle.list_items.proofs.Alike.{IsLike}
use Rattle.list_items.proofs.Among.{among_last, among_more}
use Rattle.list_items.proofs.Joined.{both_ways, is_number, same_number}

-- of rows that change alike
pub grouped_changed : (shared : ItemRow → ℕ) (numbers : ℕ → List ℕ) (f : ItemRow → ItemRow) (rows : List ItemRow) → ((row : ItemRow) → shared (f row) ≡ shared row) → ((row : ItemRow) → number_of (f row) ≡ number_of row)
    → AreGrouped shared numbers rows → AreGrouped shared numbers (map f rows)
grouped_changed shared numbers f rows alike named is = record {
  rising = is.rising;
  within = λ k. every_as (λ n. n ≤ length rows) (λ n. n ≤ length (map f rows)) (numbers k) (λ n le. simp length-map le) (is.within k);
  complete = every_map f (λ row. is_among (numbers (shared row)) (number_of row) ≡ true) rows
      (every_as (λ row. is_among (numbers (shared row)) (number_of row) ≡ true) (λ row. is_among (numbers (shared (f row))) (number_of (f row)) ≡ true) rows
      (λ row here. rw (alike row, named row) here) is.complete);
}

lot_changed : (f : ItemRow → ItemRow) (rows : List ItemRow) → ((row : ItemRow) → IsLike row (f row)) → (seller : ℕ) (lot : List ℕ) → lot_in rows seller lot ≡ lot_in (map f rows) seller lot
lot_changed f [] like seller lot = refl
lot_changed f (row ∷ rows) like seller lot =
    let same : has_lot seller lot (f row) ≡ has_lot seller lot row = rw ((like row).seller, (like row).lot) refl in
    elim (by_test (has_lot seller lot row)) [
      | inl is ↦ (let still : has_lot seller lot (f row) ≡ true = same ∙ is in rw (is, still) (ap Some (sym (like row).number)))
      | inr not ↦ (let still : has_lot seller lot (f row) ≡ false = same ∙ not in rw (not, still) (lot_changed f rows like seller lot))
    ]

pub indexed_changed : (f : ItemRow → ItemRow) (rows : List ItemRow) (at_lot : ℕ → List ℕ → Option ℕ) (in_category sold_by bought_by new_bought : ℕ → List ℕ) (ends_at : ℕ → ℕ → Bool) → ((row : ItemRow) → IsLike row (f row))
    → ((row : ItemRow) → IsNoted bought_by row → IsNoted new_bought (f row))
    → IsIndexed rows at_lot in_category sold_by bought_by ends_at → IsIndexed (map f rows) at_lot in_category sold_by new_bought ends_at
indexed_changed f rows at_lot in_category sold_by bought_by new_bought ends_at like noted is = record {
  in_turn = turn_map number_of number_of f 1 rows (λ row. (like row).number) is.in_turn;
  lots = λ seller lot. is.lots seller lot ∙ lot_changed f rows like seller lot;
  categories = grouped_changed category_of in_category f rows (λ row. (like row).category) (λ row. (like row).number) is.categories;
  sellers = grouped_changed seller_of sold_by f rows (λ row. (like row).seller) (λ row. (like row).number) is.sellers;
  purchases = every_map f (IsNoted new_bought) rows (every_as (IsNoted bought_by) (λ row. IsNoted new_bought (f row)) rows noted is.purchases);
  ends = every_map f (λ row. is_open row.item.terms.state ≡ true → ends_at row.item.terms.end (number_of row) ≡ true) rows
      (every_as (λ row. is_open row.item.terms.state ≡ true → ends_at row.item.terms.end (number_of row) ≡ true) (λ row. is_open (f row).item.terms.state ≡ true → ends_at (f row).item.terms.end (number_of (f row)) ≡ true) rows
      (λ row here opened. rw ((like row).ends, (like row).number) (here ((like row).opened opened))) is.ends);
}

-- of indexes that have the same
pub lots_as : (rows : List ItemRow) (at_lot new_lot : ℕ → List ℕ → Option ℕ) (in_category sold_by bought_by : ℕ → List ℕ) (ends_at : ℕ → ℕ → Bool) → ((seller : ℕ) (lot : List ℕ) → new_lot seller lot ≡ at_lot seller lot)
    → IsIndexed rows at_lot in_category sold_by bought_by ends_at → IsIndexed rows new_lot in_category sold_by bought_by ends_at
lots_as rows at_lot new_lot in_category sold_by bought_by ends_at same is = record {
  in_turn = is.in_turn;
  lots = λ seller lot. same seller lot ∙ is.lots seller lot;
  categories = is.categories;
  sellers = is.sellers;
  purchases = is.purchases;
  ends = is.ends;
}

pub grouped_as : (shared : ItemRow → ℕ) (numbers new : ℕ → List ℕ) (rows : List ItemRow) → ((k : ℕ) → new k ≡ numbers k) → AreGrouped shared numbers rows → AreGrouped shared new rows
grouped_as shared numbers new rows same is = record {
  rising = λ k. rw (same k) (is.rising k);
  within = λ k. rw (same k) (is.within k);
  complete = every_as (λ row. is_among (numbers (shared row)) (number_of row) ≡ true) (λ row. is_among (new (shared row)) (number_of row) ≡ true) rows
      (λ row here. rw (same (shared row)) here) is.complete;
}

pub with_room : (rows : List ItemRow) (at_lot : ℕ → List ℕ → Option ℕ) (in_category new_category sold_by new_sold bought_by : ℕ → List ℕ) (ends_at : ℕ → ℕ → Bool)
    → ((category : ℕ) → new_category category ≡ in_category category) → ((seller : ℕ) → new_sold seller ≡ sold_by seller)
    → IsIndexed rows at_lot in_category sold_by bought_by ends_at → IsIndexed rows at_lot new_category new_sold bought_by ends_at
with_room rows at_lot in_category new_category sold_by new_sold bought_by ends_at categories sellers is = record {
  in_turn = is.in_turn;
  lots = is.lots;
  categories = grouped_as category_of in_category new_category rows categories is.categories;
  sellers = grouped_as seller_of sold_by new_sold rows sellers is.sellers;
  purchases = is.purchases;
  ends = is.ends;
}

noted_as : (bought_by new_bought : ℕ → List ℕ) (row : ItemRow) → ((m : ℕ) → new_bought m ≡ bought_by m) → IsNoted bought_by row → IsNoted new_bought row
noted_as bought_by new_bought row same noted = λ m leads. rw (same m) (noted m leads)

pub purchases_as : (rows : List ItemRow) (at_lot : ℕ → List ℕ → Option ℕ) (in_category sold_by bought_by new_bought : ℕ → List ℕ) (ends_at : ℕ → ℕ → Bool) → ((m : ℕ) → new_bought m ≡ bought_by m)
    → IsIndexed rows at_lot in_category sold_by bought_by ends_at → IsIndexed rows at_lot in_category sold_by new_bought ends_at
purchases_as rows at_lot in_category sold_by bought_by new_bought ends_at same is = record {
  in_turn = is.in_turn;
  lots = is.lots;
  categories = is.categories;
  sellers = is.sellers;
  purchases = every_as (IsNoted bought_by) (IsNoted new_bought) rows (λ row. noted_as bought_by new_bought row same) is.purchases;
  ends = is.ends;
}

-- of more ends
pub ends_added : (rows : List ItemRow) (at_lot : ℕ → List ℕ → Option ℕ) (in_category sold_by bought_by : ℕ → List ℕ) (ends_at new_ends : ℕ → ℕ → Bool) → ((moment number : ℕ) → ends_at moment number ≡ true → new_ends moment number ≡ true)
    → IsIndexed rows at_lot in_category sold_by bought_by ends_at → IsIndexed rows at_lot in_category sold_by bought_by new_ends
ends_added rows at_lot in_category sold_by bought_by ends_at new_ends stays is = record {
  in_turn = is.in_turn;
  lots = is.lots;
  categories = is.categories;
  sellers = is.sellers;
  purchases = is.purchases;
  ends = every_as (λ row. is_open row.item.terms.state ≡ true → ends_at row.item.terms.end (number_of row) ≡ true) (λ row. is_open row.item.terms.state ≡ true → new_ends row.item.terms.end (number_of row) ≡ true) rows
      (λ row here opened. stays row.item.terms.end (number_of row) (here opened)) is.ends;
}

-- what is looked for among rows and one more
found_last : (p : ItemRow → Bool) (rows : List ItemRow) (row : ItemRow) → find p rows ≡ None → p row ≡ true → find p (rows ++ row ∷ []) ≡ Some row
found_last p [] row none is = rw is refl
found_last p (first ∷ rows) row none is =
    elim (by_test (p first)) [
      | inl here ↦ absurd (some_none first (find p (first ∷ rows)) (rw here refl) none)
      | inr not ↦ rw not (found_last p rows row (rw not at none) is)
    ] where
      some_none : (x : ItemRow) (o : Option ItemRow) → o ≡ Some x → o ≡ None → ⊥
      some_none x o some none = cc

found_before : (p : ItemRow → Bool) (rows : List ItemRow) (row : ItemRow) → p row ≡ false → find p (rows ++ row ∷ []) ≡ find p rows
found_before p [] row not = rw not refl
found_before p (first ∷ rows) row not =
    elim (by_test (p first)) [
      | inl here ↦ rw here refl
      | inr other ↦ rw other (found_before p rows row not)
    ]

both : (a b : Bool) → (a && b) ≡ true → (a ≡ true) × (b ≡ true)
both true true is = (refl, refl)
both true false is = absurd (both_ways false is refl)
both false b is = absurd (both_ways false is refl)

-- a row with a lot that no row has
lot_added : (rows : List ItemRow) (row : ItemRow) (at_lot new_lot : ℕ → List ℕ → Option ℕ) → find (has_lot row.item.terms.seller row.item.lot) rows ≡ None
    → ((s : ℕ) (l : List ℕ) → new_lot s l ≡ (if (row.item.terms.seller == s) && same_text row.item.lot l then Some (number_of row) else at_lot s l))
    → ((s : ℕ) (l : List ℕ) → at_lot s l ≡ lot_in rows s l) → (s : ℕ) (l : List ℕ) → new_lot s l ≡ lot_in (rows ++ row ∷ []) s l
lot_added rows row at_lot new_lot free made is s l =
    elim (by_test (has_lot s l row)) [
      | inl here ↦ (
          let same = both (row.item.terms.seller == s) (same_text row.item.lot l) here in
          let seller : row.item.terms.seller ≡ s = same_number row.item.terms.seller s same.0 in
          let lot : row.item.lot ≡ l = (bytes_decides row.item.lot l).0 same.1 in
          let none : find (has_lot s l) rows ≡ None = rw (seller, lot) at free in
          rw (made s l, here) (sym (ap (option_map number_of) (found_last (has_lot s l) rows row none here))))
      | inr other ↦ rw (made s l, other) (is s l ∙ sym (ap (option_map number_of) (found_before (has_lot s l) rows row other)))
    ]

-- rising numbers, with one above them all
rising_more : (least n : ℕ) (ks : List ℕ) → IsRisingFrom least ks → AllByRecursion (λ k. k ≤ n) ks → least ≤ n + 1 → IsRisingFrom least (ks ++ (n + 1) ∷ [])
rising_more least n [] rising all le = (le, tt)
rising_more least n (k ∷ ks) rising all le = (rising.0, rising_more (k + 1) n ks rising.1 all.1 (let small : k ≤ n = all.0 in omega arith))

more_within : (n : ℕ) (ks : List ℕ) → AllByRecursion (λ k. k ≤ n) ks → AllByRecursion (λ k. k ≤ n + 1) ks
more_within n ks all = every_as (λ k. k ≤ n) (λ k. k ≤ n + 1) ks (λ k le. omega arith) all

-- one more row, with the next number
group_added : (shared : ItemRow → ℕ) (numbers new : ℕ → List ℕ) (rows : List ItemRow) (row : ItemRow) → number_of row ≡ length rows + 1
    → ((k : ℕ) → new k ≡ (if shared row == k then numbers k ++ number_of row ∷ [] else numbers k)) → AreGrouped shared numbers rows → AreGrouped shared new (rows ++ row ∷ [])
group_added shared numbers new rows row next made is =
    let long : length (rows ++ row ∷ []) ≡ length rows + 1 = simp length-append (omega arith) in
    record {
      rising = λ k. elim (by_test (shared row == k)) [
        | inl here ↦ rw (made k, here, next) (rising_more 0 (length rows) (numbers k) (is.rising k) (is.within k) (omega arith))
        | inr other ↦ rw (made k, other) (is.rising k)
      ];
      within = λ k. elim (by_test (shared row == k)) [
        | inl here ↦ rw (long, made k, here, next) (every_more (λ n. n ≤ length rows + 1) (numbers k) (length rows + 1) (more_within (length rows) (numbers k) (is.within k)) (omega arith))
        | inr other ↦ rw (long, made k, other) (more_within (length rows) (numbers k) (is.within k))
      ];
      complete = every_more (λ r. is_among (new (shared r)) (number_of r) ≡ true) rows row
          (every_as (λ r. is_among (numbers (shared r)) (number_of r) ≡ true) (λ r. is_among (new (shared r)) (number_of r) ≡ true) rows
          (λ r here. elim (by_test (shared row == shared r)) [
            | inl same ↦ rw (made (shared r), same) (among_more (numbers (shared r)) (number_of r) (number_of row) here)
            | inr other ↦ rw (made (shared r), other) here
          ]) is.complete)
          (rw (made (shared row), is_number (shared row) (shared row) refl) (among_last (numbers (shared row)) (number_of row)));
    }

pub row_added : (rows : List ItemRow) (row : ItemRow) (at_lot new_lot : ℕ → List ℕ → Option ℕ) (in_category new_category sold_by new_sold bought_by : ℕ → List ℕ) (ends_at : ℕ → ℕ → Bool) → number_of row ≡ length rows + 1
    → find (has_lot row.item.terms.seller row.item.lot) rows ≡ None
    → ((s : ℕ) (l : List ℕ) → new_lot s l ≡ (if (row.item.terms.seller == s) && same_text row.item.lot l then Some (number_of row) else at_lot s l))
    → ((category : ℕ) → new_category category ≡ (if category_of row == category then in_category category ++ number_of row ∷ [] else in_category category))
    → ((seller : ℕ) → new_sold seller ≡ (if seller_of row == seller then sold_by seller ++ number_of row ∷ [] else sold_by seller))
    → IsNoted bought_by row → ends_at row.item.terms.end (number_of row) ≡ true
    → IsIndexed rows at_lot in_category sold_by bought_by ends_at → IsIndexed (rows ++ row ∷ []) new_lot new_category new_sold bought_by ends_at
row_added rows row at_lot new_lot in_category new_category sold_by new_sold bought_by ends_at next free lots categories sellers noted ended is = record {
  in_turn = turn_more number_of 1 rows row is.in_turn next;
  lots = lot_added rows row at_lot new_lot free lots is.lots;
  categories = group_added category_of in_category new_category rows row next categories is.categories;
  sellers = group_added seller_of sold_by new_sold rows row next sellers is.sellers;
  purchases = every_more (IsNoted bought_by) rows row is.purchases noted;
  ends = every_more (λ r. is_open r.item.terms.state ≡ true → ends_at r.item.terms.end (number_of r) ≡ true) rows row is.ends (λ opened. ended);
}
