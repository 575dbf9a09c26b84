-- What the list of a category's items means and finds.
use Rattle.std.proofs.Common.{◌≡◌, ◌==◌, ◌<◌, ◌^◌, ◌&&◌, ℕ, suc, pos, negsuc, Bool, true, false, List, [], ◌∷◌, map, filter, take, codes, eqb, refl, sym, ap, subst, ◌∙◌, arith, inl, inr, Less, true≢false}
use Rattle.std.specs.Prelude.{nat_le}
use Rattle.std.specs.List.{AllByRecursion}
use Rattle.std.proofs.lemmas.Bool.Decides.{nat_tests}
use Rattle.std.proofs.lemmas.Int.{ints}
use Rattle.std.proofs.lemmas.List.{take-map}
use Rattle.sqlite_value.specs.declared.value.Value.{Value}
use Rattle.sqlite_value.specs.declared.value.Value.TheVariants.{Null, Int, Real, Text, Blob}
use Rattle.sqlite_value.specs.Order.{Row, column, value_cmp}
use Rattle.sqlite_value.proofs.OrderLemmas.{value_cmp-Int}
use Rattle.sqlite_trees.specs.Tree.{IsTable, rowid}
use Rattle.sqlite_trees.specs.View.{is_int}
use Rattle.sqlite_keyed.proofs.KeyedLemmas.{lt_from_Less}
use Rattle.sqlite_keyed.proofs.ListLemmas.{all_both, all_map, all_unmap, all_weaker, filter-map}
use Rattle.sqlite_tied.specs.Compute.{everything}
use Rattle.sqlite.specs.Term.{Term, col}
use Rattle.sqlite.specs.Listing.{understood}
use Rattle.sqlite.specs.State.{State, Shown}
use Rattle.house_rows.specs.Fits.{ItemFits}
use Rattle.house_rows.specs.Found as found
use Rattle.house_rows.specs.Keeping.{FitsBy}
use Rattle.house_rows.specs.Tables.{ItemRow}
use Rattle.house_rows.specs.declared.item.Item.{Item}
use Rattle.house_rows.specs.Editions.{BandTables}
use Rattle.house_rows.proofs.Put.{by_test}
use Rattle.store_rows.specs.House.{IsHouse}
use Rattle.store_rows.specs.declared.reserve.ReserveRow.{ReserveRow}
use Rattle.store_rows.specs.ItemRows.{item_by, item_row_in, items_in, row_by}
use Rattle.store_rows.specs.Plain.{passes, shown_by}
use Rattle.store_rows.specs.Rows.{number_in, reserves_in}
use Rattle.store_rows.specs.Schema.{house_by}
use Rattle.store_rows.proofs.RowLemmas.{filter_same_on}
use Rattle.store_rows.proofs.Select.{in_order, typed_part, by_rowid, equals}
use Rattle.store_items.specs.Standing.{ItemHolds}
use Rattle.store_items.proofs.Holding.{item_row}
use Rattle.store_items.proofs.ItemLemmas.{IsRow, are_rows}
use Rattle.store_items.proofs.ItemMeaning.{item_shown}
use Rattle.store_rows.specs.Tables.{tables_in}
use Rattle.store_rows.specs.First.{IsFinite, ShowsFirst, ShowsSome}
use Rattle.store_rows.proofs.Bounds.{bound_of, from_bound}
use Rattle.store_rows.proofs.Asked.{Asks, from_second, lists, never, page_passes, stray_passes, under_zero}
use Rattle.store_rows.proofs.Compared.{fits_not_negative, is_negative}
use Rattle.store_rows.proofs.Firsts.{none_passes, some_passes}

abbrev pub items_text : List ℕ
items_text = codes "SELECT id, seller, category, start, buy_now, ending, state, closed, price, leader, count, lot, title, body, top, second FROM item WHERE category = ?1 AND id >= ?2 ORDER BY id"

abbrev pub stray_items_text : List ℕ
stray_items_text = codes "SELECT id FROM item WHERE category = ?1 AND id < 0 ORDER BY id"

abbrev item_names : List (List ℕ)
item_names =
    codes "id" ∷ codes "seller" ∷ codes "category" ∷ codes "start" ∷ codes "buy_now" ∷ codes "ending" ∷ codes "state" ∷ codes "closed" ∷ codes "price" ∷ codes "leader" ∷ codes "count"
    ∷ codes "lot" ∷ codes "title" ∷ codes "body" ∷ codes "top" ∷ codes "second" ∷ []

pub items_is : Asks items_text 6 (equals 3 ∷ from_second 0 ∷ []) item_shown by_rowid item_names
unfolding understood everything
items_is b = (refl, refl, (refl, refl))

pub items_finite : (b : Bool) → IsFinite (understood (house_by b) items_text)
unfolding understood everything
items_finite b = refl

pub stray_items_is : Asks stray_items_text 6 (equals 3 ∷ under_zero 0 ∷ []) (col 1 0 ∷ []) by_rowid (codes "id" ∷ [])
unfolding understood everything
stray_items_is b = (refl, refl, (refl, refl))

pub stray_items_finite : (b : Bool) → IsFinite (understood (house_by b) stray_items_text)
unfolding understood everything
stray_items_finite b = refl

abbrev pub keeps_item : ℕ → ℕ → Item → Bool
keeps_item category from it = (it.terms.category == category) && nat_le from it.terms.item

-- what is over a number that isn't negative isn't either
not_negative : (v w : Value) → is_int v ≡ true → is_int w ≡ true → value_cmp v w ≡ Less → is_negative v ≡ false → is_negative w ≡ false
not_negative (Int (negsuc a)) w p q less none = absurd (true≢false none)
not_negative (Int (pos a)) (Int (pos b)) p q less none = refl
not_negative (Int (pos a)) (Int (negsuc b)) p q less none = let h = lt_from_Less (pos a) (negsuc b) (sym (value_cmp-Int (pos a) (negsuc b)) ∙ less) in absurd (omega (arith, ints, h))
not_negative (Int (pos a)) Null p q less none = absurd (true≢false (sym q))
not_negative (Int (pos a)) (Real x) p q less none = absurd (true≢false (sym q))
not_negative (Int (pos a)) (Text x) p q less none = absurd (true≢false (sym q))
not_negative (Int (pos a)) (Blob x) p q less none = absurd (true≢false (sym q))
not_negative Null w p q less none = absurd (true≢false (sym p))
not_negative (Real x) w p q less none = absurd (true≢false (sym p))
not_negative (Text x) w p q less none = absurd (true≢false (sym p))
not_negative (Blob x) w p q less none = absurd (true≢false (sym p))

-- and what is negative is over each number of ours
pub negative_over : (v : Value) (n : ℕ) → n < 2 ^ 32 → is_negative v ≡ true → nat_le n (number_in v) ≡ true
negative_over (Int (negsuc a)) n low is = grind (arith, nat_tests)
negative_over (Int (pos a)) n low is = absurd (true≢false (sym is))
negative_over Null n low is = absurd (true≢false (sym is))
negative_over (Real x) n low is = absurd (true≢false (sym is))
negative_over (Text x) n low is = absurd (true≢false (sym is))
negative_over (Blob x) n low is = absurd (true≢false (sym is))

not_kept : (here negative over : Bool) → (negative ≡ true → over ≡ true) → (here && over) ≡ false → (here && negative) ≡ false
not_kept true true over is none = absurd (true≢false (sym (is refl) ∙ none))
not_kept true false over is none = refl
not_kept false negative over is none = refl

module _ (category from : ℕ) (category_low : category < 2 ^ 32) (from_low : from < 2 ^ 32) (old new : State) (house : IsHouse old.now) where
  abbrev R : List ReserveRow
  R = reserves_in old.now.trees

  abbrev make : Row → ItemRow
  make r = item_row_in R r

  abbrev table : List Row
  table = old.now.trees 6

  abbrev here : Row
  here = Int (pos category) ∷ []

  abbrev params : Row
  params = Int (pos category) ∷ Int (pos from) ∷ []

  abbrev stray_test : List Term
  stray_test = equals 3 ∷ under_zero 0 ∷ []

  abbrev test : List Term
  test = equals 3 ∷ from_second 0 ∷ []

  passing : (r : Row) → IsRow r → passes stray_test here r ≡ false → passes test params r ≡ keeps_item category from (make r).item
  passing r is none = page_passes 3 0 category category_low r is.category is.number from from_low none

  -- all that is shown, where there is no stray
  all_shown : (all : List Row) → Shown stray_items_text here old new [] → Shown items_text params old new all
      → map (item_by R) all ≡ filter (keeps_item category from) (map (λ (row : ItemRow). row.item) (items_in old.now.trees))
  all_shown all none h =
      let no_stray = none_passes stray_test (col 1 0 ∷ []) by_rowid here table [] (lists stray_items_text 6 stray_test (col 1 0 ∷ []) by_rowid _ stray_items_is (λ db. refl) old new here [] house none) refl in
      let order = in_order test item_shown params table all house.shaped.1.1.1.1.0.0 (lists items_text 6 test item_shown by_rowid _ items_is (λ db. refl) old new params all house h) in
      let are = all_both IsRow (λ r. passes stray_test here r ≡ false) (λ r. IsRow r × (passes stray_test here r ≡ false)) (λ r is no. (is, no)) table (are_rows old.now house) no_stray in
      typed_part (item_by R) make (λ (row : ItemRow). row.item) (λ row. keeps_item category from row.item) (λ r. IsRow r × (passes stray_test here r ≡ false)) test item_shown params table all (λ r. refl) (λ r is. passing r is.0 is.1) are order
      ∙ sym (filter-map (keeps_item category from) (λ (row : ItemRow). row.item) (items_in old.now.trees))

  pub items_shown : (rows : List Row) → Shown stray_items_text here old new [] → ShowsFirst 50 items_text params old new rows
      → map (item_by R) rows ≡ take 50 (filter (keeps_item category from) (map (λ (row : ItemRow). row.item) (items_in old.now.trees)))
  items_shown rows none first = ap (map (item_by R)) first.are ∙ sym (take-map (item_by R) 50 first.all) ∙ ap (take 50) (all_shown first.all none first.shown)

  abbrev keeps_row : ItemRow → Bool
  keeps_row row = keeps_item category from row.item

  -- the whole rows that are shown
  pub whole_shown : (rows : List Row) → Shown stray_items_text here old new [] → ShowsFirst 50 items_text params old new rows
      → map (row_by R) rows ≡ take 50 (map (λ (row : ItemRow). row) (filter keeps_row (items_in old.now.trees)))
  whole_shown rows none first =
      let no_stray = none_passes stray_test (col 1 0 ∷ []) by_rowid here table [] (lists stray_items_text 6 stray_test (col 1 0 ∷ []) by_rowid _ stray_items_is (λ db. refl) old new here [] house none) refl in
      let order = in_order test item_shown params table first.all house.shaped.1.1.1.1.0.0 (lists items_text 6 test item_shown by_rowid _ items_is (λ db. refl) old new params first.all house first.shown) in
      let are = all_both IsRow (λ r. passes stray_test here r ≡ false) (λ r. IsRow r × (passes stray_test here r ≡ false)) (λ r is no. (is, no)) table (are_rows old.now house) no_stray in
      ap (map (row_by R)) first.are ∙ sym (take-map (row_by R) 50 first.all)
      ∙ ap (take 50) (typed_part (row_by R) make (λ (row : ItemRow). row) keeps_row (λ r. IsRow r × (passes stray_test here r ≡ false)) test item_shown params table first.all (λ r. refl) (λ r is. passing r is.0 is.1) are order)

  -- the rows that are shown, where these fit
  pub shown_held : (rows : List Row) → Shown stray_items_text here old new [] → ShowsFirst 50 items_text params old new rows → (editions : BandTables)
      → AllByRecursion (FitsBy editions) (take 50 (filter keeps_row (items_in old.now.trees))) → AllByRecursion (ItemHolds editions R) rows
  shown_held rows none first editions fit =
      let kept = filter (passes test params) table in
      let show = shown_by item_shown params in
      let no_stray = none_passes stray_test (col 1 0 ∷ []) by_rowid here table [] (lists stray_items_text 6 stray_test (col 1 0 ∷ []) by_rowid _ stray_items_is (λ db. refl) old new here [] house none) refl in
      let are = all_both IsRow (λ r. passes stray_test here r ≡ false) (λ r. IsRow r × (passes stray_test here r ≡ false)) (λ r is no. (is, no)) table (are_rows old.now house) no_stray in
      let order = in_order test item_shown params table first.all house.shaped.1.1.1.1.0.0 (lists items_text 6 test item_shown by_rowid _ items_is (λ db. refl) old new params first.all house first.shown) in
      let typed : filter keeps_row (map make table) ≡ map make kept =
      filter-map keeps_row make table
      ∙ ap (map make) (sym (filter_same_on (λ r. IsRow r × (passes stray_test here r ≡ false)) (passes test params) (λ r. keeps_row (make r)) (λ r is. passing r is.0 is.1) table are)) in
      let front = all_unmap (FitsBy editions) make (take 50 kept) (subst (AllByRecursion (FitsBy editions)) (ap (take 50) typed ∙ take-map make 50 kept) fit) in
      let held = all_map (ItemHolds editions R) show (take 50 kept) (all_weaker (λ r. FitsBy editions (make r)) (λ r. ItemHolds editions R (show r)) (item_row editions R params) (take 50 kept) front) in
      subst (AllByRecursion (ItemHolds editions R)) (sym (first.are ∙ ap (take 50) order ∙ take-map show 50 kept)) held

  not_stray : (r : Row) → IsRow r → is_negative (rowid r) ≡ false → passes stray_test here r ≡ false
  not_stray r is none = stray_passes 3 0 category category_low r is.category is.number ∙ never (eqb (number_in (column r 3)) category) (is_negative (rowid r)) none

  -- a stray would be the first that is shown
  no_stray_first : (editions : BandTables) (n : ℕ) (rows : List Row) → IsTable rows → AllByRecursion IsRow rows → AllByRecursion (FitsBy editions) (take (suc n) (filter keeps_row (map make rows)))
      → AllByRecursion (λ r. passes stray_test here r ≡ false) rows
  no_stray_first editions n [] up are fit = tt
  no_stray_first editions n (r ∷ rows) up are fit =
      elim (by_test (keeps_row (make r))) [
        | inl kept ↦ (let fits = (rw kept at fit).0 in
            let low : number_in (rowid r) < 2 ^ 32 = omega (arith, fits.item.terms.item.1) in
            let none = fits_not_negative (rowid r) low in (
              not_stray r are.0 none,
              all_both (λ s. value_cmp (rowid r) (rowid s) ≡ Less) IsRow (λ s. passes stray_test here s ≡ false) (λ s less is. not_stray s is (not_negative (rowid r) (rowid s) are.0.number is.number less none)) rows up.0 are.1,
            ))
        | inr other ↦ (
          stray_passes 3 0 category category_low r are.0.category are.0.number
              ∙ not_kept (eqb (number_in (column r 3)) category) (is_negative (rowid r)) (nat_le from (number_in (rowid r))) (negative_over (rowid r) from from_low) other,
          no_stray_first editions n rows up.1 are.1 (rw other at fit),
        )
      ]

  -- where all that is shown fits, there is no stray
  pub no_stray_shown : ShowsSome stray_items_text here old new → (editions : BandTables) → AllByRecursion (FitsBy editions) (take 50 (filter keeps_row (items_in old.now.trees))) → ⊥
  no_stray_shown some editions fit =
      some_passes stray_test (col 1 0 ∷ []) by_rowid here table (some.first ∷ some.others) (lists stray_items_text 6 stray_test (col 1 0 ∷ []) by_rowid _ stray_items_is (λ db. refl) old new here _ house some.shown) some.first some.others refl
      (no_stray_first editions 49 table house.shaped.1.1.1.1.0.0 (are_rows old.now house) fit)

item_low : (it : Item) → ItemFits it → it.terms.item < 4294967295
item_low it fit = omega (arith, fit.terms.item.1)

-- the list from the bound is the list of the tables
pub items_found : (category from : ℕ) (db : Rattle.sqlite_trees.specs.Tree.Trees) → AllByRecursion ItemFits (take 50 (filter (keeps_item category (bound_of from)) (map (λ (row : ItemRow). row.item) (items_in db))))
    → take 50 (filter (keeps_item category (bound_of from)) (map (λ (row : ItemRow). row.item) (items_in db))) ≡ found.items_in (tables_in db) category from
unfolding tables_in
items_found category from db fits = from_bound (λ (it : Item). it.terms.category == category) (λ (it : Item). it.terms.item) ItemFits item_low from (map (λ (row : ItemRow). row.item) (items_in db)) fits
