-- The rows of the table of reserves rise in their items, as far as these are numbers of ours.
use Rattle.std.proofs.Common.{◌≡◌, ◌<◌, ◌^◌, zero, suc, List, [], ◌∷◌, IsTrue, Less, arith}
use Rattle.std.specs.List.{AllByRecursion}
use Rattle.sqlite_keyed.proofs.ListLemmas.{ascending-map}
use Rattle.sqlite_trees.proofs.ListLemmas.{all-get_or}
use Rattle.sqlite_trees.specs.Tree.{IsAscending, rowid}
use Rattle.sqlite_trees.specs.View.{is_int}
use Rattle.sqlite_value.specs.Order.{column, value_cmp}
use Rattle.sqlite.specs.Effect.{Database}
use Rattle.store_rows.specs.declared.reserve.ReserveRow.{ReserveRow}
use Rattle.store_rows.specs.Fitting.{ReserveRowFits}
use Rattle.store_rows.specs.House.{IsHouse}
use Rattle.store_rows.specs.Rows.{reserve_in, reserves_in}
use Rattle.store_rows.proofs.Apart.{ascending_on}
use Rattle.store_rows.proofs.Ties.{less_number}
use Rattle.store_rows.specs.Reserves.{AreRising, no_row}

-- one is under another, if it is a number of ours
abbrev IsBelow : ReserveRow → ReserveRow → Type 0
IsBelow a b = a.item < 2 ^ 32 → a.item < b.item

each_rises : (rows : List ReserveRow) → IsAscending IsBelow rows → AllByRecursion ReserveRowFits rows → AreRising rows
each_rises [] up fit i j lt in_range = absurd (omega (arith, in_range))
each_rises (r ∷ rows) up fit i zero lt in_range = absurd (omega (arith, lt))
each_rises (r ∷ rows) up fit zero (suc j) lt in_range = all-get_or (IsBelow r) rows j no_row up.0 (omega (arith, in_range)) fit.0.item
each_rises (r ∷ rows) up fit (suc i) (suc j) lt in_range = each_rises rows up.1 fit.1 i j (omega (arith, lt)) (omega (arith, in_range))

-- those of a house, where each fits
pub reserves_rise : (db : Database) → IsHouse db → AllByRecursion ReserveRowFits (reserves_in db.trees) → AreRising (reserves_in db.trees)
reserves_rise db house fit =
    let rows = db.trees 23 in
    let shaped = house.shaped.1.1.1.1.1.1.1.1.1.0 in
    each_rises (reserves_in db.trees)
    (ascending-map IsBelow reserve_in rows
    (ascending_on (λ r. IsTrue (is_int (rowid r))) (λ r s. value_cmp (rowid r) (rowid s) ≡ Less) (λ r s. IsBelow (reserve_in r) (reserve_in s)) (λ r s p q less low. less_number (column r 0) (column s 0) low q less) rows shaped.1 shaped.0))
    fit
