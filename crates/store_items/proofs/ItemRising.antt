-- The rows of the item table rise in their numbers, as far as these are numbers of ours.
use Rattle.std.proofs.Common.{◌≡◌, ◌<◌, ◌^◌, ℕ, pos, negsuc, sym, ◌∙◌, arith, Less, IsTrue, true≢false, ◌<ℤ◌, Bool, cond, true, false}
use Rattle.std.specs.Prelude.{nat_lt}
use Rattle.std.proofs.lemmas.Int.{ints}
use Rattle.sqlite_value.specs.declared.value.Value.{Value}
use Rattle.sqlite_value.specs.declared.value.Value.TheVariants.{Null, Int, Real, Text, Blob}
use Rattle.sqlite_value.specs.Order.{column, value_cmp}
use Rattle.sqlite_value.proofs.OrderLemmas.{value_cmp-Int}
use Rattle.sqlite_trees.specs.Tree.{rowid}
use Rattle.sqlite_trees.specs.View.{is_int}
use Rattle.sqlite_keyed.proofs.KeyedLemmas.{lt_from_Less}
use Rattle.sqlite_keyed.proofs.ListLemmas.{ascending-map}
use Rattle.sqlite.specs.Effect.{Database}
use Rattle.house_rows.specs.Tables.{ItemRow}
use Rattle.store_rows.specs.House.{IsHouse}
use Rattle.store_rows.specs.ItemRows.{item_row_in, items_in}
use Rattle.store_rows.specs.Rows.{number_in, reserves_in}
use Rattle.store_rows.proofs.Apart.{ascending_on}
use Rattle.store_rows.proofs.Joined.{IsBelow, IsRisingBy}

abbrev pub number_of : ItemRow → ℕ
number_of row = row.item.terms.item

below : (v w : Value) → IsTrue (is_int v) → IsTrue (is_int w) → value_cmp v w ≡ Less → number_in v < 2 ^ 64 → number_in v < number_in w
below (Int (pos a)) (Int (negsuc b)) p q less low = let h = lt_from_Less (pos a) (negsuc b) (sym (value_cmp-Int (pos a) (negsuc b)) ∙ less) in absurd (omega (arith, ints, h))
below (Int (negsuc a)) w p q less low = absurd (omega (arith, low))
below (Int (pos a)) Null p q less low = absurd (true≢false (sym q))
below (Int (pos a)) (Real x) p q less low = absurd (true≢false (sym q))
below (Int (pos a)) (Text x) p q less low = absurd (true≢false (sym q))
below (Int (pos a)) (Blob x) p q less low = absurd (true≢false (sym q))
below Null w p q less low = absurd (true≢false (sym p))
below (Real x) w p q less low = absurd (true≢false (sym p))
below (Text x) w p q less low = absurd (true≢false (sym p))
below (Blob x) w p q less low = absurd (true≢false (sym p))
below (Int (pos a)) (Int (pos b)) p q less low = go (nat_lt a (2 ^ 32)) (nat_lt b (2 ^ 32)) low (lt_from_Less (pos a) (pos b) (sym (value_cmp-Int (pos a) (pos b)) ∙ less))
  where
    -- a number of more than 32 bits is none of ours
    go : (small also : Bool) → cond small a (2 ^ 64) < 2 ^ 64 → pos a <ℤ pos b → cond small a (2 ^ 64) < cond also b (2 ^ 64)
    go true true first h = omega (arith, ints, h)
    go true false first h = first
    go false also first h = absurd (omega (arith, first))

pub items_rise : (db : Database) → IsHouse db → IsRisingBy number_of (items_in db.trees)
items_rise db house =
    let rows = db.trees 6 in
    let make = item_row_in (reserves_in db.trees) in
    let shaped = house.shaped.1.1.1.1.0 in
    ascending-map (IsBelow number_of) make rows
    (ascending_on (λ r. IsTrue (is_int (rowid r))) (λ r s. value_cmp (rowid r) (rowid s) ≡ Less) (λ r s. IsBelow number_of (make r) (make s)) (λ r s p q less. below (column r 0) (column s 0) p q less) rows shaped.1 shaped.0)
