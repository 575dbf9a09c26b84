-- What the indexes of the item table know of its rows. That of the lots is exact; of the others each only has to have every row: a look-up tests what it names.
use Rattle.std.specs.Prelude.{◌≡◌, ◌≤◌, ◌==◌, ◌&&◌, ◌||◌, ℕ, List, length, find, Bool, true, Option, option_map}
use Rattle.std.specs.List.{AllByRecursion}
use Rattle.proxy.specs.Bids.{is_leader}
use Rattle.house_rows.specs.Items.{is_open}
use Rattle.house_rows.specs.Keeping.{AreInTurn}
use Rattle.house_rows.specs.Tables.{ItemRow}
use Rattle.house_rows.specs.Text.{same_text}
use Rattle.list_items.specs.Rising.{IsRising, is_among}

abbrev pub number_of : ItemRow → ℕ
number_of row = row.item.terms.item

abbrev pub category_of : ItemRow → ℕ
category_of row = row.item.terms.category

abbrev pub seller_of : ItemRow → ℕ
seller_of row = row.item.terms.seller

-- whether a seller has an item under a lot
abbrev pub has_lot : ℕ → List ℕ → ItemRow → Bool
has_lot seller lot row = (row.item.terms.seller == seller) && same_text row.item.lot lot

-- the number of a seller's item with a lot
abbrev pub lot_in : List ItemRow → ℕ → List ℕ → Option ℕ
lot_in rows seller lot = option_map number_of (find (has_lot seller lot) rows)

-- the numbers that lie with what items share are those of items, rise, and have every item
pub record AreGrouped (shared : ItemRow → ℕ) (numbers : ℕ → List ℕ) (rows : List ItemRow) : Type 0 where
  pub rising : (k : ℕ) → IsRising (numbers k)
  pub within : (k : ℕ) → AllByRecursion (λ n. n ≤ length rows) (numbers k)
  pub complete : AllByRecursion (λ row. is_among (numbers (shared row)) (number_of row) ≡ true) rows

-- who leads an item leads by its bids, or has the item among its purchases
abbrev pub IsNoted : (ℕ → List ℕ) → ItemRow → Type 0
IsNoted bought_by row = (m : ℕ) → is_leader row.item.terms.leader m ≡ true → (is_leader row.standing.leader m || is_among (bought_by m) (number_of row)) ≡ true

-- the number that is at a seller's lot, the numbers of a category, of a seller and of a buyer, and
-- whether an end and a number are among the ends
pub record IsIndexed (rows : List ItemRow) (at_lot : ℕ → List ℕ → Option ℕ) (in_category sold_by bought_by : ℕ → List ℕ) (ends_at : ℕ → ℕ → Bool) : Type 0 where
  pub in_turn : AreInTurn number_of 1 rows
  pub lots : (seller : ℕ) (lot : List ℕ) → at_lot seller lot ≡ lot_in rows seller lot
  pub categories : AreGrouped category_of in_category rows
  pub sellers : AreGrouped seller_of sold_by rows
  pub purchases : AllByRecursion (IsNoted bought_by) rows
  pub ends : AllByRecursion (λ row. is_open row.item.terms.state ≡ true → ends_at row.item.terms.end (number_of row) ≡ true) rows
