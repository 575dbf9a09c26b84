-- What look-ups of items answer, and which rows they take: that these fit is enough for an answer not to be damaged.
use Rattle.std.specs.Prelude.{◌≡◌, ◌≢◌, ◌≤◌, ◌<◌, ◌^◌, ◌==◌, ◌&&◌, ℕ, Bool, List, Option, All, AllPairs, filter, find, length, nat_le, option_map, take}
use Rattle.std.specs.List.{AllByRecursion, list_any}
use Rattle.sqlite_trees.specs.Tree.{Trees}
use Rattle.settle.specs.Statement.{IsSale, is_party}
use Rattle.settle.specs.declared.sale.Sold.{Sold}
use Rattle.house_rows.specs.Asks.{HasItem}
use Rattle.house_rows.specs.Editions.{BandTables}
use Rattle.house_rows.specs.Found.{sales_to}
use Rattle.house_rows.specs.Keeping.{FitsBy, IsKeptRowBy}
use Rattle.house_rows.specs.Limits.{most_items, most_shown}
use Rattle.house_rows.specs.Pages.{sale_of}
use Rattle.house_rows.specs.Tables.{ItemRow}
use Rattle.house_rows.specs.Taken.{FitWhere, has_own_reserve, up_to}
use Rattle.house_rows.specs.Text.{same_text}
use Rattle.store_rows.specs.ItemRows.{items_in}
use Rattle.store_rows.specs.Tables.{tables_in}
use Rattle.store_items.specs.ConsistentRows.{RowFitsAt, RowsAreConsistent, RowsAreKept}

-- ---- the rows that are taken

-- each item's row that passes a test fits
abbrev pub ItemsFitBy : BandTables → (ItemRow → Bool) → Trees → Type 0
ItemsFitBy editions test db = FitWhere test (FitsBy editions) (items_in db)

-- the first fifty of a category's items from a number on fit
abbrev pub PageFits : BandTables → ℕ → ℕ → Trees → Type 0
PageFits editions category from db =
    AllByRecursion (FitsBy editions) (take most_shown
    (filter (λ row. (row.item.terms.category == category) && nat_le from row.item.terms.item) (items_in db)))

-- and of each what is sealed goes with what is shown
abbrev pub PageIsKept : BandTables → ℕ → ℕ → Trees → Type 0
PageIsKept editions category from db =
    AllByRecursion (IsKeptRowBy editions) (take most_shown
    (filter (λ row. (row.item.terms.category == category) && nat_le from row.item.terms.item) (items_in db)))

-- of what a member sells each item up to that of the last reserve shown has a number of ours, and those whose reserves are
-- shown fit
pub record ReservesFit (editions : BandTables) (member from : ℕ) (db : Trees) : Type 0 where
  pub numbered : AllByRecursion (λ row. row.item.terms.item < 2 ^ 32) (up_to most_shown (has_own_reserve member from)
      (filter (λ row. row.item.terms.seller == member) (items_in db)))
  pub shown : AllByRecursion (FitsBy editions) (take most_shown (filter (has_own_reserve member from) (items_in db)))

-- there is an item of a number, and its row fits
pub record ItemFitsThere (editions : BandTables) (item : ℕ) (db : Trees) : Type 0 where
  pub row : RowFitsAt editions db item
  pub there : HasItem (tables_in db) item

-- ---- what is answered

-- the number of a seller's item with a lot
abbrev pub number_with_lot : ℕ → List ℕ → Trees → Option ℕ
number_with_lot seller lot db =
    option_map (λ (row : ItemRow). row.item.terms.item)
    (find (λ row. (row.item.terms.seller == seller) && same_text row.item.lot lot) (items_in db))

-- the sales to which a member is a party, of items that are consistent, also with what is sealed
pub record AreSalesTo (editions : BandTables) (member : ℕ) (db : Trees) (found : List Sold) : Type 0 where
  pub sales : found ≡ sales_to (tables_in db) member
  pub is_consistent : RowsAreConsistent editions (λ row. list_any (is_party member) (sale_of row.item.terms)) db
  pub kept : RowsAreKept editions (λ row. list_any (is_party member) (sale_of row.item.terms)) db

-- what a list of sales promises without the disk
pub record AreSales (sales : List Sold) : Type 0 where
  pub fits : All IsSale sales
  pub apart : AllPairs (λ (a : Sold) (b : Sold). a.item ≢ b.item) sales
  pub few : length sales ≤ most_items
