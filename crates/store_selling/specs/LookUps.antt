-- What changes of items look up, and which rows are enough for the answer not to be damaged.
use Rattle.std.specs.Prelude.{◌≡◌, ℕ, List}
use Rattle.sqlite_trees.specs.Tree.{Trees}
use Rattle.house_rows.specs.Asks.{PurchaseFits}
use Rattle.house_rows.specs.Editions.{BandTables}
use Rattle.house_rows.specs.Found.{due_at}
use Rattle.house_rows.specs.Items.{is_due}
use Rattle.house_rows.specs.declared.item.Terms.{Terms}
use Rattle.house_rows.specs.declared.item.Due.{Due}
use Rattle.store_rows.specs.Tables.{tables_in}
use Rattle.store_items.specs.ConsistentRows.{HasStandingItem, RowFitsAt, RowsAreConsistent, RowsAreKept, RowsFit}
use Rattle.store_items.specs.Items.{OfItemIn}
use Rattle.store_selling.specs.Sales.{IsDue, IsUnbid, StartFits}

-- ---- the rows that are taken

-- the item's row fits, and there is a purchase of it that does
pub record PurchaseFitsThere (editions : BandTables) (item : ℕ) (db : Trees) : Type 0 where
  pub row : RowFitsAt editions db item
  pub moment : ℕ
  pub buyer : ℕ
  pub price : ℕ
  pub purchase : PurchaseFits (tables_in db) moment item buyer price

-- ---- what is answered

-- how many a close would leave sold, and how many unsold; all that are due are consistent, also with what is sealed
pub record IsDueAt (editions : BandTables) (moment : ℕ) (db : Trees) (due : Due) : Type 0 where
  pub counts : due ≡ due_at (tables_in db) moment
  pub is_consistent : RowsAreConsistent editions (λ row. is_due moment row.item.terms) db
  pub kept : RowsAreKept editions (λ row. is_due moment row.item.terms) db

-- the items that a close takes; their rows fit and are consistent, also with what is sealed
pub record TakesDue (editions : BandTables) (moment : ℕ) (db : Trees) (found : List Terms) : Type 0 where
  pub due : IsDue moment found db
  pub fits : RowsFit (λ row. is_due moment row.item.terms) db
  pub is_consistent : RowsAreConsistent editions (λ row. is_due moment row.item.terms) db
  pub kept : RowsAreKept editions (λ row. is_due moment row.item.terms) db

-- there is an item of a number that is consistent, and its start is an amount
pub record HasStartingItem (editions : BandTables) (item : ℕ) (db : Trees) : Type 0 where
  pub there : HasStandingItem editions db item
  pub fits : OfItemIn item StartFits db

-- there is an item of a number that is consistent, and nobody has bid on it
pub record HasUnbidItem (editions : BandTables) (item : ℕ) (db : Trees) : Type 0 where
  pub there : HasStandingItem editions db item
  pub unbid : OfItemIn item IsUnbid db
