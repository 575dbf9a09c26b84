-- What is asked of an item's row before a bid on it is placed.
use Rattle.std.specs.Prelude.{◌≡◌, ℕ, true, All}
use Rattle.sqlite_trees.specs.Tree.{Trees}
use Rattle.proxy.specs.Kept.{Kept}
use Rattle.proxy.specs.Opening.{Opening}
use Rattle.proxy.specs.declared.bid.Bid.{Bid}
use Rattle.house_rows.specs.Asks.{BidFits}
use Rattle.house_rows.specs.Changed.{is_item}
use Rattle.house_rows.specs.Editions.{BandTables}
use Rattle.house_rows.specs.Tables.{band_tables}
use Rattle.store_rows.specs.ItemRows.{items_in}
use Rattle.store_rows.specs.Tables.{tables_in}
use Rattle.store_items.specs.ConsistentRows.{HasStandingItem, RowFitsAt}
use Rattle.store_items.specs.Items.{StartsAt}

-- there is the item, and its bids begin with that opening
pub record BeginsThere (editions : BandTables) (item : ℕ) (opening : Opening) (db : Trees) : Type 0 where
  pub there : HasStandingItem editions db item
  pub start : All (λ row. is_item item row ≡ true → StartsAt opening row) (items_in db)

-- the item's row fits by the band tables of the database, and some bid on it leaves this standing
pub record BidFitsThere (editions : BandTables) (item : ℕ) (standing : Kept) (db : Trees) : Type 0 where
  pub row : RowFitsAt editions db item
  pub editions_are : editions ≡ band_tables (tables_in db)
  pub moment : ℕ
  pub placed : Bid
  pub bid : BidFits (tables_in db) moment item placed standing
