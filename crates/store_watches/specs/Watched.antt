-- What members watch, in rows of the database.
use Rattle.std.specs.Prelude.{◌≡◌, ◌==◌, ◌<◌, AllPairs, ℕ, List, true, find, filter, map, option_map}
use Rattle.std.specs.List.{AllByRecursion}
use Rattle.sqlite_trees.specs.Tree.{Trees}
use Rattle.house_rows.specs.Changed.{is_item}
use Rattle.house_rows.specs.Editions.{BandTables}
use Rattle.house_rows.specs.Fits.{ItemFits, WatchRowFits}
use Rattle.house_rows.specs.Found.{is_watched}
use Rattle.house_rows.specs.Keeping.{FitsBy, IsConsistentBy}
use Rattle.house_rows.specs.Taken.{FitWhere}
use Rattle.house_rows.specs.Tables.{ItemRow}
use Rattle.house_rows.specs.Watches.{WatchRow}
use Rattle.house_rows.specs.declared.item.Item.{Item}
use Rattle.store_items.specs.ConsistentRows.{IsKeptAt}
use Rattle.store_rows.specs.ItemRows.{items_in}
use Rattle.store_rows.specs.Joined.{found_of}
use Rattle.store_rows.specs.Rows.{watches_in}
use Rattle.store_rows.specs.Sorted.{sorted_watches}
use Rattle.store_rows.specs.Tables.{tables_in}

-- the item with a number, if there is one
abbrev pub item_found : Trees → ℕ → List Item
item_found db n = found_of (option_map (λ (row : ItemRow). row.item) (find (is_item n) (items_in db)))

-- the numbers of the items that a member watches, each once
pub record AreWatched (member : ℕ) (db : Trees) (numbers : List ℕ) : Type 0 where
  pub items : numbers ≡ map (λ (w : WatchRow). w.item) (filter (λ w. w.member == member) (sorted_watches db))
  pub rises : AllPairs (λ m n. m < n) numbers

-- items that are consistent, each by its own band table
abbrev pub AreConsistent : BandTables → List Item → Type 0
AreConsistent editions items = AllByRecursion (λ (it : Item). IsConsistentBy editions it.terms) items

-- and fit
pub record AreItems (editions : BandTables) (items : List Item) : Type 0 where
  pub fits : AllByRecursion ItemFits items
  pub is_consistent : AreConsistent editions items

-- what is sealed of each item that a member watches goes with what is shown
abbrev pub AreKept : BandTables → ℕ → Trees → Type 0
AreKept editions member db = (item : ℕ) → is_watched (tables_in db) member item ≡ true → IsKeptAt editions db item

-- the rows of a member's watches fit
abbrev pub WatchesFit : ℕ → Trees → Type 0
WatchesFit member db = FitWhere (λ (w : WatchRow). w.member == member) WatchRowFits (watches_in db)

-- and those of the items that it watches
pub record WatchedFit (editions : BandTables) (member : ℕ) (db : Trees) : Type 0 where
  pub watches : WatchesFit member db
  pub items : FitWhere (λ (row : ItemRow). is_watched (tables_in db) member row.item.terms.item) (FitsBy editions) (items_in db)
