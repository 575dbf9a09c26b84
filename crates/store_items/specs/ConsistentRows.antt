-- Items whose rows fit, and are consistent, each with its own band table.
use Rattle.std.specs.Prelude.{◌≡◌, ℕ, Bool, filter, find, Some, IfSome}
use Rattle.std.specs.List.{AllByRecursion}
use Rattle.sqlite_trees.specs.Tree.{Trees}
use Rattle.house_rows.specs.Changed.{is_item}
use Rattle.house_rows.specs.Editions.{BandTables}
use Rattle.house_rows.specs.Fits.{TermsFit}
use Rattle.house_rows.specs.Found.{row_at, terms_at}
use Rattle.house_rows.specs.Keeping.{FitsBy, IsConsistentBy, IsKeptRowBy}
use Rattle.house_rows.specs.Tables.{ItemRow}
use Rattle.store_rows.specs.ItemRows.{items_in}
use Rattle.store_rows.specs.Tables.{tables_in}

-- every item's row that passes a test fits
abbrev pub RowsFit : (ItemRow → Bool) → Trees → Type 0
RowsFit test db = AllByRecursion (λ row. TermsFit row.item.terms) (filter test (items_in db))

-- every item's row that passes a test is consistent
abbrev pub RowsAreConsistent : BandTables → (ItemRow → Bool) → Trees → Type 0
RowsAreConsistent editions test db = AllByRecursion (λ row. IsConsistentBy editions row.item.terms) (filter test (items_in db))

-- of every item's row that passes a test what is sealed goes with what is shown
abbrev pub RowsAreKept : BandTables → (ItemRow → Bool) → Trees → Type 0
RowsAreKept editions test db = AllByRecursion (IsKeptRowBy editions) (filter test (items_in db))

-- the item of a number is consistent, if there is one
abbrev pub ItemIsConsistent : BandTables → Trees → ℕ → Type 0
ItemIsConsistent editions db item = IfSome (terms_at (tables_in db) item) (IsConsistentBy editions)

-- the row of an item fits, if there is one
abbrev pub RowFitsAt : BandTables → Trees → ℕ → Type 0
RowFitsAt editions db item = AllByRecursion (λ row. row.item.terms.item ≡ item → FitsBy editions row) (items_in db)

-- what is sealed of the item of a number goes with what is shown, if there is one
abbrev pub IsKeptAt : BandTables → Trees → ℕ → Type 0
IsKeptAt editions db item = IfSome (find (is_item item) (items_in db)) (IsKeptRowBy editions)

-- the item of a number is consistent, if there is one, also with what is sealed
pub record ItemStands (editions : BandTables) (db : Trees) (item : ℕ) : Type 0 where
  pub is_consistent : ItemIsConsistent editions db item
  pub kept : IsKeptAt editions db item

-- there is an item of a number, whose row fits and is consistent, also with what is sealed
pub record HasStandingItem (editions : BandTables) (db : Trees) (item : ℕ) : Type 0 where
  pub row : ItemRow
  pub row_there : row_at (tables_in db) item ≡ Some row
  pub fits : TermsFit row.item.terms
  pub is_consistent : IsConsistentBy editions row.item.terms
  pub kept : IsKeptRowBy editions row
