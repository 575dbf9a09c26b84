-- What is read of a house as it is opened, and which houses are taken.
use Rattle.std.specs.Prelude.{◌≡◌, ◌≢◌, ◌⊎◌, ◌≤◌, ◌<◌, ◌+◌, ◌^◌, ◌==◌, ℕ, List, [], IfSome, IsTrue, Some, false, true, find, is_some, length, map}
use Rattle.std.specs.List.{AllByRecursion}
use Rattle.sqlite_trees.specs.declared.store.Store.{Ghosts}
use Rattle.sqlite_trees.specs.Tree.{Trees}
use Rattle.sqlite_trees.specs.View.{IsClean, doubt}
use Rattle.sqlite.specs.Effect.{Database}
use Rattle.sqlite.specs.Held.{Held, state}
use Rattle.sqlite.specs.State.{HasCleanDisk, Survives}
use Rattle.steps.specs.Table.{IsBandTable}
use Rattle.house_rows.specs.Fits.{IsWithin}
use Rattle.house_rows.specs.declared.people.Counts.{Counts}
use Rattle.house_rows.specs.Tables.{Tables, tables_of}
use Rattle.house_rows.specs.declared.settings.Settings.{Settings}
use Rattle.house_rows.specs.Keeping.{AreInTurn}
use Rattle.house_rows.specs.Limits.{most_editions}
use Rattle.house_rows.specs.declared.edition.Edition.{Edition}
use Rattle.house_rows.specs.Editions.{BandTables}
use Rattle.store_rows.specs.Fitting.{EditionRowFits, FirstRowFits, HouseRowFits, LaterBandRowFits, ReserveRowFits}
use Rattle.store_rows.specs.House.{IsFirstHouse, IsHouse, with_version}
use Rattle.store_rows.specs.ItemRows.{items_by}
use Rattle.store_rows.specs.Rows.{bands_in, categories_in, edition_rows_in, houses_in, later_bands_in, members_in, reserves_in}
use Rattle.store_rows.specs.declared.reserve.ReserveRow.{ReserveRow}
use Rattle.store_rows.specs.Commits.{IsBack}
use Rattle.store_rows.specs.Schema.{first_schema, house_schema}
use Rattle.store_rows.specs.Tables.{editions_in, house_row_in, settings_in, tables_in, version_in}

-- members, categories and items have numbers from 1 to how many there are, which has 32 bits; that is so whatever reserves there are
pub record AreNumbered (db : Trees) : Type 0 where
  pub few_members : length (members_in db) < 2 ^ 32
  pub members : AllByRecursion (λ m. IsWithin 1 (length (members_in db)) m.member) (members_in db)
  pub few_categories : length (categories_in db) < 2 ^ 32
  pub categories : AllByRecursion (λ k. IsWithin 1 (length (categories_in db)) k.category) (categories_in db)
  pub few_items : length (items_by [] db) < 2 ^ 32
  pub items : AllByRecursion (λ row. IsWithin 1 (length (items_by [] db)) row.item.terms.item) (items_by [] db)

-- so many rows, a number of 32 bits, each with a number from 1 to that
pub record IsCount {A : Type 0} (n : ℕ) (number : A → ℕ) (rows : List A) : Type 0 where
  pub count : length rows ≡ n
  pub few : n < 2 ^ 32
  pub within : AllByRecursion (λ x. IsWithin 1 n (number x)) rows

-- the tables have so many rows, numbered from 1 on
pub record HaveNumbers (db : Trees) (counts : Counts) : Type 0 where
  pub members : length (members_in db) ≡ counts.members
  pub categories : length (categories_in db) ≡ counts.categories
  pub items : length (items_by [] db) ≡ counts.items
  pub numbered : AreNumbered db

-- each reserve fits, and is of an item with a number of at most this
pub record AreReservedTo (most : ℕ) (db : Trees) : Type 0 where
  pub fit : AllByRecursion ReserveRowFits (reserves_in db)
  pub within : AllByRecursion (λ r. r.item ≤ most) (reserves_in db)

-- of at most how many items there are
abbrev pub AreReserved : Trees → Type 0
AreReserved db = AreReservedTo (length (items_by [] db)) db

-- the house has these reserves, each of an item with a number of at most this
pub record HasReservesTo (most : ℕ) (db : Trees) (reserves : List ReserveRow) : Type 0 where
  pub reserves_are : reserves ≡ reserves_in db
  pub within : AllByRecursion (λ r. r.item ≤ most) (reserves_in db)

-- of at most how many items there are
abbrev pub HasReserves : Trees → List ReserveRow → Type 0
HasReserves db = HasReservesTo (length (items_by [] db)) db

-- The editions of the band table fit, are fewer than there may be with the first and numbered in turn from 2, and each has bands
-- that are a table. The bands fit, and each is of one of these editions.
pub record AreSet (db : Trees) : Type 0 where
  pub fit : AllByRecursion EditionRowFits (edition_rows_in db)
  pub few : length (edition_rows_in db) < most_editions
  pub in_turn : AreInTurn (λ row. row.edition) 2 (edition_rows_in db)
  pub bands_fit : AllByRecursion LaterBandRowFits (later_bands_in db)
  pub tables : AllByRecursion (λ e. IsBandTable e.bands) (editions_in db)
  pub within : AllByRecursion (λ b. IsWithin 2 (length (edition_rows_in db) + 1) b.edition) (later_bands_in db)

-- the house has these editions
pub record HasEditions (db : Trees) (later : List Edition) : Type 0 where
  pub editions_are : later ≡ editions_in db
  pub set : AreSet db

-- the house has its row, which fits, and is set up like this
pub record HasSettings (db : Trees) (settings : Settings) (clock : ℕ) : Type 0 where
  pub house : is_some (find (λ h. h.id == 1) (houses_in db)) ≡ true
  pub row : HouseRowFits (house_row_in db)
  pub settings_are : settings_in db ≡ settings
  pub clock_is : (house_row_in db).clock ≡ clock

-- what was read of a house is what it has
pub record HasRead (db : Trees) (editions : BandTables) (clock : ℕ) (counts : Counts) (reserves : List ReserveRow) : Type 0 where
  pub has_settings : HasSettings db editions.settings clock
  pub has_editions : HasEditions db editions.later
  pub have_numbers : HaveNumbers db counts
  pub has_reserves : HasReserves db reserves

-- ---- which houses are taken

-- the row of the house is there and fits, and its bands are a table
pub record IsSetUp (db : Trees) : Type 0 where
  pub house : is_some (find (λ h. h.id == 1) (houses_in db)) ≡ true
  pub fits : IfSome (find (λ h. h.id == 1) (houses_in db)) HouseRowFits
  pub bands : IsBandTable (map (λ b. (b.from, b.step)) (bands_in db))

-- what an opening reads of a house fits
pub record IsReadable (db : Trees) : Type 0 where
  pub set_up : IsSetUp db
  pub numbered : AreNumbered db
  pub reserved : AreReserved db
  pub set : AreSet db

-- a house that an opening takes
pub record IsSoundHouse (db : Database) : Type 0 where
  pub house : IsHouse db
  pub readable : IsReadable db.trees

-- ---- a house of version 1, and what an upgrade makes of it

-- the row of the house is there and fits in a file of version 1, and its bands are a table
pub record IsFirstSetUp (db : Trees) : Type 0 where
  pub house : is_some (find (λ h. h.id == 1) (houses_in db)) ≡ true
  pub fits : IfSome (find (λ h. h.id == 1) (houses_in db)) FirstRowFits
  pub bands : IsBandTable (map (λ b. (b.from, b.step)) (bands_in db))

-- a house of version 1 that an upgrade takes
pub record IsSoundFirst (db : Database) : Type 0 where
  pub house : IsFirstHouse db
  pub set_up : IsFirstSetUp db.trees
  pub numbered : AreNumbered db.trees

-- the tables of a house of version 1, in which no item has a reserve and no band table was set
abbrev pub first_tables_in : Trees → Tables
first_tables_in db = record (tables_in db) { items = items_by [] db; editions = [] }

-- A house of version 1 is made one of version 2: its row has the version, the three new tables have
-- no row, the others have those that they had, and watches have an index by item.
pub record Upgrades (old : Trees) (new : Database) : Type 0 where
  pub was : (first : Database) × IsFirstHouse first × (first.trees ≡ old)
  pub version : version_in old ≡ Some 1
  pub house : IsHouse new
  pub indexed : new.schema ≡ house_schema
  pub houses : houses_in new.trees ≡ map (with_version 2) (houses_in old)
  pub others : AllByRecursion (λ t. t.tree ≢ 0 → new.trees t.tree ≡ old t.tree) first_schema.tables
  pub reserves : new.trees 23 ≡ []
  pub editions : new.trees 24 ≡ []
  pub later_bands : new.trees 25 ≡ []

-- what a crash finds is the house upgraded
abbrev pub Upgraded : Trees → Trees → Type 0
Upgraded old trees = (db : Database) × Upgrades old db × (trees ≡ db.trees)

-- ---- what a call that failed has left

-- The store of a connection to which nothing was written: that a wrong answer of the disk was taken as true is not forgotten, a
-- shield is kept, what is shown is what was committed then, and a crash finds what it could find before.
pub record Follows {S : Type 0} (g : Ghosts S) (conn : Held S) (store : S) : Type 0 where
  pub clean : doubt (state g conn).is_clean ≤ doubt (g.view store).is_clean
  pub shield : g.is_shielded conn.store → g.is_shielded store
  pub shown : IsClean (g.view store) → IsTrue (g.view store).is_open
      → (g.view store).trees ≡ (state g conn).committed.trees
  pub crash : IsClean (g.view store) → (db : Trees) → g.recovers store db → g.recovers conn.store db

-- The store of a connection in which a house of version 1 was being upgraded: the same, but that a crash may find the house
-- upgraded.
pub record FollowsOrGrows {S : Type 0} (g : Ghosts S) (conn : Held S) (store : S) : Type 0 where
  pub clean : doubt (state g conn).is_clean ≤ doubt (g.view store).is_clean
  pub shield : g.is_shielded conn.store → g.is_shielded store
  pub shown : IsClean (g.view store) → IsTrue (g.view store).is_open
      → (g.view store).trees ≡ (state g conn).committed.trees
  pub crash : IsClean (g.view store) → (db : Trees) → g.recovers store db
      → g.recovers conn.store db ⊎ Upgraded (state g conn).committed.trees db
