-- The schema in which a house is made, in the order in which SQLite's VACUUM leaves it: all tables with their own indexes, and
-- then the eight indexes. The first nine tables have the trees that `house_schema` gives them. Start here.
use Rattle.std.specs.Prelude.{◌≡◌, ◌≢◌, ◌<◌, ◌≤◌, ◌-◌, ◌+◌, ℕ, All, List, [], ◌∷◌, ◌++◌, map, slice_get, take, unwrap_or}
use Rattle.std.specs.List.{AllByRecursion}
use Rattle.sqlite_trees.specs.Tree.{Trees}
use Rattle.sqlite_trees.specs.View.{IsShaped}
use Rattle.sqlite_trees.specs.declared.store.Shape.TheVariants as shape
use Rattle.sqlite_schema.specs.declared.schema.Schema.{Schema}
use Rattle.sqlite_schema.specs.declared.schema.Table.{Table}
use Rattle.sqlite_catalog.specs.Listing.{automatic}
use Rattle.sqlite.specs.Effect.{Database, IsDatabase}
use Rattle.steps.specs.Table.{Band, IsBandTable}
use Rattle.house_rows.specs.Tables.{tables_of}
use Rattle.house_rows.specs.declared.settings.Settings.{Settings}
use Rattle.store_rows.specs.declared.band.BandRow.{BandRow}
use Rattle.store_rows.specs.declared.house.HouseRow.{HouseRow}
use Rattle.store_rows.specs.Rows.{bands_in, houses_in, reserves_in}
use Rattle.store_rows.specs.Schema.{house_table, band_table, member_table, category_table, item_table, bid_table, watch_table, question_table, feedback_table}
use Rattle.store_rows.specs.Schema.{reserve_table, edition_table, later_band_table}
use Rattle.store_rows.specs.Schema.{item_by_category, item_by_seller, item_by_leader, item_by_end, bid_by_member, question_by_asker, feedback_by_receiver, watch_by_item}
use Rattle.store_rows.specs.Texts.{make_reserve, make_edition, make_later_band}
use Rattle.store_rows.specs.Texts.{make_item_by_category, make_item_by_seller, make_item_by_leader, make_item_by_end, make_bid_by_member, make_question_by_asker, make_feedback_by_receiver, make_watch_by_item}
use Rattle.store_house.specs.Named.{house_names, tables_held}
use Rattle.store_house.specs.Places.{by_names}

abbrev pub reserve_made : Table
reserve_made = record reserve_table { tree = 16 }

abbrev pub edition_made : Table
edition_made = record edition_table { tree = 17 }

abbrev pub later_band_made : Table
later_band_made = record later_band_table { tree = 18 }

abbrev pub made_schema : Schema
made_schema = record {
  tables = house_table ∷ band_table ∷ member_table ∷ category_table ∷ item_table ∷ bid_table
      ∷ watch_table ∷ question_table ∷ feedback_table ∷ reserve_made ∷ edition_made ∷ later_band_made ∷ [];
  indexes = automatic member_table 0 (2 ∷ []) 3
      ∷ automatic category_table 0 (2 ∷ []) 5
      ∷ automatic item_table 0 (2 ∷ 4 ∷ []) 7
      ∷ automatic bid_table 0 (1 ∷ 2 ∷ []) 9
      ∷ automatic watch_table 0 (1 ∷ 2 ∷ []) 11
      ∷ automatic question_table 0 (1 ∷ 2 ∷ 3 ∷ []) 13
      ∷ automatic feedback_table 0 (1 ∷ 2 ∷ []) 15
      ∷ automatic later_band_made 0 (1 ∷ 2 ∷ []) 19
      ∷ record item_by_category { tree = 20 }
      ∷ record item_by_seller { tree = 21 }
      ∷ record item_by_leader { tree = 22 }
      ∷ record item_by_end { tree = 23 }
      ∷ record bid_by_member { tree = 24 }
      ∷ record question_by_asker { tree = 25 }
      ∷ record feedback_by_receiver { tree = 26 }
      ∷ watch_by_item ∷ [];
  views = [];
}

-- ---- what makes it, after the first nine tables

-- the texts, in order
abbrev pub later_making : List (List ℕ)
later_making =
    make_reserve ∷ make_edition ∷ make_later_band
    ∷ make_item_by_category ∷ make_item_by_seller ∷ make_item_by_leader ∷ make_item_by_end
    ∷ make_bid_by_member ∷ make_question_by_asker ∷ make_feedback_by_receiver ∷ make_watch_by_item ∷ []

abbrev pub later_making_at : ℕ → List ℕ
later_making_at n = unwrap_or (slice_get later_making n) []

-- the schema after so many of them: the first two make no index
abbrev pub made_with : ℕ → Schema
made_with n = record {
  tables = take (9 + n) made_schema.tables;
  indexes = take (7 + (n - 2)) made_schema.indexes;
  views = [];
}

-- so many are made, and no table has a row
pub record IsMadeWith (n : ℕ) (db : Database) : Type 0 where
  pub schema : db.schema ≡ made_with n
  pub empty : AllByRecursion (λ t. db.trees t.tree ≡ []) (made_with n).tables
  pub sound : IsDatabase db

-- ---- what is written into it

-- a database that obeys the schema, whose tables have their rows in the order of their rowids
pub record IsLaid (db : Database) : Type 0 where
  pub schema : db.schema ≡ made_schema
  pub shaped : AllByRecursion (λ t. IsShaped shape.Table (db.trees t.tree)) made_schema.tables
  pub sound : IsDatabase db

-- every table but the one of a tree is as it was
abbrev pub LeavesOthers : ℕ → Database → Database → Type 0
LeavesOthers tree old new = AllByRecursion (λ t. t.tree ≢ tree → new.trees t.tree ≡ old.trees t.tree) made_schema.tables

-- the row of a new house
abbrev pub new_house : ℕ → List ℕ → HouseRow
new_house rate zone = record { id = 1; version = 2; clock = 0; rate = rate; zone = zone }

-- a band as a row
abbrev pub band_row : Band → BandRow
band_row band = record { from = band.0; step = band.1 }

-- the row of the house, the last where its number is over every other
pub record PutsHouse (rate : ℕ) (zone : List ℕ) (old new : Database) : Type 0 where
  pub laid : IsLaid new
  pub others : LeavesOthers 0 old new
  pub houses : All (λ h. h.id < 1) (houses_in old.trees) → houses_in new.trees ≡ houses_in old.trees ++ new_house rate zone ∷ []

-- one more band, the last where it begins above every other
pub record PutsBand (from step : ℕ) (old new : Database) : Type 0 where
  pub laid : IsLaid new
  pub others : LeavesOthers 1 old new
  pub bands : All (λ b. b.from < from) (bands_in old.trees) → bands_in new.trees ≡ bands_in old.trees ++ band_row (from, step) ∷ []

-- these bands, and no row of another table
pub record HasBands (bands : List Band) (db : Database) : Type 0 where
  pub laid : IsLaid db
  pub bands_are : bands_in db.trees ≡ map band_row bands
  pub empty : AllByRecursion (λ t. t.tree ≢ 1 → db.trees t.tree ≡ []) made_schema.tables

-- ---- a house that was made

-- A house to which nothing has happened yet: its row, its bands, and no row of another table. By their names its tables are
-- those of the empty history, and no item has a reserve.
pub record IsMadeHouse (settings : Settings) (db : Database) : Type 0 where
  pub laid : IsLaid db
  pub valid : IsBandTable settings.bands
  pub rate : settings.rate ≤ 2000
  pub houses : houses_in db.trees ≡ new_house settings.rate settings.zone ∷ []
  pub bands : bands_in db.trees ≡ map band_row settings.bands
  pub empty : AllByRecursion (λ t. t.tree ≢ 0 → t.tree ≢ 1 → db.trees t.tree ≡ []) made_schema.tables
  pub tables : tables_held db.trees ≡ tables_of settings []
  pub reserves : reserves_in (by_names house_names db.trees) ≡ []

-- what a crash finds is such a house
abbrev pub MadeHouse : Settings → Trees → Type 0
MadeHouse settings trees = (db : Database) × IsMadeHouse settings db × (trees ≡ db.trees)
