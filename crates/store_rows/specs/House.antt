-- What a connection holds, as a house.
use Rattle.std.specs.Prelude.{◌≡◌, ◌≢◌, ◌⊎◌, ◌<◌, Bool, IsTrue, true, ℕ, List, [], ◌∷◌, ◌++◌, ◌==◌, if◌then◌else◌, map, All}
use Rattle.std.specs.List.{AllByRecursion}
use Rattle.sqlite_trees.specs.declared.store.Shape.TheVariants.{Table}
use Rattle.sqlite_trees.specs.View.{IsShaped}
use Rattle.sqlite.specs.Effect.{Database, IsDatabase}
use Rattle.sqlite.specs.State.{State, HasCleanDisk, IsUnchanged, IsRolledBack}
use Rattle.house_rows.specs.Bids.{BidRow}
use Rattle.house_rows.specs.Watches.{WatchRow, unwatched}
use Rattle.house_rows.specs.declared.talk.Question.{Question}
use Rattle.house_rows.specs.declared.talk.Feedback.{Feedback}
use Rattle.store_rows.specs.declared.house.HouseRow.{HouseRow}
use Rattle.store_rows.specs.declared.reserve.ReserveRow.{ReserveRow}
use Rattle.store_rows.specs.Rows.{houses_in, members_in, categories_in, bids_in, watches_in, questions_in, feedback_in, reserves_in}
use Rattle.store_rows.specs.Schema.{first_schema, house_by, house_schema}
use Rattle.sqlite_schema.specs.declared.schema.Schema.{Schema}

-- the twelve tables, whose rows lie in the order of their rowids, and obey the schema
pub record IsHouse (db : Database) : Type 0 where
  pub is_indexed : Bool
  pub schema : db.schema ≡ house_by is_indexed
  pub shaped : AllByRecursion (λ t. IsShaped Table (db.trees t.tree)) house_schema.tables
  pub sound : IsDatabase db

-- the schema of a house, with the index of watches by item or without it
abbrev pub IsHouseSchema : Schema → Type 0
IsHouseSchema schema = (is_indexed : Bool) × (schema ≡ house_by is_indexed)

-- the nine tables of version 1, the same
pub record IsFirstHouse (db : Database) : Type 0 where
  pub schema : db.schema ≡ first_schema
  pub shaped : AllByRecursion (λ t. IsShaped Table (db.trees t.tree)) first_schema.tables
  pub sound : IsDatabase db

-- the three tables that version 2 adds to a house of version 1 have no row, the others have those that they had, and watches have
-- an index by item
pub record AddsTables (old new : Database) : Type 0 where
  pub house : IsHouse new
  pub indexed : new.schema ≡ house_schema
  pub kept : AllByRecursion (λ t. new.trees t.tree ≡ old.trees t.tree) first_schema.tables
  pub reserves : new.trees 23 ≡ []
  pub editions : new.trees 24 ≡ []
  pub later_bands : new.trees 25 ≡ []

-- the connection is open and holds a house, as far as the disk was honest
abbrev pub Serves : State → Type 0
Serves s = HasCleanDisk s → IsTrue s.is_open × IsHouse s.now

-- and these are the reserves that it has
abbrev pub ServesBy : List ReserveRow → State → Type 0
ServesBy reserves s = HasCleanDisk s → IsTrue s.is_open × IsHouse s.now × (reserves ≡ reserves_in s.now.trees)

-- it serves, and a transaction is open
pub record IsBegun (s : State) : Type 0 where
  pub serves : Serves s
  pub begun : HasCleanDisk s → IsTrue s.in_transaction

-- the transaction goes on, and nothing was committed
pub record IsInside (old new : State) : Type 0 where
  pub mode : new.in_transaction ≡ true
  pub is_open : IsTrue new.is_open
  pub committed : new.committed ≡ old.committed

abbrev pub KeepsCommitted : State → State → Type 0
KeepsCommitted old new = IsUnchanged old new ⊎ IsRolledBack old new

-- every table but the one of a tree is as it was
abbrev pub KeepsOthers : ℕ → Database → Database → Type 0
KeepsOthers tree old new = AllByRecursion (λ t. t.tree ≢ tree → new.trees t.tree ≡ old.trees t.tree) house_schema.tables

-- one more member, the last where its number is over every other
pub record AddsMember (number : ℕ) (name : List ℕ) (old new : Database) : Type 0 where
  pub house : IsHouse new
  pub schema : new.schema ≡ old.schema
  pub others : KeepsOthers 2 old new
  pub members : All (λ m. m.member < number) (members_in old.trees)
      → members_in new.trees ≡ members_in old.trees ++ record { member = number; name = name } ∷ []

-- one more category, the last where its number is over every other
pub record AddsCategory (number : ℕ) (name : List ℕ) (old new : Database) : Type 0 where
  pub house : IsHouse new
  pub schema : new.schema ≡ old.schema
  pub others : KeepsOthers 4 old new
  pub categories : All (λ k. k.category < number) (categories_in old.trees)
      → categories_in new.trees ≡ categories_in old.trees ++ record { category = number; name = name } ∷ []

-- one more bid, the last
pub record AddsBid (bid : BidRow) (old new : Database) : Type 0 where
  pub house : IsHouse new
  pub schema : new.schema ≡ old.schema
  pub others : KeepsOthers 8 old new
  pub bids : bids_in new.trees ≡ bids_in old.trees ++ bid ∷ []

-- one more watch, the last
pub record AddsWatch (watch : WatchRow) (old new : Database) : Type 0 where
  pub house : IsHouse new
  pub schema : new.schema ≡ old.schema
  pub others : KeepsOthers 10 old new
  pub watches : watches_in new.trees ≡ watches_in old.trees ++ watch ∷ []

-- the house's row with another clock
abbrev pub with_clock : ℕ → HouseRow → HouseRow
with_clock moment h = if h.id == 1 then record h { clock = moment } else h

-- the clock is set
pub record SetsClock (moment : ℕ) (old new : Database) : Type 0 where
  pub house : IsHouse new
  pub schema : new.schema ≡ old.schema
  pub others : KeepsOthers 0 old new
  pub houses : houses_in new.trees ≡ map (with_clock moment) (houses_in old.trees)

-- the house's row of another version of the tables
abbrev pub with_version : ℕ → HouseRow → HouseRow
with_version version h = if h.id == 1 then record h { version = version } else h

-- the version is set
pub record SetsVersion (version : ℕ) (old new : Database) : Type 0 where
  pub house : IsHouse new
  pub schema : new.schema ≡ old.schema
  pub others : KeepsOthers 0 old new
  pub houses : houses_in new.trees ≡ map (with_version version) (houses_in old.trees)

-- a member's watch of an item is gone
pub record RemovesWatch (member item : ℕ) (old new : Database) : Type 0 where
  pub house : IsHouse new
  pub schema : new.schema ≡ old.schema
  pub others : KeepsOthers 10 old new
  pub watches : watches_in new.trees ≡ unwatched member item (watches_in old.trees)

-- one more question, the last
pub record AddsQuestion (question : Question) (old new : Database) : Type 0 where
  pub house : IsHouse new
  pub schema : new.schema ≡ old.schema
  pub others : KeepsOthers 12 old new
  pub questions : questions_in new.trees ≡ questions_in old.trees ++ question ∷ []

-- one more feedback, the last
pub record AddsFeedback (feedback : Feedback) (old new : Database) : Type 0 where
  pub house : IsHouse new
  pub schema : new.schema ≡ old.schema
  pub others : KeepsOthers 14 old new
  pub feedback_is : feedback_in new.trees ≡ feedback_in old.trees ++ feedback ∷ []
