-- The twenty statements that make the tables and their indexes, and what each leaves. A file of version 1 is what the first
-- sixteen make, and three more make version 2 of it. The last makes the index of watches by item, which older houses don't have.
use Rattle.std.specs.Prelude.{◌≡◌, ◌<◌, ◌-◌, ◌+◌, min, ℕ, List, [], ◌∷◌, slice_get, take, drop, unwrap_or, IsTrue}
use Rattle.std.specs.List.{AllByRecursion}
use Rattle.sqlite_schema.specs.declared.schema.Schema.{Schema}
use Rattle.sqlite.specs.Effect.{Database, IsDatabase}
use Rattle.sqlite.specs.State.{State, HasCleanDisk}
use Rattle.sqlite_catalog.specs.Change.{KeepsRows}
use Rattle.sqlite_trees.specs.Tree.{Trees}
use Rattle.store_rows.specs.Schema.{first_schema, house_schema, no_schema}
use Rattle.store_rows.specs.Texts.{make_house, make_band, make_member, make_category, make_item, make_bid, make_watch, make_question, make_feedback, make_item_by_category, make_item_by_seller, make_item_by_leader, make_item_by_end, make_bid_by_member, make_question_by_asker, make_feedback_by_receiver, make_reserve, make_edition, make_later_band, make_watch_by_item}

-- the texts, in order
abbrev pub making : List (List ℕ)
making =
    make_house ∷ make_band ∷ make_member ∷ make_category ∷ make_item ∷ make_bid ∷ make_watch ∷ make_question ∷ make_feedback
    ∷ make_item_by_category ∷ make_item_by_seller ∷ make_item_by_leader ∷ make_item_by_end
    ∷ make_bid_by_member ∷ make_question_by_asker ∷ make_feedback_by_receiver
    ∷ make_reserve ∷ make_edition ∷ make_later_band
    ∷ make_watch_by_item ∷ []

abbrev pub making_at : ℕ → List ℕ
making_at n = unwrap_or (slice_get making n) []

-- how many tables are there after so many of them: nine, then seven indexes are made, then three more, and one index
abbrev pub tables_made : ℕ → ℕ
tables_made n = min n 9 + min (n - 16) 3

-- and how many indexes: the first two tables have none of their own, nor have the first two of the last three tables
abbrev pub indexes_made : ℕ → ℕ
indexes_made n = min (n - 2) 14 + (n - 18)

-- the schema after so many of them
abbrev pub made_by : ℕ → Schema
made_by n = record { tables = take (tables_made n) house_schema.tables; indexes = take (indexes_made n) house_schema.indexes; views = [] }

-- so many are made, and no table has a row
pub record IsMade (n : ℕ) (db : Database) : Type 0 where
  pub schema : db.schema ≡ made_by n
  pub empty : AllByRecursion (λ t. db.trees t.tree ≡ []) (made_by n).tables
  pub sound : 0 < n → IsDatabase db

-- so many are made over the rows of a house of version 1, and what version 2 adds has no row
pub record IsGrown (n : ℕ) (first : Trees) (db : Database) : Type 0 where
  pub schema : db.schema ≡ made_by n
  pub kept : KeepsRows first_schema.tables first db.trees
  pub empty : AllByRecursion (λ t. db.trees t.tree ≡ []) (drop 9 (made_by n).tables)
  pub sound : IsDatabase db

-- the connection is open and its database lists no table, as far as the disk was honest
abbrev pub IsBlank : State → Type 0
IsBlank s = HasCleanDisk s → IsTrue s.is_open × (s.now.schema ≡ no_schema)
