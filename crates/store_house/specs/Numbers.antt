-- The numbers of a table's rows, which are their rowids, and statements on these.
use Rattle.std.specs.Prelude.{◌≡◌, ℕ, pos, false, codes, List, [], ◌∷◌, Bool}
use Rattle.std.specs.List.{AllByRecursion}
use Rattle.sqlite_value.specs.Order.{Row}
use Rattle.sqlite_value.specs.declared.keys.Collation.TheVariants.{Binary}
use Rattle.sqlite_value.specs.declared.value.Value.TheVariants.{Int}
use Rattle.sqlite_sql.specs.Program.{overlay}
use Rattle.sqlite_sql.specs.Term.{Term, col, lit, op2}
use Rattle.sqlite_sql.specs.declared.ops.BinaryOp.TheVariants.{Compare}
use Rattle.sqlite_sql.specs.declared.ops.CompareOp.TheVariants.{Gt, Lt}
use Rattle.sqlite_trees.specs.Tree.{Trees, rowid}
use Rattle.sqlite_trees.specs.View.{IsShaped}
use Rattle.sqlite_trees.specs.declared.store.Shape.TheVariants.{Table}
use Rattle.sqlite.specs.Command.TheVariants.{Select}
use Rattle.sqlite.specs.Effect.{Database}
use Rattle.sqlite.specs.Listing.{understood, reads_listing}
use Rattle.sqlite.proofs.Callers.{command_of}
use Rattle.house_rows.specs.Fits.{IsWithin}
use Rattle.store_rows.specs.House.{IsHouse}
use Rattle.store_rows.specs.Plain.{plain_query}
use Rattle.store_rows.specs.Rows.{number_in}
use Rattle.store_rows.specs.Schema.{house_by}
use Rattle.store_rows.proofs.CountMeaning.{count_query}
use Rattle.store_rows.proofs.Select.{by_rowid}

abbrev pub row_number : Row → ℕ
row_number r = number_in (rowid r)

-- each row has a number from 1 to this one
abbrev pub AreWithin : ℕ → List Row → Type 0
AreWithin most rows = AllByRecursion (λ r. IsWithin 1 most (row_number r)) rows

-- each house has a table in the tree
pub record IsTableTree (tree : ℕ) : Type 0 where
  pub over : (db : Trees) → overlay db [] tree ≡ db tree
  pub shaped : (db : Database) → IsHouse db → IsShaped Table (db.trees tree)

-- the rowid is below 1
abbrev pub is_below : List Term
is_below = op2 (Compare Lt Binary) (col 1 0) (lit (Int (pos 1))) ∷ []

-- the rowid is above the first parameter
abbrev pub is_above : List Term
is_above = op2 (Compare Gt Binary) (col 1 0) (col 0 0) ∷ []

-- a query shows terms of the rows of a table that pass a test, in the order of their numbers
abbrev pub ShowsRows : List ℕ → ℕ → List Term → List Term → List (List ℕ) → Type 0
ShowsRows sql tree test shown names = (b : Bool) →
    (command_of (understood (house_by b) sql) ≡ Select (record { lets = []; body = plain_query tree test shown by_rowid }) names)
    × (reads_listing (house_by b) sql ≡ false)

-- it shows their numbers
abbrev pub ShowsNumbers : List ℕ → ℕ → List Term → Type 0
ShowsNumbers sql tree test = ShowsRows sql tree test (col 1 0 ∷ []) (codes "id" ∷ [])

-- a query counts the rows of a table
abbrev pub CountsRows : List ℕ → ℕ → Type 0
CountsRows sql tree = (b : Bool) →
    (command_of (understood (house_by b) sql) ≡ Select (record { lets = []; body = count_query tree [] }) (codes "count(*)" ∷ []))
    × (reads_listing (house_by b) sql ≡ false)
