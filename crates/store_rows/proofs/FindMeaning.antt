-- Queries that show a column of the rows of a table that pass a test.
use Rattle.std.proofs.Common.{◌≡◌, List, [], ◌∷◌, ℕ, false, Bool}
use Rattle.sqlite_value.specs.declared.keys.Collation.TheVariants.{Binary}
use Rattle.sqlite_sql.specs.Term.{Term, col, op2}
use Rattle.sqlite_sql.specs.declared.ops.BinaryOp.TheVariants.{Compare}
use Rattle.sqlite_sql.specs.declared.ops.CompareOp.TheVariants.{Eq}
use Rattle.sqlite.specs.Command.TheVariants.{Select}
use Rattle.sqlite.specs.Listing.{understood, reads_listing}
use Rattle.sqlite.proofs.Callers.{IsPlain, command_of}
use Rattle.store_rows.specs.Schema.{house_by}
use Rattle.store_rows.specs.Plain.{plain_query}
use Rattle.store_rows.proofs.Select.{equals}

-- a query that shows a column of the rows of a table that pass a test, in no order
abbrev pub Finds : List ℕ → ℕ → List Term → Term → List ℕ → Type 0
Finds sql tree test shown name = (b : Bool) → (command_of (understood (house_by b) sql) ≡ Select (record { lets = []; body = plain_query tree test (shown ∷ []) [] }) (name ∷ []))
    × (reads_listing (house_by b) sql ≡ false) × IsPlain (understood (house_by b) sql)

-- the first two columns are the first two parameters
abbrev pub of_pair : List Term
of_pair = equals 1 ∷ op2 (Compare Eq Binary) (col 1 2) (col 0 1) ∷ []
