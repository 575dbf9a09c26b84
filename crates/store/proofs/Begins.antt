-- What a keep knows as it begins.
use Rattle.std.proofs.Common.{◌≡◌, ℕ, List, None}
use Rattle.sqlite_trees.specs.Tree.{Trees}
use Rattle.house_rows.specs.Found.{counts_of}
use Rattle.house_rows.specs.Editions.{BandTables}
use Rattle.house_rows.specs.Tables.{band_tables}
use Rattle.house_rows.specs.declared.people.Counts.{Counts}
use Rattle.store_rows.specs.Rows.{reserves_in}
use Rattle.store_rows.specs.Tables.{tables_in}
use Rattle.store_rows.specs.declared.reserve.ReserveRow.{ReserveRow}
use Rattle.store.specs.Kept.{IsKnown}

-- of a house that was read
pub known_read : (editions : BandTables) (reserves : List ReserveRow) (counts : Counts) (clock : ℕ) (db : Trees)
    → band_tables (tables_in db) ≡ editions → reserves ≡ reserves_in db → counts_of (tables_in db) ≡ counts → (tables_in db).clock ≡ clock → IsKnown editions reserves counts clock None db
known_read editions reserves counts clock db tables sealed counted moved = record {
  editions_are = tables;
  reserves_are = sealed;
  counts_are = counted;
  clock_is = moved;
  seen_is = tt;
}
