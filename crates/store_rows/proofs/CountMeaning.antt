-- A query that counts the rows of a table.
use Rattle.std.proofs.Common.{List, [], ◌∷◌, ℕ, false, Some}
use Rattle.sqlite_value.specs.declared.value.Value.TheVariants.{Int, Null}
use Rattle.std.specs.Prelude.{pos, negsuc}
use Rattle.sqlite.specs.Term.{Term, lit, col}
use Rattle.sqlite_sql.specs.Query.{Query, inner, end}
use Rattle.sqlite_sql.specs.Group.{Grouping}
use Rattle.sqlite_sql.specs.declared.aggregate.AggregateOp.TheVariants.{CountRows}
use Rattle.sqlite_value.specs.declared.keys.Collation.TheVariants.{Binary}

-- one group, of which the rows are counted
abbrev pub count_rows : Grouping
count_rows = record { keys = []; collations = []; aggregates = record { op = CountRows; distinct = false; collation = Binary; argument = lit Null } ∷ []; having = [] }

-- how many rows of a table pass WHERE
abbrev pub count_query : ℕ → List Term → Query
count_query t test = record {
  from = inner t end;
  filter = test;
  group = Some count_rows;
  project = col 1 0 ∷ [];
  distinct = false;
  collations = [];
  order = [];
  limit = lit (Int (negsuc 0));
  offset = lit (Int (pos 0));
}
