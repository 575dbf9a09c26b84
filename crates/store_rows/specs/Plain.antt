-- Queries over one table, and their rows.
use Rattle.std.specs.Prelude.{ℕ, pos, negsuc, Bool, false, List, [], ◌∷◌, None}
use Rattle.std.specs.List.{list_all}
use Rattle.sqlite_value.specs.declared.value.Value.TheVariants.{Int}
use Rattle.sqlite_value.specs.Order.{Row}
use Rattle.sqlite_value.specs.declared.keys.Key.{Key}
use Rattle.sqlite_sql.specs.Term.{Term, lit, eval_all, holds}
use Rattle.sqlite_sql.specs.Query.{Query, inner, end}

-- SELECT project FROM t WHERE test ORDER BY order
abbrev pub plain_query : ℕ → List Term → List Term → List (Term × Key) → Query
plain_query t test project order = record {
  from = inner t end;
  filter = test;
  group = None;
  project = project;
  distinct = false;
  collations = [];
  order = order;
  limit = lit (Int (negsuc 0));
  offset = lit (Int (pos 0));
}

-- the row of the table passes WHERE
abbrev pub passes : List Term → Row → Row → Bool
passes test params row = list_all (holds (params ∷ row ∷ [])) test

-- what is shown of it
abbrev pub shown_by : List Term → Row → Row → Row
shown_by project params row = eval_all project (params ∷ row ∷ [])
