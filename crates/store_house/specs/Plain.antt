-- Which schemas are seen to be the same where they are.
use Rattle.std.specs.Prelude.{◌≡◌, []}
use Rattle.std.specs.List.{AllByRecursion}
use Rattle.sqlite_value.specs.declared.value.Value.TheVariants.{Null}
use Rattle.sqlite_schema.specs.declared.schema.Column.{Column}
use Rattle.sqlite_schema.specs.declared.schema.Schema.{Schema}
use Rattle.sqlite_schema.specs.declared.schema.Stamps.{Stamps}
use Rattle.sqlite_schema.specs.declared.schema.Table.{Table}

-- a column with no default
abbrev pub IsPlainColumn : Column → Type 0
IsPlainColumn column = column.default ≡ Null

-- no default reads the time
abbrev pub no_stamps : Stamps
no_stamps = record { places = []; terms = []; formats = [] }

-- a table with no checks and no defaults
pub record IsPlainTable (table : Table) : Type 0 where
  pub columns : AllByRecursion IsPlainColumn table.columns
  pub checks : table.checks ≡ []
  pub computed : table.computed ≡ []
  pub stamps : table.stamps ≡ no_stamps

-- plain tables, and no views
pub record IsPlainSchema (schema : Schema) : Type 0 where
  pub tables : AllByRecursion IsPlainTable schema.tables
  pub views : schema.views ≡ []
