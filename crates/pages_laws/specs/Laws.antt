-- What the tables of a history show is what the history shows.
use Rattle.std.specs.Prelude.{◌≡◌, ℕ}
use Rattle.house_rows.specs.declared.query.Query.{Query}
use Rattle.house_rows.specs.declared.settings.Settings.{Settings}
use Rattle.house_rows.specs.History.{History}
use Rattle.house_rows.specs.Pages.{page_of}
use Rattle.house_rows.specs.Tables.{tables_of}
use Rattle.pages_laws.specs.ByTables.{page_by}

-- every page is the same by the tables and by the history
abbrev pub PagesAreSame : Type 0
PagesAreSame = (settings : Settings) (h : History) (caller : ℕ) (query : Query)
    → page_by (tables_of settings h) caller query ≡ page_of settings h caller query
