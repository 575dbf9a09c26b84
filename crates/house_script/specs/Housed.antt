-- What a house keeps.
use Rattle.std.specs.Prelude.{◌≡◌, Bool, false, List, [], ◌∷◌}
use Rattle.steps.specs.Example.{example_table}
use Rattle.house_rows.specs.declared.change.Change.{Change}
use Rattle.house_rows.specs.declared.settings.Settings.{Settings}
use Rattle.house_rows.specs.History.{History}
use Rattle.house_rows.specs.Tables.{Tables, tables_of}
use Rattle.house_rows.specs.Verdict.{IsHistory}
use Rattle.house.specs.Filled.{FitInTurn, after}

-- what each house is set up with: the example bands, a fee of a tenth, the zone `UTC0`
abbrev pub set_up : Settings
set_up = record { bands = example_table; rate = 1000; zone = 85 ∷ 84 ∷ 67 ∷ 48 ∷ [] }

-- the tables are those of accepted commands
pub record AreAccepted (t : Tables) : Type 0 where
  pub history : History
  pub accepted : IsHistory set_up history
  pub tables : t ≡ tables_of set_up history

-- as long as the disk was honest and no call has answered `Store`
abbrev pub IsHoused : Type 0 → Bool → Tables → Type 0
IsHoused is_honest is_failed t = is_honest → is_failed ≡ false → AreAccepted t

-- changes that lead from an empty house to the tables
pub record LeadTo (changes : List Change) (t : Tables) : Type 0 where
  pub housed : AreAccepted t
  pub fits : FitInTurn (tables_of set_up []) changes
  pub leads : after (tables_of set_up []) changes ≡ t
