-- Rows that are found by number and by name.
use Rattle.std.specs.Prelude.{◌≡◌, ℕ, List, Option, Some, None, position}
use Rattle.house_rows.specs.declared.fault.KeepFault.{KeepFault}
use Rattle.house_rows.specs.declared.fault.KeepFault.TheVariants.{Damaged, Memory}
use Rattle.house_rows.specs.Keeping.{AreInTurn}
use Rattle.house_rows.specs.Text.{same_text}
use Rattle.list_rows.specs.Shared.{get_by_shared}
use Rattle.list_people.specs.declared.names.Names.{Names}

-- the place that an index has for a name
abbrev pub place_in : Names → List ℕ → Option ℕ
place_in names name = get_by_shared names.places name

-- why a row isn't made: its name has a place, or memory was refused
abbrev pub fault_of : Option ℕ → KeepFault
fault_of (Some place) = Damaged
fault_of None = Memory

-- numbers run from 1 on, and the index has for every name the place of the first row of that name, and nothing where none has it
pub record AreNamed {A : Type 0} (number : A → ℕ) (name : A → List ℕ) (rows : List A) (names : Names) : Type 0 where
  pub in_turn : AreInTurn number 1 rows
  pub places : (other : List ℕ) → place_in names other ≡ position (λ row. same_text (name row) other) rows
