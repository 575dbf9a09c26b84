-- What is decided on a command.
use Rattle.std.specs.Prelude.{◌≡◌, ℕ, List, [], ◌∷◌, true, false, Option, Some, None, Result, Ok, Err, IfOk}
use Rattle.house_rows.specs.declared.change.Change.{Change}
use Rattle.house_rows.specs.declared.command.Command.{Command}
use Rattle.house_rows.specs.declared.fault.KeepFault.{KeepFault}
use Rattle.house_rows.specs.declared.item.Terms.{Terms}
use Rattle.house_rows.specs.declared.refusal.Refusal.{Refusal}
use Rattle.house_rows.specs.declared.refusal.Refusal.TheVariants.{Unknown}
use Rattle.house_rows.specs.declared.settings.Settings.{Settings}
use Rattle.house_rows.specs.Asks.{ChangeFits, IsFree}
use Rattle.house_rows.specs.Changed.{changed}
use Rattle.house_rows.specs.History.{History}
use Rattle.house_rows.specs.Runs.{entry}
use Rattle.house_rows.specs.Tables.{tables_of}
use Rattle.house_rows.specs.Verdict.{Rule, verdict}

-- the rules of an item, by its terms; where it doesn't exist, it is unknown
abbrev pub of_terms : Option Terms → (Terms → List Rule) → List Rule
of_terms None rules = (true, Unknown) ∷ []
of_terms (Some terms) rules = (false, Unknown) ∷ rules terms

-- where a command is accepted, its change has the property
abbrev pub IfAccepted : Result (Result Change Refusal) KeepFault → (Change → Type 0) → Type 0
IfAccepted result P = IfOk result (λ decided. IfOk decided P)

-- accepted, with a change that fits the tables of the history and whose key is free there, and after which they are those of the
-- history with the entry
pub record IsAccepted (settings : Settings) (h : History) (moment caller : ℕ) (command : Command) (change : Change) : Type 0 where
  pub accepted : verdict settings h moment caller command ≡ None
  pub fits : ChangeFits (tables_of settings h) change
  pub free : IsFree (tables_of settings h) change
  pub leads : changed (tables_of settings h) change ≡ tables_of settings (entry moment caller command ∷ h)

-- the change of an accepted command, or the refusal of the verdict
abbrev pub IsDecided : Settings → History → ℕ → ℕ → Command → Result Change Refusal → Type 0
IsDecided settings h moment caller command (Ok change) = IsAccepted settings h moment caller command change
IsDecided settings h moment caller command (Err refusal) = verdict settings h moment caller command ≡ Some refusal
