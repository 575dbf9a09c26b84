-- The result of an accepted command, and what making its change does.
use Rattle.std.specs.Prelude.{◌≡◌, ◌⊎◌, ◌∷◌, ◌++◌, ℕ, List, Bool, true, false, Result, OnErr, OnOk}
use Rattle.house.specs.Decided.{IsAccepted}
use Rattle.house.specs.Own.{IsOf}
use Rattle.house_rows.specs.declared.change.Change.{Change}
use Rattle.house_rows.specs.declared.command.Command.{Command}
use Rattle.house_rows.specs.declared.fault.KeepFault.{KeepFault}
use Rattle.house_rows.specs.declared.settings.Settings.{Settings}
use Rattle.house_rows.specs.declared.reply.Reply.TheVariants.{Done}
use Rattle.house_rows.specs.declared.command_result.CommandResult.{CommandResult}
use Rattle.house_rows.specs.Changed.{changed}
use Rattle.house_rows.specs.History.{History}
use Rattle.house_rows.specs.Making.{ChangeFaults}
use Rattle.house_rows.specs.Runs.{entry}
use Rattle.house_rows.specs.Tables.{Tables, tables_of}
use Rattle.house_rows.specs.CommandResult.{result_of}
use Rattle.house_rows.specs.Verdict.{IsHistory}
use Rattle.settle.specs.declared.zone.Zone.{Zone}
use Rattle.site_replies.specs.Texts.{reply_text}

-- the result of an accepted command whose change it is has the property, over every history whose
-- tables these are
abbrev pub IfReported : Tables → Change → (CommandResult → Type 0) → Type 0
IfReported t change P = (settings : Settings) (h : History) → IsHistory settings h
    → t ≡ tables_of settings h
    → (moment caller : ℕ) (command : Command) → IsAccepted settings h moment caller command change
    → IsOf moment caller command change
    → P (result_of settings (entry moment caller command ∷ h) moment caller command h)

-- what is appended says that a command was accepted
abbrev pub TellsDone : Zone → Bool → List ℕ → List ℕ → Type 0
TellsDone zone closes before after =
    (report : CommandResult) × (after ≡ before ++ reply_text zone closes (Done report))

-- what a keep promises of making a change
pub record IsApplied {K : Type 0} (content : K → Tables) (is_failed : K → Bool)
    (is_honest : K → Type 0) (may_leave : K → Tables → Type 0)
    (change : Change) (result : Result (Unit {0}) KeepFault) (old new : K) : Type 0 where
  pub ok : is_honest new → OnOk result (content new ≡ changed (content old) change)
  pub err : is_honest new → is_failed new ≡ false → OnErr result (content new ≡ content old)
  pub faults : ChangeFaults result (is_honest new) (is_failed new) (content old) change
  pub honest : is_honest new → is_honest old
  pub stays : is_failed old ≡ true → is_failed new ≡ true
  pub kept : is_honest new → OnOk result ((t : Tables) → may_leave new t → t ≡ content new)
  pub crash : is_honest new → OnErr result ((t : Tables) → may_leave new t → may_leave old t
      ⊎ ((is_failed old ≡ false) × (is_failed new ≡ true) × (t ≡ changed (content old) change)))
