-- What deciding on a command promises of a keep. A contract over `K: Keep` has the record of the keep's ghosts as `K.Keep`.
use Rattle.std.specs.Prelude.{◌≡◌, ℕ, IfOk, Result}
use Rattle.house_rows.specs.declared.change.Change.{Change}
use Rattle.house_rows.specs.declared.command.Command.{Command}
use Rattle.house_rows.specs.declared.fault.KeepFault.{KeepFault}
use Rattle.house_rows.specs.declared.keep.Keep.{Ghosts}
use Rattle.house_rows.specs.declared.refusal.Refusal.{Refusal}
use Rattle.house_rows.specs.Answers.{OverHistory, Reads}
use Rattle.house_rows.specs.Asks.{ChangeFits}
use Rattle.house_rows.specs.Keeping.{AreSound, Faults}
use Rattle.house_rows.specs.Taken.{IsUndamaged}
use Rattle.house.specs.ByTables.{verdict_by}
use Rattle.house.specs.Decided.{IfAccepted, IsDecided}
use Rattle.house.specs.Offered.{report}
use Rattle.house.specs.Own.{IsOf}
use Rattle.house.specs.Taken.{CommandRowsFit, FitsByRows}

-- As long as the disk returns what was written, the decision over a history is that of its verdict; and over any tables it is that
-- of the verdict by them, where the rows fit that deciding takes. The change of an accepted command is the command's own, and fits
-- the tables where the rows do that deciding and making it take, so wherever they are sound. Each fault has its cause: it is
-- `Damaged` only where rows that deciding takes don't fit. Nothing is changed yet.
pub record Decides {K : Type 0} (keep : Ghosts K) (old new : K) (result : Result (Result Change Refusal) KeepFault) (moment caller : ℕ) (command : Command) : Type 0 where
  pub decided : OverHistory keep old new (λ settings h. IfOk result (IsDecided settings h moment caller command))
  pub by_tables : keep.is_honest new → CommandRowsFit (keep.content old) caller command
      → IfOk result (λ answer. report answer ≡ verdict_by (keep.content old) moment caller command)
  pub fits : keep.is_honest new → FitsByRows (keep.content old) caller command result
  pub sound : keep.is_honest new → AreSound (keep.content old) → IfAccepted result (ChangeFits (keep.content old))
  pub own : keep.is_honest new → IfAccepted result (IsOf moment caller command)
  pub faults : Faults result (keep.is_honest new) (keep.is_failed new) (keep.content old)
  pub damaged : keep.is_honest new → CommandRowsFit (keep.content old) caller command → IsUndamaged result
  pub read : Reads keep old new
