-- When the tree of a page or of the record isn't made.
use Rattle.std.specs.Prelude.{◌≡◌, ◌↔◌, Bool, true, Result, IsErrOf}
use Rattle.house_rows.specs.declared.fault.KeepFault.TheVariants as cause
use Rattle.house_rows.specs.Keeping.{AreSound}
use Rattle.house_rows.specs.Tables.{Tables}
use Rattle.pages_text.specs.declared.fault.PageFault.{PageFault}
use Rattle.pages_text.specs.declared.fault.PageFault.TheVariants.{Keep}

-- the keep's Store comes exactly where the keep is failed as the call ends, and its Damaged only where a row doesn't fit
pub record PageFaults {A : Type 0} (result : Result A PageFault) (is_honest : Type 0) (is_failed : Bool) (content : Tables) : Type 0 where
  pub store : IsErrOf result (Keep cause.Store) ↔ (is_failed ≡ true)
  pub damaged : is_honest → AreSound content → ¬ (IsErrOf result (Keep cause.Damaged))
