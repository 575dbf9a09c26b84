-- What becomes of a sink into which a text is written.
use Rattle.std.specs.Prelude.{◌≡◌, ◌⊎◌, ℕ, List, Option, Bool, true, false, Result, OnOk, IfErr, IsErrOf}
use Rattle.std.specs.Io.KnownBytes.{Appends}
use Rattle.device.specs.Given.{AppendsBeginning}
use Rattle.settle.specs.declared.fault.SettleFault.{SettleFault}
use Rattle.settle.specs.declared.fault.SettleFault.TheVariants.{Memory, Write}

-- the sink took the text, or a beginning of it; `was` and `is` say whether it has failed
pub record IsWritten (old new : Option (List ℕ)) (was is : Bool) (result : Result (Unit {0}) SettleFault) (text : List ℕ) : Type 0 where
  -- Ok: it took all, and has not failed
  pub whole : OnOk result (Appends old new text)
  pub going : OnOk result (is ≡ false)
  -- else it took a beginning, which may be empty
  pub part : AppendsBeginning old new text
  -- Write is the fault where the sink is failed, and being out of memory does not fail it
  pub write : IsErrOf result Write → is ≡ true
  pub memory : IsErrOf result Memory → is ≡ was
  pub only : IfErr result (λ e. (e ≡ Write) ⊎ (e ≡ Memory))
  -- a failed sink stays failed
  pub stays : was ≡ true → is ≡ true
