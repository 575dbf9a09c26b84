-- What every change promises, of a table or of all.
use Rattle.std.specs.Prelude.{◌≡◌, Result, OnOk, OnErr, IsErrOf}
use Rattle.house_rows.specs.declared.change.Change.{Change}
use Rattle.house_rows.specs.declared.fault.KeepFault.{KeepFault}
use Rattle.house_rows.specs.declared.fault.KeepFault.TheVariants.{Store, Damaged}
use Rattle.house_rows.specs.Asks.{IsFree}
use Rattle.house_rows.specs.Changed.{changed}
use Rattle.house_rows.specs.Tables.{Tables}

-- it is made as wanted or not at all; only where the new key is free; and where it isn't, and only there, Damaged is answered
pub record Makes {X : Type 0} (result : Result (Unit {0}) KeepFault) (old new wanted : X) (is_free : Type 0) : Type 0 where
  pub ok : OnOk result (new ≡ wanted)
  pub err : OnErr result (new ≡ old)
  pub free : OnOk result is_free
  pub damaged : IsErrOf result Damaged → ¬ is_free
  pub taken : ¬ is_free → IsErrOf result Damaged
  pub store : ¬ (IsErrOf result Store)

-- the change of all tables, where its new key is free
abbrev pub Applies : Result (Unit {0}) KeepFault → Tables → Tables → Change → Type 0
Applies result old new change = Makes result old new (changed old change) (IsFree old change)
