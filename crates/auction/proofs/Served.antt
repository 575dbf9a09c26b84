-- How the answering of connections ended.
use Rattle.std.proofs.Common.{◌⊎◌, ℕ, inl, inr, Option, Result, Ok, Err}
use Rattle.std.specs.Prelude.{IfErr}
use Rattle.device.specs.declared.failure.Failure.{Failure}
use Rattle.house_rows.specs.declared.keep.Keep as keep
use Rattle.site_connections.specs.declared.connection.Connection.{Connection}
use Rattle.auction_runs.specs.Runs.{IsServingFault}
use Rattle.auction_runs.specs.Served.{StopsServing}
use Rattle.auction_runs.specs.declared.fault.TaskFault.{TaskFault}

-- by which fault
pub fault_of_stop : {C K R W T : Type 0} (k : keep.Ghosts K) (Takes : C × K → C × K → Type 0)
    (accepts : C → Result (Option (Connection R W)) Failure → C → Type 0) (count : ℕ)
    (old : C × K) (gone : C) (last : K) (r : Result T TaskFault)
    → IfErr r (StopsServing k.is_failed Takes accepts count old (gone, last))
    → IfErr r (IsServingFault k last)
fault_of_stop k Takes accepts count old gone last (Ok x) stops = tt
fault_of_stop k Takes accepts count old gone last (Err fault) (inl none) = inl none.0
fault_of_stop k Takes accepts count old gone last (Err fault) (inr (inl stopped)) = inr (inl stopped.0)
fault_of_stop k Takes accepts count old gone last (Err fault) (inr (inr failed)) =
    inr (inr (failed.0, failed.1.failed))
