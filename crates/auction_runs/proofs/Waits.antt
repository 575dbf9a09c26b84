-- What was handed on where the input of a replay failed.
use Rattle.std.proofs.Common.{◌≡◌, Bool, false, Result, Ok, Err, ap, inl, inr}
use Rattle.std.specs.Prelude.{IfErr, IsErr, IsErrAnd}
use Rattle.house_rows.specs.declared.fault.KeepFault.TheVariants as kept
use Rattle.site_serve.specs.declared.server.ServeFault.{ServeFault}
use Rattle.site_serve.specs.declared.server.ServeFault.TheVariants as serving
use Rattle.auction_runs.specs.Faults.{IsOfKeep, IsOfReplay, IsOfReplayed, fault_of_serving}
use Rattle.auction_runs.specs.declared.fault.TaskFault.{TaskFault}
use Rattle.auction_runs.specs.declared.fault.TaskFault.TheVariants.{Read}

-- no keep reports that the input failed
no_keep_reads : (fault : TaskFault) → IsOfKeep fault → fault ≡ Read → ⊥
no_keep_reads fault (kept.Memory, is) same = absurd cc
no_keep_reads fault (kept.Store, is) same = absurd cc
no_keep_reads fault (kept.Damaged, is) same = absurd cc

-- so what is handed on of a keep's fault is not that
pub never_read : {T P : Type 0} (f : TaskFault) (result : Result T TaskFault)
    → IsErr result × IsErrAnd result (λ report. report ≡ f) → IsOfKeep f → result ≡ Err Read → P
never_read f (Ok x) gives why is = absurd gives.1
never_read f (Err report) gives why is =
    let same : f ≡ Read = cc (gives.1, is) in
    absurd (no_keep_reads f why same)

-- nor does a run report it whose input has not failed
pub never_after : {T P : Type 0} (output_failed : Bool) (r : Result T TaskFault)
    → IfErr r (IsOfReplay false output_failed) → r ≡ Err Read → P
never_after output_failed (Ok x) why is = absurd cc
never_after output_failed (Err fault) (inl why) is =
    let same : fault ≡ Read = cc is in
    absurd (no_keep_reads fault why same)
never_after output_failed (Err fault) (inr (inl (same, failed))) is = absurd cc
never_after output_failed (Err fault) (inr (inr (same, failed))) is = absurd cc

-- where serving was told that the source failed, what serving promises of that is so
pub read_by_serving : {T S P : Type 0} (r : Result S ServeFault) (f : ServeFault)
    (result : Result T TaskFault)
    → IsErr result × IsErrAnd result (λ report. report ≡ fault_of_serving f) → r ≡ Err f
    → (r ≡ Err serving.Read → P) → result ≡ Err Read → P
read_by_serving r f (Ok x) gives gave waits is = absurd gives.1
read_by_serving r serving.Read (Err report) gives gave waits is = waits gave
read_by_serving r serving.Write (Err report) gives gave waits is = absurd cc
read_by_serving r serving.Memory (Err report) gives gave waits is = absurd cc

-- both facts of a fault
pub with_waits : {T P : Type 0} (input_failed output_failed : Bool) (r : Result T TaskFault)
    → IfErr r (IsOfReplay input_failed output_failed) → (r ≡ Err Read → P)
    → IfErr r (IsOfReplayed input_failed output_failed P)
with_waits input_failed output_failed (Ok x) why waits = tt
with_waits input_failed output_failed (Err fault) why waits = (why, λ is. waits (ap Err is))
