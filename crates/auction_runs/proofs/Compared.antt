-- Two runs that were compared.
use Rattle.std.proofs.Common.{◌≡◌, Result, Ok, Err, sym, subst}
use Rattle.std.specs.Prelude.{IfErr, IsErr, IsErrAnd}
use Rattle.site_audit.specs.declared.fault.AuditFault.{AuditFault}
use Rattle.auction_runs.specs.Faults.{fault_of_audit}
use Rattle.auction_runs.specs.declared.fault.TaskFault.{TaskFault}

-- where an audit gave a fault, what is so of the one that stands for it is so of what is told
pub unaudited : {T : Type 0} (Why : TaskFault → Type 0) (f : AuditFault) (result : Result T TaskFault)
    → IsErr result × IsErrAnd result (λ report. report ≡ fault_of_audit f)
    → Why (fault_of_audit f) → IfErr result Why
unaudited Why f (Ok verdict) gave why = absurd gave.1
unaudited Why f (Err report) gave why = subst Why (sym gave.1) why
