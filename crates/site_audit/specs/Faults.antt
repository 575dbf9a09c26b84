-- Why an audit finds nothing.
use Rattle.std.specs.Prelude.{ℕ}
use Rattle.house_rows.specs.declared.fault.KeepFault.{KeepFault}
use Rattle.house_rows.specs.declared.fault.KeepFault.TheVariants as keep_fault
use Rattle.site_audit.specs.declared.fault.AuditFault.{AuditFault}
use Rattle.site_audit.specs.declared.fault.AuditFault.TheVariants.{Memory, Store, NotNew}

-- the number of a fault
abbrev pub number_of : AuditFault → ℕ
number_of Memory = 1
number_of Store = 2
number_of NotNew = 3

-- what the fault of a keep is for an audit
abbrev pub fault_of_keep : KeepFault → AuditFault
fault_of_keep keep_fault.Memory = Memory
fault_of_keep keep_fault.Store = Store
fault_of_keep keep_fault.Damaged = Store
