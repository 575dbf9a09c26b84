-- Which fault of the program stands for a fault of a layer below it.
use Rattle.std.specs.Prelude.{◌≡◌, ◌⊎◌, ℕ, List, Bool, true, Option, Result, Err, IsOk}
use Rattle.std.specs.Io.KnownBytes.{Keeps}
use Rattle.auction_runs.specs.declared.fault.TaskFault.{TaskFault}
use Rattle.auction_runs.specs.declared.fault.TaskFault.TheVariants.{Memory as NoMemory, Store as FailedStore, Damaged as DamagedFile, Read as FailedInput, Write as FailedOutput}
use Rattle.auction_runs.specs.declared.fault.TaskFault.TheVariants as report
use Rattle.auction_runs.specs.declared.fault.Side.{Side}
use Rattle.auction_words.specs.Houses.{IsUnset}
use Rattle.auction_words.specs.declared.command_line.HouseWords.{HouseWords}
use Rattle.auction_words.specs.declared.settings.SettingsFault.{SettingsFault}
use Rattle.auction_words.specs.declared.settings.SettingsFault.TheVariants as unset
use Rattle.house_rows.specs.declared.fault.KeepFault.{KeepFault}
use Rattle.house_rows.specs.declared.fault.KeepFault.TheVariants.{Memory, Store, Damaged}
use Rattle.office.specs.declared.account.StatementFault.{StatementFault}
use Rattle.office.specs.declared.account.StatementFault.TheVariants as stating
use Rattle.office.specs.declared.fault.ImportFault.{ImportFault}
use Rattle.office.specs.declared.fault.ImportFault.TheVariants as importing
use Rattle.settle.specs.declared.fault.SettleFault.{SettleFault}
use Rattle.settle.specs.declared.fault.SettleFault.TheVariants as settling
use Rattle.site_audit.specs.declared.fault.AuditFault.{AuditFault}
use Rattle.site_audit.specs.declared.fault.AuditFault.TheVariants as auditing
use Rattle.site_audit.specs.declared.messages.MessagesFault.{MessagesFault}
use Rattle.site_audit.specs.declared.messages.MessagesFault.TheVariants as reading
use Rattle.site_serve.specs.declared.server.ServeFault.{ServeFault}
use Rattle.site_serve.specs.declared.server.ServeFault.TheVariants.{Memory as UnbegunMemory, Read, Write}

-- what stands for a fault of a keep
abbrev pub fault_of_keep : KeepFault → TaskFault
fault_of_keep Memory = NoMemory
fault_of_keep Store = FailedStore
fault_of_keep Damaged = DamagedFile

-- a fault that a keep reported
abbrev pub IsOfKeep : TaskFault → Type 0
IsOfKeep fault = (kept : KeepFault) × (fault ≡ fault_of_keep kept)

-- the fault that a keep's end reported
abbrev pub IsEndFault : Result (Unit {0}) KeepFault → TaskFault → Type 0
IsEndFault ended fault =
    (kept : KeepFault) × (ended ≡ Err kept) × (fault ≡ fault_of_keep kept)

-- a fault that an end reported, which is never damage: memory was refused, or the store failed
abbrev pub IsOfClosing : TaskFault → Type 0
IsOfClosing fault = (fault ≡ NoMemory) ⊎ (fault ≡ FailedStore)

-- a fault after what a run did, by how its keep's end went: the end reported it and nothing was written,
-- or the output failed after it
abbrev pub IsOfEnded : Result (Unit {0}) KeepFault → Option (List ℕ) → Option (List ℕ) → TaskFault
    → Type 0
IsOfEnded ended before after fault =
    (IsEndFault ended fault × Keeps before after) ⊎ ((fault ≡ FailedOutput) × IsOk ended)

-- and by what is left of the keep
abbrev pub IsOfEnd : {K L : Type 0} → (K → L → Type 0) → (K → L → Type 0) → K → L → Option (List ℕ)
    → Option (List ℕ) → TaskFault → Type 0
IsOfEnd is_ended is_left keep left before after fault =
    (IsOfClosing fault × is_left keep left × Keeps before after)
    ⊎ ((fault ≡ FailedOutput) × is_ended keep left)

-- what stands for a fault of the words that name settings
abbrev pub fault_of_settings : SettingsFault → TaskFault
fault_of_settings (unset.Bands fault) = report.Bands fault
fault_of_settings unset.Zone = report.Zone
fault_of_settings unset.Memory = report.Memory

-- words name no settings, and this is reported of it
abbrev pub IsOfSettings : HouseWords → TaskFault → Type 0
IsOfSettings words fault =
    (reason : SettingsFault) × IsUnset words reason × (fault ≡ fault_of_settings reason)

-- a fault of a file that is read: memory was refused, or it can't be opened
abbrev pub IsOfInput : TaskFault → Type 0
IsOfInput fault = (fault ≡ NoMemory) ⊎ (fault ≡ FailedInput)

-- what stands for a fault of serving
abbrev pub fault_of_serving : ServeFault → TaskFault
fault_of_serving Read = FailedInput
fault_of_serving Write = FailedOutput
fault_of_serving UnbegunMemory = NoMemory

-- a fault of a replay: memory was refused or the keep reported a fault of its own, the input failed, or
-- the output did
abbrev pub IsOfReplay : Bool → Bool → TaskFault → Type 0
IsOfReplay input_failed output_failed fault = IsOfKeep fault
    ⊎ ((fault ≡ FailedInput) × (input_failed ≡ true))
    ⊎ ((fault ≡ FailedOutput) × (output_failed ≡ true))

-- and where the input failed, this was so of the output
abbrev pub IsOfReplayed : Bool → Bool → Type 0 → TaskFault → Type 0
IsOfReplayed input_failed output_failed Flushed fault =
    IsOfReplay input_failed output_failed fault × (fault ≡ FailedInput → Flushed)

-- what stands for a fault of an import
abbrev pub fault_of_import : ImportFault → TaskFault
fault_of_import importing.Memory = report.Memory
fault_of_import importing.Store = report.Store
fault_of_import importing.Damaged = report.Damaged
fault_of_import importing.Member = report.Member
fault_of_import importing.Head = report.Head
fault_of_import importing.Csv = report.Csv
fault_of_import importing.Read = report.Read
fault_of_import importing.Write = report.Write

-- what stands for a fault of a statement
abbrev pub fault_of_statement : StatementFault → TaskFault
fault_of_statement stating.Memory = report.Memory
fault_of_statement stating.Store = report.Store
fault_of_statement stating.Damaged = report.Damaged
fault_of_statement stating.Order = report.Order
fault_of_statement stating.Member = report.Member

-- what stands for a fault of a day, or of writing a statement
abbrev pub fault_of_settling : SettleFault → TaskFault
fault_of_settling settling.Date = report.Date
fault_of_settling settling.Order = report.Order
fault_of_settling settling.Zone = report.Zone
fault_of_settling settling.Memory = report.Memory
fault_of_settling settling.Write = report.Write

-- what stands for a fault of an audit. A house that isn't new is none that the program made
abbrev pub fault_of_audit : AuditFault → TaskFault
fault_of_audit auditing.Memory = report.Memory
fault_of_audit auditing.Store = report.Store
fault_of_audit auditing.NotNew = report.Damaged

-- what stands for a fault of a side's messages
abbrev pub fault_of_messages : Side → MessagesFault → TaskFault
fault_of_messages side reading.Read = report.Read
fault_of_messages side reading.Memory = report.Memory
fault_of_messages side (reading.Broken fault) = report.Broken side
