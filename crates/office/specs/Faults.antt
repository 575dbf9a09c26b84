-- Which fault of the office stands for one of a keep, or of the reader of a lot file.
use Rattle.csv.specs.declared.error.ErrorKind.{ErrorKind}
use Rattle.csv.specs.declared.error.ErrorKind.TheVariants as kind
use Rattle.house_rows.specs.declared.fault.KeepFault.{KeepFault}
use Rattle.house_rows.specs.declared.fault.KeepFault.TheVariants as keep
use Rattle.office.specs.declared.account.StatementFault.{StatementFault}
use Rattle.office.specs.declared.account.StatementFault.TheVariants as office
use Rattle.office.specs.declared.fault.ImportFault.{ImportFault}
use Rattle.office.specs.declared.fault.ImportFault.TheVariants as importing

abbrev pub fault_of_keep : KeepFault → StatementFault
fault_of_keep keep.Memory = office.Memory
fault_of_keep keep.Store = office.Store
fault_of_keep keep.Damaged = office.Damaged

abbrev pub import_fault : KeepFault → ImportFault
import_fault keep.Memory = importing.Memory
import_fault keep.Store = importing.Store
import_fault keep.Damaged = importing.Damaged

-- the fault of an error of the csv crate
abbrev pub reading_fault : ErrorKind → ImportFault
reading_fault (kind.Io e) = importing.Read
reading_fault kind.OutOfMemory = importing.Memory
reading_fault (kind.Utf8 pos err) = importing.Csv
reading_fault (kind.UnequalLengths pos expected len) = importing.Csv
reading_fault (kind.Serialize text) = importing.Csv
reading_fault (kind.Deserialize pos err) = importing.Csv

-- the faults of looking a member up: it isn't there, or one of the keep
abbrev pub IsLookUpFault : ImportFault → Type 0
IsLookUpFault importing.Member = Unit {0}
IsLookUpFault importing.Memory = Unit {0}
IsLookUpFault importing.Store = Unit {0}
IsLookUpFault importing.Damaged = Unit {0}
IsLookUpFault importing.Head = ⊥
IsLookUpFault importing.Csv = ⊥
IsLookUpFault importing.Read = ⊥
IsLookUpFault importing.Write = ⊥
