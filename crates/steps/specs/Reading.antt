-- What a reader of records has read of a text.
use Rattle.std.specs.Prelude.{◌≡◌, ◌⊎◌, Bool, true, false, ℕ, List, [], ◌∷◌, ◌++◌, Option, Some}
use Rattle.csv.specs.Reading.{Reached, Ready, default_config, records, source_of, strip_bom}
use Rattle.csv.specs.declared.error.ErrorKind.{ErrorKind}
use Rattle.csv.specs.declared.error.ErrorKind.TheVariants as kind
use Rattle.csv.specs.declared.parser.State.TheVariants as st
use Rattle.csv.specs.declared.reader.Reader.{Reader}
use Rattle.csv.specs.declared.reader.Trim.TheVariants as trim
use Rattle.steps.specs.declared.fault.BandsFault.{BandsFault}
use Rattle.steps.specs.declared.fault.BandsFault.TheVariants.{Csv, Device, Memory}

-- the records of a text, with a byte order mark taken off
abbrev pub records_of : List ℕ → List (List (List ℕ))
records_of text = records default_config (strip_bom text)

-- the fault of an error of the csv crate
abbrev pub fault_at : ErrorKind → BandsFault
fault_at (kind.Io e) = Device
fault_at kind.OutOfMemory = Memory
fault_at (kind.Utf8 pos err) = Csv
fault_at (kind.UnequalLengths pos expected len) = Csv
fault_at (kind.Serialize text) = Csv
fault_at (kind.Deserialize pos err) = Csv

-- the reader reads records of bytes of any length, with the crate's defaults and no header row
pub record IsPlain {R : Type 0} (reader : Reader R) : Type 0 where
  pub untrimmed : reader.trim ≡ trim.None
  pub ready : Ready reader
  pub config : reader.config ≡ default_config
  pub flexible : reader.flexible ≡ true

-- the reader is plain, and has read these records of the text
pub record HasRead {R : Type 0} (rem : R → Option (List ℕ)) (reader : Reader R) (rows : List (List (List ℕ))) (text : List ℕ) : Type 0 where
  pub plain : IsPlain reader
  pub unread : List ℕ
  pub source : source_of rem reader ≡ Some unread
  pub reached : Reached default_config st.StartRecord (strip_bom text) rows reader.state unread

-- a read gave one more record of the text, or the records were all of it
abbrev pub ReadsOn : {R : Type 0} → Bool → (R → Option (List ℕ)) → Reader R → List (List (List ℕ)) → List (List ℕ) → List ℕ → Type 0
ReadsOn true rem reader rows fields text = HasRead rem reader (rows ++ fields ∷ []) text
ReadsOn false rem reader rows fields text = records_of text ≡ rows

-- a fault that is none of the records'
abbrev pub IsOutside : BandsFault → Type 0
IsOutside fault = (fault ≡ Memory) ⊎ (fault ≡ Device)
