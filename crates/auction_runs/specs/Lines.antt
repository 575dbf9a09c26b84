-- The lines on standard error.
use Rattle.std.specs.Prelude.{◌≡◌, ◌⊎◌, ℕ, List, [], ◌∷◌, Bool, true, false, Option, Some, None, ◌++◌, codes, decimal}
use Rattle.std.specs.Io.KnownBytes.{Appends}
use Rattle.device.specs.Given.{AppendsBeginning}
use Rattle.device.specs.declared.sink.Sink as sink
use Rattle.auction_runs.specs.declared.fault.TaskFault.{TaskFault}
use Rattle.auction_runs.specs.declared.fault.TaskFault.TheVariants.{Memory, Store, Damaged, Bands, Zone, Read, Write, Socket, Date, Order, Member, Refused, Broken}
use Rattle.auction_runs.specs.declared.fault.TaskFault.TheVariants as lots
use Rattle.auction_runs.specs.declared.fault.Side.{Side}
use Rattle.auction_runs.specs.declared.fault.Side.TheVariants.{Left, Right, Only}
use Rattle.house_rows.specs.Names.{refusal_name}
use Rattle.steps.specs.Fault.{name_of}
use Rattle.steps.specs.declared.fault.BandsFault.{BandsFault}
use Rattle.steps.specs.declared.fault.BandsFault.TheVariants.{Csv, Head, Row, First, Order as OutOfOrder, Falls, TooMany, Device, Memory as NoMemory}

-- a fault's name, and its row where it has one
abbrev pub named_with : List ℕ → Option ℕ → List ℕ
named_with name None = codes "auction: bands: " ++ name
named_with name (Some row) = codes "auction: bands: " ++ name ++ codes " " ++ decimal row

-- the line of a fault of a band table
abbrev pub bands_line : BandsFault → List ℕ
bands_line NoMemory = codes "auction: memory"
bands_line Csv = named_with (name_of Csv) None
bands_line Head = named_with (name_of Head) None
bands_line (Row row) = named_with (name_of (Row row)) (Some row)
bands_line First = named_with (name_of First) None
bands_line (OutOfOrder row) = named_with (name_of (OutOfOrder row)) (Some row)
bands_line (Falls row) = named_with (name_of (Falls row)) (Some row)
bands_line TooMany = named_with (name_of TooMany) None
bands_line Device = named_with (name_of Device) None

-- the word for a file of messages
abbrev pub side_name : Side → List ℕ
side_name Left = codes "LEFT"
side_name Right = codes "RIGHT"
side_name Only = codes "LIST"

-- the line of a fault
abbrev pub line_of : TaskFault → List ℕ
line_of Memory = codes "auction: memory"
line_of Store = codes "auction: file: Store"
line_of Damaged = codes "auction: file: Damaged"
line_of (Bands fault) = bands_line fault
line_of Zone = codes "auction: zone"
line_of Read = codes "auction: input: Read"
line_of Write = codes "auction: output: Write"
line_of Socket = codes "auction: socket"
line_of Date = codes "auction: date"
line_of Order = codes "auction: order"
line_of Member = codes "auction: no member"
line_of (Refused refusal) = codes "auction: refused " ++ refusal_name refusal
line_of lots.Head = codes "auction: lots: Head"
line_of lots.Csv = codes "auction: lots: Csv"
line_of (Broken side) = codes "auction: " ++ side_name side ++ codes " is no list of messages"

-- A sink took a beginning of the line of a fault. Where it has not failed it took all of it, and handed on
-- all that it took.
pub record IsTold {W : Type 0} (w : sink.Ghosts W) (old new : W) (fault : TaskFault) : Type 0 where
  pub part : AppendsBeginning (w.taken old) (w.taken new) (line_of fault ++ 10 ∷ [])
  pub whole : w.has_failed new ≡ false
      → Appends (w.taken old) (w.taken new) (line_of fault ++ 10 ∷ [])
  pub handed_on : w.has_failed new ≡ false → w.handed_on new ≡ w.taken new

-- by the exit status of a run: nothing was written, or the line of a fault that it may have
abbrev pub IsReported : {W : Type 0} → sink.Ghosts W → (TaskFault → Type 0) → W → W → ℕ → Type 0
IsReported w MayHave old new status = (status ≡ 0 → new ≡ old)
    × (status ≡ 1 → (fault : TaskFault) × MayHave fault × IsTold w old new fault)

-- by the exit status of a run that finds something out: 0 where it found that it is so, and 1 where
-- it found that it isn't, each with nothing written; or the line of a fault that it may have, with
-- status 1
abbrev pub TellsFinding : {W : Type 0} → sink.Ghosts W → (Bool → Type 0) → (TaskFault → Type 0)
    → W → W → ℕ → Type 0
TellsFinding w Found MayHave old new status = (status ≡ 0 → Found true × (new ≡ old))
    × (status ≡ 1 → (Found false × (new ≡ old))
    ⊎ ((fault : TaskFault) × MayHave fault × IsTold w old new fault))
