-- Which rows of numbers are a band table, and the first fault of those that are none.
use Rattle.std.specs.Prelude.{if◌then◌else◌, ◌≡◌, ◌⊎◌, ◌↔◌, Bool, ◌+◌, ◌&&◌, List, [], ◌∷◌, ◌++◌, length, nat_le, Result, Ok, Err}
use Rattle.steps.specs.Table.{Band, IsBandTable}
use Rattle.steps.specs.Records.{AreBands, follows, last_of}
use Rattle.steps.specs.declared.fault.BandsFault.{BandsFault}
use Rattle.steps.specs.declared.fault.BandsFault.TheVariants.{First, Row, TooMany}

-- whether a row (at, step) is within its ranges
abbrev pub is_band : Band → Bool
is_band row = nat_le row.0 1000000000 && (nat_le 1 row.1 && nat_le row.1 1000000000)

-- the row after these bands, or the first fault that it has, in the order of judging
abbrev pub next_row : List Band → Band → Result Band BandsFault
next_row bands row =
    if nat_le 50 (length bands) then Err TooMany
    else if is_band row then follows (length bands + 1) row (last_of bands)
    else Err (Row (length bands + 1))

-- some row has this fault, and no row before it has one
pub record HasFaultyBand (rows : List Band) (fault : BandsFault) : Type 0 where
  pub before : List Band
  pub faulty : Band
  pub later : List Band
  pub parts : rows ≡ before ++ faulty ∷ later
  pub valid : AreBands before
  pub refused : next_row before faulty ≡ Err fault

-- this is the first fault of the rows: a row has it, or there is no row
abbrev pub HaveFault : List Band → BandsFault → Type 0
HaveFault rows fault = HasFaultyBand rows fault ⊎ ((fault ≡ First) × (rows ≡ []))

-- what is answered of the rows: a table as itself, and else the first fault
pub record AreJudged (rows : List Band) (answer : Result (List Band) BandsFault) : Type 0 where
  pub ok : (bands : List Band) → (answer ≡ Ok bands) ↔ ((bands ≡ rows) × IsBandTable rows)
  pub fault : (fault : BandsFault) → (answer ≡ Err fault) ↔ HaveFault rows fault
