-- What a run of the program did to the house in its file. Start here.
use Rattle.std.specs.Prelude.{◌≡◌, ◌⊎◌, ◌≤◌, ℕ, Bool, true, List}
use Rattle.steps.specs.Table.{Band}
use Rattle.auction_runs.specs.Over.{IsOver}
use Rattle.auction_runs.specs.Stated.{HasRead}
use Rattle.auction_runs.specs.Tabled.{HasSet, IsTabledOver}
use Rattle.auction_runs.specs.declared.fault.TaskFault.{TaskFault}
use Rattle.auction_runs.specs.declared.fault.TaskFault.TheVariants.{Socket, Store, Write}
use Rattle.auction_runs.specs.declared.statement.Inquiry.{Inquiry}
use Rattle.auction_words.specs.Houses.{IsSetBy}
use Rattle.auction_words.specs.declared.command_line.HouseWords.{HouseWords}
use Rattle.auction_words.specs.declared.command_line.StatementWords.{StatementWords}
use Rattle.house_rows.specs.declared.command.Command.TheVariants as command
use Rattle.house_rows.specs.declared.keep.Keep as keep
use Rattle.house_rows.specs.declared.settings.Settings.{Settings}
use Rattle.settle.specs.Calendar.{day_text}
use Rattle.settle.specs.Statement.{Account}
use Rattle.settle.specs.Zoned.{IsZoneOf}
use Rattle.settle.specs.declared.zone.Zone.{Zone}
use Rattle.site_connections.specs.Turns.{HasTakenSome, TakesEach, TakesWell}

-- ---- serving

-- so many connections were taken in turn over a keep, of those that come to a place, by its zone; it
-- failed in none of them, and nothing else was done to it
pub record HasAnswered {C K : Type 0} (k : keep.Ghosts K) (is_at : C → Type 0)
    (Takes : Zone → C × K → C × K → Type 0) (count : ℕ) (given last : K) : Type 0 where
  pub zone : Zone
  pub kept_zone : k.is_honest given → IsZoneOf (k.content given).settings.zone zone
  pub came : C
  pub listened : is_at came
  pub gone : C
  pub each : TakesEach (TakesWell k.is_failed (Takes zone)) count (came, given) (gone, last)

-- some were, and then accepting failed, the keep did, or a word of the run couldn't be written
pub record HasAnsweredSome {C K : Type 0} (k : keep.Ghosts K) (is_at : C → Type 0)
    (Takes : Zone → C × K → C × K → Type 0) (count : ℕ) (given last : K) : Type 0 where
  pub zone : Zone
  pub kept_zone : k.is_honest given → IsZoneOf (k.content given).settings.zone zone
  pub came : C
  pub listened : is_at came
  pub some : HasTakenSome k.is_failed (Takes zone) count (came, given) last

-- however it ended: or none was, since the zone can't be read or nobody listens
abbrev pub MayHaveAnswered : {C K : Type 0} → keep.Ghosts K → (C → Type 0)
    → (Zone → C × K → C × K → Type 0) → ℕ → K → K → Type 0
MayHaveAnswered k is_at Takes count given last =
    (last ≡ given) ⊎ HasAnsweredSome k is_at Takes count given last

-- why answering ended: the output failed, accepting did, or the keep has
abbrev pub IsServingFault : {K : Type 0} → keep.Ghosts K → K → TaskFault → Type 0
IsServingFault k last fault = (fault ≡ Write) ⊎ (fault ≡ Socket)
    ⊎ ((fault ≡ Store) × (k.is_failed last ≡ true))

-- a keep was begun in the way that is named, connections were answered, and it was ended
pub record HasServed {C K L : Type 0} (k : keep.Ghosts K) (is_at : C → Type 0)
    (is_ended : K → L → Type 0) (Takes : Zone → C × K → C × K → Type 0) (count : ℕ) (given : K)
    (left : L) : Type 0 where
  pub last : K
  pub answered : HasAnswered k is_at Takes count given last
  pub ended : is_ended last left

-- this is left of it, however it was served
pub record IsServedOver {C K L : Type 0} (k : keep.Ghosts K) (is_at : C → Type 0)
    (is_ended is_left : K → L → Type 0) (Takes : Zone → C × K → C × K → Type 0) (count : ℕ)
    (given : K) (left : L) : Type 0 where
  pub last : K
  pub answered : MayHaveAnswered k is_at Takes count given last
  pub over : IsOver is_ended is_left last left

-- ---- the words of the others

-- an inquiry is what words ask for
pub record IsAsked (words : StatementWords) (asked : Inquiry) : Type 0 where
  pub member : asked.member ≡ words.member
  pub from : words.from.now ≡ day_text asked.from
  pub to : words.to.now ≡ day_text asked.to
  pub order : asked.from ≤ asked.to
  pub csv : asked.csv ≡ words.csv

-- the account that words ask for was read from a keep, which was left as it was, and was ended
pub record HasAsked {K : Type 0} (k : keep.Ghosts K) (is_ended : K → Type 0)
    (words : StatementWords) (given : K) : Type 0 where
  pub asked : Inquiry
  pub by_words : IsAsked words asked
  pub account : Account
  pub read : HasRead k.content k.is_failed k.is_honest k.may_leave is_ended asked given account

-- a keep took a band table at the moment, and was ended
pub record HasSetTable {K : Type 0} (k : keep.Ghosts K) (is_ended : K → Type 0) (moment : ℕ)
    (given : K) : Type 0 where
  pub bands : List Band
  pub edition : ℕ
  pub set : HasSet k.content k.is_honest k.may_leave is_ended moment (command.SetBands bands) given
      edition

-- this is left of it, whatever table it was given
pub record MayHaveSetTable {K L : Type 0} (k : keep.Ghosts K) (is_ended is_left : K → L → Type 0)
    (moment : ℕ) (given : K) (left : L) : Type 0 where
  pub bands : List Band
  pub over : IsTabledOver k.content k.is_honest k.may_leave is_ended is_left moment
      (command.SetBands bands) given left

-- ---- a run over a file: a keep was begun in this way, and this was done over it

pub record HasDone {K L : Type 0} (Begins : K → Type 0) (Does : K → L → Type 0) (left : L) : Type 0
  where
    pub given : K
    pub begun : Begins given
    pub done : Does given left

-- a keep was made of a new house, as the words set it up
pub record IsMadeBy {K : Type 0} (Makes : Settings → K → Type 0) (words : HouseWords) (keep : K) :
    Type 0 where
  pub settings : Settings
  pub by_words : IsSetBy words settings
  pub made : Makes settings keep

-- what is left where none was made
pub record IsLeftBy {R : Type 0} (Holds : Settings → R → Type 0) (words : HouseWords) (rest : R) :
    Type 0 where
  pub settings : Settings
  pub by_words : IsSetBy words settings
  pub holds : Holds settings rest

-- a keep was opened, and upgraded where its house was of version 1
pub record IsUpgradedAs {K : Type 0} (Opens : Bool → K → Type 0) (keep : K) : Type 0 where
  pub was_first : Bool
  pub upgraded : Opens was_first keep
