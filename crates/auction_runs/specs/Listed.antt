-- What an import does to a house, and what it prints.
use Rattle.std.specs.Prelude.{◌≡◌, ◌≢◌, ◌⊎◌, ◌↔◌, ◌++◌, ℕ, List, [], Bool, true, false, Option, Some, Result, Ok, Err, is_some}
use Rattle.std.specs.Io.KnownBytes.{Appends, Keeps}
use Rattle.std.specs.List.{FoldsTo}
use Rattle.house_rows.specs.Answers.{Reads}
use Rattle.house_rows.specs.Keeping.{AreSound, IsRead}
use Rattle.house_rows.specs.Pages.{member_at}
use Rattle.house_rows.specs.Tables.{Tables}
use Rattle.house_rows.specs.Taken.{MemberFitsAt}
use Rattle.house_rows.specs.declared.keep.Keep as keep
use Rattle.office.specs.Imports.{HasEnded, HasListed, HasOrdered, IsCounted}
use Rattle.office.specs.Lines.{totals_line}
use Rattle.office.specs.Tallies.{nothing}
use Rattle.office.specs.declared.fault.ImportFault.{ImportFault}
use Rattle.office.specs.declared.lister.Lister.{Lister}
use Rattle.office.specs.declared.outcome.Outcome.TheVariants.{Refused}
use Rattle.office.specs.declared.tally.Imported.{Imported}
use Rattle.settle.specs.Zoned.{IsZoneOf}
use Rattle.settle.specs.declared.zone.Zone.{Zone}
use Rattle.site.specs.Replies.{IsReadable, IsStep}
use Rattle.site_request.specs.declared.asked.Asked.{Asked}
use Rattle.steps.specs.Reading.{records_of}
use Rattle.auction_runs.specs.Begun.{IsUnbegun}
use Rattle.auction_runs.specs.Faults.{IsOfClosing, IsOfKeep, fault_of_import}
use Rattle.auction_runs.specs.Over.{IsOver}
use Rattle.auction_runs.specs.declared.fault.TaskFault.{TaskFault}
use Rattle.auction_runs.specs.declared.fault.TaskFault.TheVariants.{Damaged, Member, Store, Write}

-- the keep was asked whether the member is registered, who is
pub record IsKnown {K : Type 0} (content : K → Tables) (is_failed : K → Bool)
    (is_honest : K → Type 0) (may_leave : K → Tables → Type 0) (member : ℕ) (old new : K) :
    Type 0 where
  pub read : IsRead content is_failed is_honest may_leave old new
  pub works : is_failed new ≡ false
  pub known : is_honest new → is_some (member_at (content old).members member) ≡ true

-- the keep that was given took orders of some lots, of the member at the moment and nothing else, and
-- was ended
pub record HasTaken {K : Type 0} (content : K → Tables) (is_failed : K → Bool)
    (is_honest : K → Type 0) (may_leave : K → Tables → Type 0) (is_ended : K → Type 0)
    (by : Lister) (given : K) : Type 0 where
  pub asked : K
  pub member : IsKnown content is_failed is_honest may_leave by.member given asked
  pub zone : Zone
  pub kept_zone : is_honest asked → IsZoneOf (content asked).settings.zone zone
  pub left : K
  pub ordered : HasOrdered (IsStep content is_failed is_honest may_leave zone) by asked left
  pub ended : is_ended left

-- a keep was read, and then took orders of some lots, of the member at the moment
pub record HasOrderedIn {K : Type 0} (content : K → Tables) (is_failed : K → Bool)
    (is_honest : K → Type 0) (may_leave : K → Tables → Type 0) (by : Lister) (given last : K) :
    Type 0 where
  pub asked : K
  pub read : IsRead content is_failed is_honest may_leave given asked
  pub works : is_failed asked ≡ false
  pub zone : Zone
  pub kept_zone : is_honest asked → IsZoneOf (content asked).settings.zone zone
  pub ordered : HasOrdered (IsStep content is_failed is_honest may_leave zone) by asked last

-- nothing else changed it, and it may have been read alone
abbrev pub HasOrderedOnly : {K : Type 0} → (K → Tables) → (K → Bool) → (K → Type 0)
    → (K → Tables → Type 0) → Lister → K → K → Type 0
HasOrderedOnly content is_failed is_honest may_leave by given last =
    IsRead content is_failed is_honest may_leave given last
    ⊎ HasOrderedIn content is_failed is_honest may_leave by given last

-- this is left of a keep that took orders of lots, however that ended
pub record IsOrderedOver {K L : Type 0} (content : K → Tables) (is_failed : K → Bool)
    (is_honest : K → Type 0) (may_leave : K → Tables → Type 0) (is_ended is_left : K → L → Type 0)
    (by : Lister) (given : K) (left : L) : Type 0 where
  pub last : K
  pub ordered : HasOrderedOnly content is_failed is_honest may_leave by given last
  pub over : IsOver is_ended is_left last left

-- these are the orders of the rows of a lot file, which were dealt with in turn; what became of each
-- was printed, and the totals
pub record HasDealt {K : Type 0} (content : K → Tables) (is_failed : K → Bool)
    (is_honest : K → Type 0) (may_leave : K → Tables → Type 0) (is_ended : K → Type 0)
    (by : Lister) (text : List ℕ) (before after : Option (List ℕ)) (given : K) (report : Imported) :
    Type 0 where
  pub house : HasTaken content is_failed is_honest may_leave is_ended by given
  pub listed : HasListed (IsStep content is_failed is_honest may_leave house.zone)
      (λ printed. Appends before after (printed ++ totals_line report))
      by (records_of text) report house.asked house.left

-- a row was dealt with, and it was listed, or there already
pub record IsHad {K : Type 0} (Step : Asked → List ℕ → K → K → Type 0) (by : Lister)
    (old : K × Imported × List ℕ) (fields : List (List ℕ)) (new : K × Imported × List ℕ) :
    Type 0 where
  pub dealt : IsCounted Step by old fields new
  pub had : dealt.outcome ≢ Refused

-- and so was each
pub record HasAll {K : Type 0} (content : K → Tables) (is_failed : K → Bool)
    (is_honest : K → Type 0) (may_leave : K → Tables → Type 0) (is_ended : K → Type 0)
    (by : Lister) (text : List ℕ) (before after : Option (List ℕ)) (given : K) : Type 0 where
  pub report : Imported
  pub run : HasDealt content is_failed is_honest may_leave is_ended by text before after given report
  pub had : FoldsTo (IsHad (IsStep content is_failed is_honest may_leave run.house.zone) by)
      (run.house.asked, nothing, []) run.listed.rows (run.house.left, report, run.listed.printed)

-- ---- an import that ended before its end

-- some rows of a lot file were dealt with in turn and their lines printed, and then it ended with a fault
pub record HasDealtSome {K : Type 0} (k : keep.Ghosts K) (by : Lister) (text : List ℕ)
    (before after : Option (List ℕ)) (given : K) (fault : TaskFault) (last : K) : Type 0 where
  pub asked : K
  pub member : IsKnown k.content k.is_failed k.is_honest k.may_leave by.member given asked
  pub zone : Zone
  pub kept_zone : k.is_honest asked → IsZoneOf (k.content asked).settings.zone zone
  pub importing : ImportFault
  pub report : fault ≡ fault_of_import importing
  pub ended : HasEnded (IsStep k.content k.is_failed k.is_honest k.may_leave zone)
      (Appends before after) by (records_of text) importing asked last

-- all rows were, and their lines and the totals printed, over this keep
abbrev pub HasDealtAll : {K : Type 0} → keep.Ghosts K → Lister → List ℕ → Option (List ℕ)
    → Option (List ℕ) → K → K → Type 0
HasDealtAll k by text before after given last = (report : Imported)
    × HasDealt k.content k.is_failed k.is_honest k.may_leave (λ left. left ≡ last) by text before after
    given report

-- Of an import that ended with a fault nothing was printed, or that; or all was, and could not be handed on.
abbrev pub IsDealtPart : {K : Type 0} → keep.Ghosts K → Lister → List ℕ → Option (List ℕ)
    → Option (List ℕ) → K → TaskFault → K → Type 0
IsDealtPart k by text before after given fault last = Keeps before after
    ⊎ HasDealtSome k by text before after given fault last
    ⊎ ((fault ≡ Write) × HasDealtAll k by text before after given last)

-- what was printed of a lot file, however its import ended
abbrev pub HasPrinted : {K : Type 0} → keep.Ghosts K → Lister → List ℕ → Option (List ℕ)
    → Option (List ℕ) → K → Type 0
HasPrinted {K} k by text before after given = (last : K)
    × (HasDealtAll k by text before after given last
    ⊎ ((fault : TaskFault) × IsDealtPart k by text before after given fault last))

-- ---- why a run of an import has a fault

-- why a keep whose zone can be read finds no member: nobody has its number, or it reported a fault,
-- Store exactly where it has failed, and never Damaged over sound tables, nor where the member's row
-- fits
pub record IsUnfound {K : Type 0} (k : keep.Ghosts K) (member : ℕ) (given last : K)
    (fault : TaskFault) : Type 0 where
  pub zone : k.is_honest given → IsReadable (k.content given).settings.zone
  pub reported : (fault ≡ Member) ⊎ IsOfKeep fault
  pub store : (fault ≡ Store) ↔ (k.is_failed last ≡ true)
  pub damaged : k.is_honest last → AreSound (k.content given) → fault ≢ Damaged
  pub undamaged : k.is_honest last → MemberFitsAt member (k.content given) → fault ≢ Damaged
  pub nobody : k.is_honest last → fault ≡ Member
      → is_some (member_at (k.content given).members member) ≡ false

-- why nothing can be listed for a member: no site can be begun over the keep, or it finds no member
abbrev pub IsUnready : {K : Type 0} → keep.Ghosts K → ℕ → K → K → TaskFault → Type 0
IsUnready k member given last fault =
    IsUnbegun (k.is_honest last) (k.is_failed last) (k.content last) fault
    ⊎ IsUnfound k member given last fault

-- the zone can be read and the member is known, but the lot file could not be opened
pub record HasNoLots {K R : Type 0} (k : keep.Ghosts K) (lots : Result R TaskFault) (member : ℕ)
    (given last : K) (fault : TaskFault) : Type 0 where
  pub zone : k.is_honest given → IsReadable (k.content given).settings.zone
  pub known : IsKnown k.content k.is_failed k.is_honest k.may_leave member given last
  pub unopened : lots ≡ Err fault

-- why an import was not started, over a keep that was only read
pub record IsUnstarted {K R : Type 0} (k : keep.Ghosts K) (lots : Result R TaskFault) (member : ℕ)
    (given last : K) (fault : TaskFault) : Type 0 where
  pub read : Reads k given last
  pub why : IsUnready k member given last fault ⊎ HasNoLots k lots member given last fault

-- an import was started and ended with this fault: where the bytes of its file are known, some rows
-- were dealt with, or all were and could not be handed on
pub record HasStopped {K R : Type 0} (k : keep.Ghosts K) (remaining : R → Option (List ℕ))
    (lots : Result R TaskFault) (by : Lister) (before after : Option (List ℕ)) (given last : K)
    (fault : TaskFault) : Type 0 where
  pub reader : R
  pub opened : lots ≡ Ok reader
  pub asked : K
  pub member : IsKnown k.content k.is_failed k.is_honest k.may_leave by.member given asked
  pub importing : ImportFault
  pub report : fault ≡ fault_of_import importing
  pub part : (text : List ℕ) → remaining reader ≡ Some text
      → HasDealtSome k by text before after given fault last
      ⊎ ((fault ≡ Write) × HasDealtAll k by text before after given last)

-- an import has a fault: it was not started and nothing was printed, or it was and ended with it
abbrev pub HasFault : {K R : Type 0} → keep.Ghosts K → (R → Option (List ℕ)) → Result R TaskFault
    → Lister → Option (List ℕ) → Option (List ℕ) → K → K → TaskFault → Type 0
HasFault k remaining lots by before after given last fault =
    (Keeps before after × IsUnstarted k lots by.member given last fault)
    ⊎ HasStopped k remaining lots by before after given last fault

-- an import came to its end with these counts: where the bytes of its file are known, all rows were
-- dealt with
pub record IsWhole {K R : Type 0} (k : keep.Ghosts K) (remaining : R → Option (List ℕ))
    (lots : Result R TaskFault) (is_ended : K → Type 0) (by : Lister)
    (before after : Option (List ℕ)) (given : K) (report : Imported) : Type 0 where
  pub reader : R
  pub opened : lots ≡ Ok reader
  pub house : HasTaken k.content k.is_failed k.is_honest k.may_leave is_ended by given
  pub dealt : (text : List ℕ) → remaining reader ≡ Some text
      → HasDealt k.content k.is_failed k.is_honest k.may_leave is_ended by text before after given
      report

-- and some row was refused
abbrev pub HasRefused : {K R : Type 0} → keep.Ghosts K → (R → Option (List ℕ)) → Result R TaskFault
    → (K → Type 0) → Lister → Option (List ℕ) → Option (List ℕ) → K → Type 0
HasRefused k remaining lots is_ended by before after given = (report : Imported)
    × (report.refused ≢ 0) × IsWhole k remaining lots is_ended by before after given report

-- why a run has a fault, by what is left of the keep: its import has it, or that came to its end
-- and the keep's end reported it
abbrev pub IsUnimported : {K L R : Type 0} → keep.Ghosts K → (R → Option (List ℕ))
    → Result R TaskFault → (K → L → Type 0) → (K → L → Type 0) → Lister → Option (List ℕ)
    → Option (List ℕ) → K → L → TaskFault → Type 0
IsUnimported {K} k remaining lots is_ended is_left by before after given left fault =
    ((last : K) × IsOver is_ended is_left last left
    × HasFault k remaining lots by before after given last fault)
    ⊎ ((report : Imported) × IsOfClosing fault
    × IsWhole k remaining lots (λ last. is_left last left) by before after given report)
