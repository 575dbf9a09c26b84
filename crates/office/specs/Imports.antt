-- What an import does to a keep, and what it prints. A step is what answering one message does, and
-- `Prints` says of a text that the output grew by it.
use Rattle.std.specs.Prelude.{◌≡◌, ◌≢◌, ◌⊎◌, ℕ, ◌+◌, List, [], ◌∷◌, ◌++◌, length, false, Some, None, Result, IfErr, IfOk}
use Rattle.std.specs.List.{FoldsTo}
use Rattle.house_rows.specs.declared.fault.KeepFault.{KeepFault}
use Rattle.house_rows.specs.declared.fault.KeepFault.TheVariants as keep
use Rattle.site.specs.declared.engine.Site.{Site}
use Rattle.site_request.specs.Asked.{IsAsked}
use Rattle.site_request.specs.declared.asked.Asked.{Asked}
use Rattle.site_replies.specs.Texts.{fault_text}
use Rattle.office.specs.declared.column.Column.{Column}
use Rattle.office.specs.declared.fault.ImportFault.{ImportFault}
use Rattle.office.specs.declared.fault.ImportFault.TheVariants as importing
use Rattle.office.specs.declared.lot.Lot.{Lot}
use Rattle.office.specs.declared.lister.Lister.{Lister}
use Rattle.office.specs.declared.outcome.Outcome.{Outcome}
use Rattle.office.specs.declared.outcome.Outcome.TheVariants.{Refused}
use Rattle.office.specs.declared.tally.Imported.{Imported}
use Rattle.office.specs.Lines.{fault_line, range_line, report_line}
use Rattle.office.specs.Lots.{IsFirstFault, Spells, head}
use Rattle.office.specs.Listings.{IsOrderOf}
use Rattle.office.specs.Orders.{message_of, order_text}
use Rattle.office.specs.Outcomes.{Fails, Tells}
use Rattle.office.specs.Tallies.{counted, nothing, sum_of}

-- the keep of a site
abbrev pub keep_of : {K : Type 0} → Site K → K
keep_of site = site.keep

-- a message was answered, and what the reply says was printed, or it ended the import
pub record IsReported {K : Type 0} (Step : Asked → List ℕ → K → K → Type 0)
    (Prints : List ℕ → Type 0) (text : List ℕ) (number : ℕ) (result : Result Outcome ImportFault)
    (old new : K) : Type 0 where
  pub asked : Asked
  pub by_text : IsAsked text asked
  pub reply : List ℕ
  pub step : Step asked reply old new
  pub report : IfOk result (λ outcome. Tells reply outcome × Prints (report_line number outcome reply))
  pub failed : IfErr result (Fails reply)

-- the order of a lot was answered
pub record IsOrder {K : Type 0} (Step : Asked → List ℕ → K → K → Type 0) (by : Lister)
    (old : K) (lot : Lot) (new : K) : Type 0 where
  pub asked : Asked
  pub order : IsOrderOf by lot asked
  pub reply : List ℕ
  pub step : Step asked reply old new

-- orders were answered, of some lots in turn and nothing else
pub record HasOrdered {K : Type 0} (Step : Asked → List ℕ → K → K → Type 0) (by : Lister)
    (old new : K) : Type 0 where
  pub lots : List Lot
  pub orders : FoldsTo (IsOrder Step by) old lots new

-- the body of a lot's order is too long for a message, so it wasn't made
pub record IsTooLong {K : Type 0} (by : Lister) (number : ℕ) (lot : Lot) (outcome : Outcome)
    (line : List ℕ) (old new : K) : Type 0 where
  pub too_long : message_of by lot ≡ None
  pub refused : outcome ≡ Refused
  pub line_is : line ≡ range_line number
  pub same : new ≡ old

-- the order of a lot was answered, and came to what the reply says
pub record IsListing {K : Type 0} (Step : Asked → List ℕ → K → K → Type 0) (by : Lister)
    (number : ℕ) (lot : Lot) (outcome : Outcome) (line : List ℕ) (old new : K) : Type 0 where
  pub fits : message_of by lot ≡ Some (order_text by lot)
  pub asked : Asked
  pub order : IsOrderOf by lot asked
  pub reply : List ℕ
  pub step : Step asked reply old new
  pub report : Tells reply outcome
  pub line_is : line ≡ report_line number outcome reply

-- what became of a lot, and the line about it
abbrev pub IsDone : {K : Type 0} → (Asked → List ℕ → K → K → Type 0) → Lister → ℕ → Lot → Outcome
    → List ℕ → K → K → Type 0
IsDone Step by number lot outcome line old new =
    IsTooLong by number lot outcome line old new ⊎ IsListing Step by number lot outcome line old new

-- a field of a row can't be read
pub record IsUnread {K : Type 0} (number : ℕ) (fields : List (List ℕ)) (outcome : Outcome)
    (line : List ℕ) (old new : K) : Type 0 where
  pub column : Column
  pub fault : IsFirstFault fields column
  pub refused : outcome ≡ Refused
  pub line_is : line ≡ fault_line number column
  pub same : new ≡ old

-- what became of the row of a number, and the line about it
pub record IsRow {K : Type 0} (Step : Asked → List ℕ → K → K → Type 0) (by : Lister)
    (number : ℕ) (fields : List (List ℕ)) (outcome : Outcome) (line : List ℕ) (old new : K) :
    Type 0 where
  pub whole : length fields ≡ 7
  pub became : IsUnread number fields outcome line old new
      ⊎ ((lot : Lot) × Spells fields lot × IsDone Step by number lot outcome line old new)

-- a row was dealt with, counted, and printed after those before it
pub record IsCounted {K : Type 0} (Step : Asked → List ℕ → K → K → Type 0) (by : Lister)
    (old : K × Imported × List ℕ) (fields : List (List ℕ)) (new : K × Imported × List ℕ) :
    Type 0 where
  pub outcome : Outcome
  pub line : List ℕ
  pub row : IsRow Step by (sum_of old.1 + 1) fields outcome line old.0 new.0
  pub count : new.1 ≡ counted old.1 outcome
  pub printed : new.2 ≡ old.2 ++ line

-- rows were dealt with in turn, this is their count, and these are their lines
abbrev pub HasImported : {K : Type 0} → (Asked → List ℕ → K → K → Type 0) → Lister
    → List (List (List ℕ)) → K → K → Imported → List ℕ → Type 0
HasImported Step by rows old new report printed =
    FoldsTo (IsCounted Step by) (old, nothing, []) rows (new, report, printed)

-- all rows of a file were dealt with in turn, and their lines printed
pub record HasListed {K : Type 0} (Step : Asked → List ℕ → K → K → Type 0)
    (Prints : List ℕ → Type 0) (by : Lister) (records : List (List (List ℕ))) (report : Imported)
    (old new : K) : Type 0 where
  pub rows : List (List (List ℕ))
  pub all : records ≡ head ∷ rows
  pub printed : List ℕ
  pub imported : HasImported Step by rows old new report printed
  pub shown : Prints printed

-- the order of a lot was answered by the text of a fault
pub record IsFaulty {K : Type 0} (Step : Asked → List ℕ → K → K → Type 0) (by : Lister)
    (lot : Lot) (fault : KeepFault) (old new : K) : Type 0 where
  pub asked : Asked
  pub order : IsOrderOf by lot asked
  pub step : Step asked (fault_text fault false) old new

-- how an import ends at a lot: memory was refused before its order, or the order was answered by
-- the text of a fault, or what became of the lot can't be printed
abbrev pub EndsAtLot : {K : Type 0} → (Asked → List ℕ → K → K → Type 0) → Lister → ℕ → Lot
    → ImportFault → K → K → Type 0
EndsAtLot Step by number lot importing.Memory old new =
    (new ≡ old) ⊎ IsFaulty Step by lot keep.Memory old new
EndsAtLot Step by number lot importing.Store old new = IsFaulty Step by lot keep.Store old new
EndsAtLot Step by number lot importing.Damaged old new = IsFaulty Step by lot keep.Damaged old new
EndsAtLot Step by number lot importing.Write old new =
    (outcome : Outcome) × (line : List ℕ) × IsDone Step by number lot outcome line old new
EndsAtLot Step by number lot importing.Member old new = ⊥
EndsAtLot Step by number lot importing.Head old new = ⊥
EndsAtLot Step by number lot importing.Csv old new = ⊥
EndsAtLot Step by number lot importing.Read old new = ⊥

-- how an import ends at a lot that a row spells
pub record IsLotEnd {K : Type 0} (Step : Asked → List ℕ → K → K → Type 0) (by : Lister)
    (number : ℕ) (fields : List (List ℕ)) (fault : ImportFault) (old new : K) : Type 0 where
  pub whole : length fields ≡ 7
  pub lot : Lot
  pub spelled : Spells fields lot
  pub ended : EndsAtLot Step by number lot fault old new

-- the line about a row that can't be read can't be printed
pub record IsUnprinted {K : Type 0} (number : ℕ) (fields : List (List ℕ)) (fault : ImportFault)
    (old new : K) : Type 0 where
  pub whole : length fields ≡ 7
  pub write : fault ≡ importing.Write
  pub outcome : Outcome
  pub line : List ℕ
  pub unread : IsUnread number fields outcome line old new

-- a row has another number of fields
pub record IsOther {K : Type 0} (fields : List (List ℕ)) (fault : ImportFault) (old new : K) :
    Type 0 where
  pub csv : fault ≡ importing.Csv
  pub other : length fields ≢ 7
  pub same : new ≡ old

-- how an import ends at a row
abbrev pub EndsAtRow : {K : Type 0} → (Asked → List ℕ → K → K → Type 0) → Lister → ℕ
    → List (List ℕ) → ImportFault → K → K → Type 0
EndsAtRow Step by number fields fault old new = IsOther fields fault old new
    ⊎ (IsUnprinted number fields fault old new ⊎ IsLotEnd Step by number fields fault old new)

-- what may end an import between two rows: memory was refused, the reader failed, or after the
-- last the totals can't be printed
abbrev pub IsBreak : ImportFault → List (List (List ℕ)) → Type 0
IsBreak importing.Memory rest = Unit {0}
IsBreak importing.Read rest = Unit {0}
IsBreak importing.Write rest = rest ≡ []
IsBreak importing.Store rest = ⊥
IsBreak importing.Damaged rest = ⊥
IsBreak importing.Member rest = ⊥
IsBreak importing.Head rest = ⊥
IsBreak importing.Csv rest = ⊥

-- an import ended between two rows
pub record IsBetween {K : Type 0} (fault : ImportFault) (rest : List (List (List ℕ)))
    (old new : K) : Type 0 where
  pub broken : IsBreak fault rest
  pub same : new ≡ old

-- an import ended at the first row of the rest
pub record IsAtRow {K : Type 0} (Step : Asked → List ℕ → K → K → Type 0) (by : Lister)
    (number : ℕ) (fault : ImportFault) (rest : List (List (List ℕ))) (old new : K) : Type 0 where
  pub fields : List (List ℕ)
  pub more : List (List (List ℕ))
  pub next : rest ≡ fields ∷ more
  pub ended : EndsAtRow Step by number fields fault old new

-- a fact about the output, unless that failed
abbrev pub UnlessWrite : ImportFault → Type 0 → Type 0
UnlessWrite importing.Write shown = Unit {0}
UnlessWrite importing.Memory shown = shown
UnlessWrite importing.Store shown = shown
UnlessWrite importing.Damaged shown = shown
UnlessWrite importing.Member shown = shown
UnlessWrite importing.Head shown = shown
UnlessWrite importing.Csv shown = shown
UnlessWrite importing.Read shown = shown

-- some rows of a file were dealt with in turn, and then the import ended
pub record IsCut {K : Type 0} (Step : Asked → List ℕ → K → K → Type 0)
    (Prints : List ℕ → Type 0) (by : Lister) (records : List (List (List ℕ)))
    (fault : ImportFault) (old new : K) : Type 0 where
  pub rows : List (List (List ℕ))
  pub rest : List (List (List ℕ))
  pub all : records ≡ head ∷ rows ++ rest
  pub mid : K
  pub report : Imported
  pub printed : List ℕ
  pub before : HasImported Step by rows old mid report printed
  pub shown : UnlessWrite fault (Prints printed)
  pub why : IsBetween fault rest mid new ⊎ IsAtRow Step by (sum_of report + 1) fault rest mid new

-- the reader fails for itself or for memory
abbrev pub IsReading : ImportFault → Type 0
IsReading fault = (fault ≡ importing.Memory) ⊎ (fault ≡ importing.Read)

-- there is no head, or the reader failed before it
abbrev pub IsHeadless : List (List (List ℕ)) → ImportFault → Type 0
IsHeadless records fault = IsReading fault
    ⊎ ((fault ≡ importing.Head) × ((rows : List (List (List ℕ))) → records ≢ head ∷ rows))

-- an import ended at its head, and nothing was done
pub record IsUnopened {K : Type 0} (Prints : List ℕ → Type 0) (records : List (List (List ℕ)))
    (fault : ImportFault) (old new : K) : Type 0 where
  pub why : IsHeadless records fault
  pub same : new ≡ old
  pub shown : Prints []

-- how an import ended before the end of its file
abbrev pub HasEnded : {K : Type 0} → (Asked → List ℕ → K → K → Type 0) → (List ℕ → Type 0)
    → Lister → List (List (List ℕ)) → ImportFault → K → K → Type 0
HasEnded Step Prints by records fault old new = IsUnopened Prints records fault old new
    ⊎ IsCut Step Prints by records fault old new
