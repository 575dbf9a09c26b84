-- What becomes of a row, from what becomes of its lot or of a field that can't be read.
use Rattle.std.proofs.Common.{◌≡◌, ℕ, List, length, refl, None, Result, Ok, Err, IfErr, IfOk, OnOk, inl, inr}
use Rattle.site_request.specs.declared.asked.Asked.{Asked}
use Rattle.office.specs.declared.column.Column.{Column}
use Rattle.office.specs.declared.fault.ImportFault.{ImportFault}
use Rattle.office.specs.declared.fault.ImportFault.TheVariants as importing
use Rattle.office.specs.declared.lot.Lot.{Lot}
use Rattle.office.specs.declared.lister.Lister.{Lister}
use Rattle.office.specs.declared.outcome.Outcome.{Outcome}
use Rattle.office.specs.declared.outcome.Outcome.TheVariants.{Refused}
use Rattle.office.specs.Imports.{EndsAtLot, EndsAtRow, IsDone, IsRow, UnlessWrite}
use Rattle.office.specs.Lines.{fault_line, range_line}
use Rattle.office.specs.Lots.{IsFirstFault, Spells}
use Rattle.office.specs.Orders.{message_of}

-- a lot whose order is too long is refused
pub long_done : {K : Type 0} (Step : Asked → List ℕ → K → K → Type 0)
    (Prints : List ℕ → Type 0) (by : Lister) (number : ℕ) (lot : Lot)
    (result : Result Outcome ImportFault) (k : K) → message_of by lot ≡ None
    → IfOk result (λ o. o ≡ Refused) → OnOk result (Prints (range_line number))
    → IfOk result (λ o. (line : List ℕ) × IsDone Step by number lot o line k k × Prints line)
long_done Step Prints by number lot (Ok o) k long refused shown = (
  range_line number,
  inl (record { too_long = long; refused = refused; line_is = refl; same = refl }),
  shown,
)
long_done Step Prints by number lot (Err fault) k long refused shown = tt

-- or that can't be printed
pub long_ended : {K : Type 0} (Step : Asked → List ℕ → K → K → Type 0) (by : Lister)
    (number : ℕ) (lot : Lot) (result : Result Outcome ImportFault) (k : K)
    → message_of by lot ≡ None → IfErr result (λ fault. fault ≡ importing.Write)
    → IfErr result (λ fault. EndsAtLot Step by number lot fault k k)
long_ended Step by number lot (Ok o) k long write = tt
long_ended Step by number lot (Err fault) k long write = rw write (
  Refused,
  range_line number,
  inl (record { too_long = long; refused = refl; line_is = refl; same = refl }),
)

-- what became of a lot became of the row that spells it
pub done_row : {K : Type 0} (Step : Asked → List ℕ → K → K → Type 0)
    (Prints : List ℕ → Type 0) (by : Lister) (number : ℕ) (fields : List (List ℕ)) (lot : Lot)
    (result : Result Outcome ImportFault) (old new : K) → length fields ≡ 7 → Spells fields lot
    → IfOk result (λ o. (line : List ℕ) × IsDone Step by number lot o line old new × Prints line)
    → IfOk result (λ o. (line : List ℕ) × IsRow Step by number fields o line old new × Prints line)
done_row Step Prints by number fields lot (Ok o) old new whole spelled (line, done, shown) =
    (line, record { whole = whole; became = inr (lot, spelled, done) }, shown)
done_row Step Prints by number fields lot (Err fault) old new whole spelled done = tt

pub ended_row : {K : Type 0} (Step : Asked → List ℕ → K → K → Type 0) (by : Lister)
    (number : ℕ) (fields : List (List ℕ)) (lot : Lot) (result : Result Outcome ImportFault)
    (old new : K) → length fields ≡ 7 → Spells fields lot
    → IfErr result (λ fault. EndsAtLot Step by number lot fault old new)
    → IfErr result (λ fault. EndsAtRow Step by number fields fault old new)
ended_row Step by number fields lot (Ok o) old new whole spelled ended = tt
ended_row Step by number fields lot (Err fault) old new whole spelled ended =
    inr (inr (record { whole = whole; lot = lot; spelled = spelled; ended = ended }))

-- a row that can't be read is refused
pub unread_row : {K : Type 0} (Step : Asked → List ℕ → K → K → Type 0)
    (Prints : List ℕ → Type 0) (by : Lister) (number : ℕ) (fields : List (List ℕ))
    (column : Column) (result : Result Outcome ImportFault) (k : K) → length fields ≡ 7
    → IsFirstFault fields column → IfOk result (λ o. o ≡ Refused)
    → OnOk result (Prints (fault_line number column))
    → IfOk result (λ o. (line : List ℕ) × IsRow Step by number fields o line k k × Prints line)
unread_row Step Prints by number fields column (Ok o) k whole fault refused shown = (
  fault_line number column,
  record {
    whole = whole;
    became = inl (record {
      column = column;
      fault = fault;
      refused = refused;
      line_is = refl;
      same = refl;
    });
  },
  shown,
)
unread_row Step Prints by number fields column (Err e) k whole fault refused shown = tt

-- or that can't be printed
pub unprinted_row : {K : Type 0} (Step : Asked → List ℕ → K → K → Type 0) (by : Lister)
    (number : ℕ) (fields : List (List ℕ)) (column : Column) (result : Result Outcome ImportFault)
    (k : K) → length fields ≡ 7 → IsFirstFault fields column
    → IfErr result (λ fault. fault ≡ importing.Write)
    → IfErr result (λ fault. EndsAtRow Step by number fields fault k k)
unprinted_row Step by number fields column (Ok o) k whole fault write = tt
unprinted_row Step by number fields column (Err e) k whole fault write = inr (inl (record {
  whole = whole;
  write = write;
  outcome = Refused;
  line = fault_line number column;
  unread = record {
    column = column;
    fault = fault;
    refused = refl;
    line_is = refl;
    same = refl;
  };
}))

-- of an output that failed nothing is said
pub write_is_consistent : (result : Result Outcome ImportFault) (P : Type 0)
    → IfErr result (λ fault. fault ≡ importing.Write) → IfErr result (λ fault. UnlessWrite fault P)
write_is_consistent (Ok o) P write = tt
write_is_consistent (Err fault) P write = rw write tt
