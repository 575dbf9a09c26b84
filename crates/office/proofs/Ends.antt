-- How an import ends before the end of its file.
use Rattle.std.proofs.Common.{◌≡◌, ℕ, ◌+◌, List, [], ◌∷◌, ◌++◌, Option, append_assoc, append-nil, refl, sym, ◌∙◌, inl, inr}
use Rattle.csv.specs.declared.reader.Reader.{Reader}
use Rattle.site_request.specs.declared.asked.Asked.{Asked}
use Rattle.steps.specs.Reading.{HasRead, records_of}
use Rattle.steps.proofs.ReadLemmas.{read_first}
use Rattle.office.specs.declared.fault.ImportFault.{ImportFault}
use Rattle.office.specs.declared.fault.ImportFault.TheVariants as importing
use Rattle.office.specs.declared.lister.Lister.{Lister}
use Rattle.office.specs.declared.tally.Imported.{Imported}
use Rattle.office.specs.Imports.{EndsAtRow, HasImported, HasListed, IsCut, IsReading, UnlessWrite}
use Rattle.office.specs.Lots.{head}
use Rattle.office.specs.Tallies.{sum_of}

-- between two rows
pub cut_between : {K R : Type 0} (rem : R → Option (List ℕ))
    (Step : Asked → List ℕ → K → K → Type 0) (Prints : List ℕ → Type 0) (by : Lister)
    (reader : Reader R) (rows : List (List (List ℕ))) (text : List ℕ) (fault : ImportFault)
    (a b : K) (report : Imported) (printed : List ℕ) → HasRead rem reader (head ∷ rows) text
    → HasImported Step by rows a b report printed → Prints printed → IsReading fault
    → IsCut Step Prints by (records_of text) fault a b
cut_between rem Step Prints by reader rows text fault a b report printed read before shown (inl e) =
    let (rest, all) = read_first rem reader (head ∷ rows) text read in
    rw e (record {
      rows = rows;
      rest = rest;
      all = all;
      mid = b;
      report = report;
      printed = printed;
      before = before;
      shown = shown;
      why = inl (record { broken = tt; same = refl });
    })
cut_between rem Step Prints by reader rows text fault a b report printed read before shown (inr e) =
    let (rest, all) = read_first rem reader (head ∷ rows) text read in
    rw e (record {
      rows = rows;
      rest = rest;
      all = all;
      mid = b;
      report = report;
      printed = printed;
      before = before;
      shown = shown;
      why = inl (record { broken = tt; same = refl });
    })

-- at a row
pub cut_at_row : {K R : Type 0} (rem : R → Option (List ℕ))
    (Step : Asked → List ℕ → K → K → Type 0) (Prints : List ℕ → Type 0) (by : Lister)
    (reader : Reader R) (rows : List (List (List ℕ))) (fields : List (List ℕ)) (text : List ℕ)
    (fault : ImportFault) (a b c : K) (report : Imported) (printed : List ℕ)
    → HasRead rem reader ((head ∷ rows) ++ fields ∷ []) text
    → HasImported Step by rows a b report printed → UnlessWrite fault (Prints printed)
    → EndsAtRow Step by (sum_of report + 1) fields fault b c
    → IsCut Step Prints by (records_of text) fault a c
cut_at_row rem Step Prints by reader rows fields text fault a b c report printed read before shown
    ended =
    let (more, all) = read_first rem reader ((head ∷ rows) ++ fields ∷ []) text read in
    record {
      rows = rows;
      rest = fields ∷ more;
      all = all ∙ append_assoc (head ∷ rows) (fields ∷ []) more;
      mid = b;
      report = report;
      printed = printed;
      before = before;
      shown = shown;
      why = inr (record { fields = fields; more = more; next = refl; ended = ended });
    }

-- after the last row, where the totals can't be printed
pub cut_at_totals : {K : Type 0} (Step : Asked → List ℕ → K → K → Type 0)
    (Prints Further : List ℕ → Type 0) (by : Lister) (records : List (List (List ℕ)))
    (report : Imported) (fault : ImportFault) (a b : K)
    → HasListed Step Prints by records report a b → fault ≡ importing.Write
    → IsCut Step Further by records fault a b
cut_at_totals Step Prints Further by records report fault a b listed write = rw write (record {
  rows = listed.rows;
  rest = [];
  all = listed.all ∙ sym (append-nil (head ∷ listed.rows));
  mid = b;
  report = report;
  printed = listed.printed;
  before = listed.imported;
  shown = tt;
  why = inl (record { broken = refl; same = refl });
})
