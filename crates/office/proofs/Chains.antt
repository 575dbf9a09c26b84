-- Orders and rows, one after the other.
use Rattle.std.proofs.Common.{◌≡◌, ℕ, ◌+◌, List, [], ◌∷◌, ◌++◌, length, refl, sym, ap, ◌∙◌, subst, arith, Bool, true, false, Option, Some, None, Result, Ok, Err, IfErr, IfOk, inr}
use Rattle.std.specs.Prelude.{if◌then◌else◌, nat_lt}
use Rattle.std.specs.Io.KnownBytes.{Appends}
use Rattle.std.specs.List.{FoldsTo}
use Rattle.std.proofs.lemmas.Fn.{FoldsTo-push}
use Rattle.site_request.specs.declared.asked.Asked.{Asked}
use Rattle.office.specs.declared.fault.ImportFault.{ImportFault}
use Rattle.office.specs.declared.fault.ImportFault.TheVariants as importing
use Rattle.office.specs.declared.lot.Lot.{Lot}
use Rattle.office.specs.declared.lister.Lister.{Lister}
use Rattle.office.specs.declared.outcome.Outcome.{Outcome}
use Rattle.office.specs.declared.outcome.Outcome.TheVariants as outcome
use Rattle.office.specs.declared.tally.Imported.{Imported}
use Rattle.office.specs.Imports.{EndsAtLot, HasImported, HasOrdered, IsCounted, IsDone, IsOrder, IsRow, IsReported, UnlessWrite}
use Rattle.office.specs.Lines.{report_line}
use Rattle.office.specs.Listings.{IsListable, IsOrderOf}
use Rattle.office.specs.Orders.{body_of, message_of, order_text}
use Rattle.office.specs.Outcomes.{Fails}
use Rattle.office.specs.Tallies.{counted, nothing, sum_of}
use Rattle.office.proofs.Listed.{order_of}

-- steps in turn, and then more
folds_on : {P A : Type 0} (R : P → A → P → Type 0) (p : P) (xs : List A) (q : P) (ys : List A)
    (r : P) → FoldsTo R p xs q → FoldsTo R q ys r → FoldsTo R p (xs ++ ys) r
folds_on R p [] q ys r first more = subst (λ s. FoldsTo R s ys r) (sym first) more
folds_on R p (x ∷ xs) q ys r first more =
    (first.0, first.1, folds_on R first.0 xs q ys r first.2 more)

-- orders, and then more
pub ordered_on : {K : Type 0} (Step : Asked → List ℕ → K → K → Type 0) (by : Lister) (a b c : K)
    → HasOrdered Step by a b → HasOrdered Step by b c → HasOrdered Step by a c
ordered_on Step by a b c first more = record {
  lots = first.lots ++ more.lots;
  orders = folds_on (IsOrder Step by) a first.lots b more.lots c first.orders more.orders;
}

pub one_more : (t : Imported) (o : Outcome) → sum_of (counted t o) ≡ sum_of t + 1
one_more t outcome.Listed = omega arith
one_more t outcome.There = omega arith
one_more t outcome.Refused = omega arith

-- each row is counted once
sums : {K : Type 0} (Step : Asked → List ℕ → K → K → Type 0) (by : Lister)
    (rows : List (List (List ℕ))) (p q : K × Imported × List ℕ)
    → FoldsTo (IsCounted Step by) p rows q → sum_of q.1 ≡ sum_of p.1 + length rows
sums Step by [] p q folds = rw folds (omega arith)
sums Step by (row ∷ rows) p q (mid, step, rest) =
    let later = sums Step by rows mid q rest in
    let one : sum_of mid.1 ≡ sum_of p.1 + 1 = ap sum_of step.count ∙ one_more p.1 step.outcome in
    omega (arith, later, one)

pub all_counted : {K : Type 0} (Step : Asked → List ℕ → K → K → Type 0) (by : Lister)
    (rows : List (List (List ℕ))) (a b : K) (report : Imported) (printed : List ℕ)
    → HasImported Step by rows a b report printed → sum_of report ≡ length rows
all_counted Step by rows a b report printed has =
    let all = sums Step by rows (a, nothing, []) (b, report, printed) has in
    omega (arith, all)

-- a message that fits is the order of its lot
pub fits_is : (by : Lister) (lot : Lot) (text : List ℕ) → message_of by lot ≡ Some text
    → text ≡ order_text by lot
fits_is by lot text = go (nat_lt 16384 (length (body_of lot)))
  where
    go : (long : Bool) → (if long then None else Some (order_text by lot)) ≡ Some text
        → text ≡ order_text by lot
    go true e = cc
    go false e = cc

-- the order of a lot was answered
pub report_ordered : {K : Type 0} (Step : Asked → List ℕ → K → K → Type 0)
    (Prints : List ℕ → Type 0) (by : Lister) (lot : Lot) (text : List ℕ) (number : ℕ)
    (result : Result Outcome ImportFault) (old new : K) → IsListable lot
    → message_of by lot ≡ Some text → IsReported Step Prints text number result old new → HasOrdered Step by old new
report_ordered Step Prints by lot text number result old new listable fits report = record {
  lots = lot ∷ [];
  orders = (
    new,
    record {
      asked = report.asked;
      order = order_of by lot text report.asked listable fits report.by_text;
      reply = report.reply;
      step = report.step;
    },
    refl,
  );
}

-- and came to what the reply says
pub report_done : {K : Type 0} (Step : Asked → List ℕ → K → K → Type 0)
    (Prints : List ℕ → Type 0) (by : Lister) (lot : Lot) (text : List ℕ) (number : ℕ)
    (result : Result Outcome ImportFault) (old new : K) → IsListable lot
    → message_of by lot ≡ Some text → IsReported Step Prints text number result old new
    → IfOk result (λ o. (line : List ℕ) × IsDone Step by number lot o line old new × Prints line)
report_done Step Prints by lot text number (Ok o) old new listable fits report =
    let same = fits_is by lot text fits in (
      report_line number o report.reply,
      inr (record {
        fits = rw same at fits;
        asked = report.asked;
        order = order_of by lot text report.asked listable fits report.by_text;
        reply = report.reply;
        step = report.step;
        report = report.report.0;
        line_is = refl;
      }),
      report.report.1,
    )
report_done Step Prints by lot text number (Err fault) old new listable fits report = tt

-- or ended the import
pub report_ended : {K : Type 0} (Step : Asked → List ℕ → K → K → Type 0)
    (Prints : List ℕ → Type 0) (by : Lister) (lot : Lot) (text : List ℕ) (number : ℕ)
    (result : Result Outcome ImportFault) (old new : K) → IsListable lot
    → message_of by lot ≡ Some text → IsReported Step Prints text number result old new
    → IfErr result (λ fault. EndsAtLot Step by number lot fault old new)
report_ended Step Prints by lot text number (Ok o) old new listable fits report = tt
report_ended Step Prints by lot text number (Err fault) old new listable fits report =
    let same = fits_is by lot text fits in
    at fault report.failed (order_of by lot text report.asked listable fits report.by_text) (rw same at fits)
  where
    at : (f : ImportFault) → Fails report.reply f → IsOrderOf by lot report.asked
        → message_of by lot ≡ Some (order_text by lot) → EndsAtLot Step by number lot f old new
    at importing.Memory is order fits = inr (record {
      asked = report.asked;
      order = order;
      step = rw is at report.step;
    })
    at importing.Store is order fits = record {
      asked = report.asked;
      order = order;
      step = rw is at report.step;
    }
    at importing.Damaged is order fits = record {
      asked = report.asked;
      order = order;
      step = rw is at report.step;
    }
    at importing.Write is order fits = (
      is.0,
      report_line number is.0 report.reply,
      inr (record {
        fits = fits;
        asked = report.asked;
        order = order;
        reply = report.reply;
        step = report.step;
        report = is.1;
        line_is = refl;
      }),
    )
    at importing.Member is order fits = absurd is
    at importing.Head is order fits = absurd is
    at importing.Csv is order fits = absurd is
    at importing.Read is order fits = absurd is

-- no row, and then one more
pub imported_none : {K : Type 0} (Step : Asked → List ℕ → K → K → Type 0) (by : Lister) (k : K)
    (report : Imported) → report ≡ nothing → HasImported Step by [] k k report []
imported_none Step by k report none = rw none refl

pub imported_more : {K : Type 0} (Step : Asked → List ℕ → K → K → Type 0) (by : Lister)
    (rows : List (List (List ℕ))) (fields : List (List ℕ)) (a b c : K) (report more : Imported)
    (printed line : List ℕ) (o : Outcome) → HasImported Step by rows a b report printed
    → IsRow Step by (sum_of report + 1) fields o line b c → more ≡ counted report o
    → HasImported Step by (rows ++ fields ∷ []) a c more (printed ++ line)
imported_more Step by rows fields a b c report more printed line o has row count =
    FoldsTo-push (IsCounted Step by) (a, nothing, []) rows (b, report, printed) fields
    (c, more, printed ++ line) has
    (record { outcome = o; line = line; row = row; count = count; printed = refl })

-- what was printed stays where the rest of a call printed nothing
pub is_consistent_on : (a b c : Option (List ℕ)) (printed : List ℕ) (fault : ImportFault)
    → Appends a b printed → UnlessWrite fault (c ≡ b) → UnlessWrite fault (Appends a c printed)
is_consistent_on a b c printed importing.Write has same = tt
is_consistent_on a b c printed importing.Memory has same = rw same has
is_consistent_on a b c printed importing.Store has same = rw same has
is_consistent_on a b c printed importing.Damaged has same = rw same has
is_consistent_on a b c printed importing.Member has same = rw same has
is_consistent_on a b c printed importing.Head has same = rw same has
is_consistent_on a b c printed importing.Csv has same = rw same has
is_consistent_on a b c printed importing.Read has same = rw same has
