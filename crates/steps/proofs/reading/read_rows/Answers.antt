use Rattle.std.proofs.Common.{sym, ◌∷◌, ◌++◌, [], inl, inr, rules}
use Rattle.std.proofs.lemmas.Result.{err_from_is_err_and}
use Rattle.std.specs.Result.{is_ok}
use Rattle.std.specs.Prelude.{◌≡◌, ◌≢◌, true}
use Rattle.csv.specs.Records.{fields_of}
use Rattle.steps.specs.Reading.{records_of}
use Rattle.steps.specs.Records.{head}
use Rattle.steps.proofs.BandLemmas.{next_taken}
use Rattle.steps.proofs.TableLemmas.{row_faulty, rows_ended, rows_more, rows_none, some_valid}
use Rattle.steps.proofs.reading.read_rows.Goals as goal

pub returns-in_err-next-clause-fault : goal.returns-in_err-next-clause-fault
returns-in_err-next-clause-fault g c =
    let p = err_from_is_err_and c.from_residual.result c.from_residual.ensures.1 in
    rw (p.1, p.2) (λ text has. let read = c.loop-bands.invariant.read text has in inl (c.in_err-next.ensures.fault (head ∷ read.0) text read.1))

pub returns-in_err-band-clause-fault : goal.returns-in_err-band-clause-fault
returns-in_err-band-clause-fault g c =
    let p = err_from_is_err_and c.from_residual-in_err-band.result c.from_residual-in_err-band.ensures.1 in
    let refused = rw c.deref.ensures.value at c.in_err-band.ensures in
    rw (p.1, p.2) (λ text has.
    let read = c.loop-bands.invariant.read text has in
    let more = rw c.if-branch.true at (c.in_ok-next.ensures.ok (head ∷ read.0) text read.1) in
    inr (row_faulty g.R.Read.remaining c.next.new.reader read.0 (fields_of c.next.new.row) c.loop-bands.bands.items c.in_err-band.field-0.0 text more read.2 c.loop-bands.invariant.valid refused))

pub loop-bands-preserved : goal.loop-bands-preserved
loop-bands-preserved g c =
    let good : is_ok c.push.result ≡ true = search rules in
    let items = rw good at c.push.ensures.items in
    let taken = next_taken c.loop-bands.bands.items (fields_of c.next.new.row) c.in_ok-band.band c.loop-bands.invariant.valid (sym (rw c.deref.ensures.value at c.in_ok-band.ensures)) in
    rw items (record {
      valid = inr taken.0;
      read = λ text has.
          let read = c.loop-bands.invariant.read text has in
          let more = rw c.if-branch.true at (c.in_ok-next.ensures.ok (head ∷ read.0) text read.1) in
          (read.0 ++ fields_of c.next.new.row ∷ [], more, rows_more read.0 (fields_of c.next.new.row) c.loop-bands.bands.items c.in_ok-band.band read.2 taken.1);
    })

pub returns-then-is_empty-clause-fault : goal.returns-then-is_empty-clause-fault
returns-then-is_empty-clause-fault g c text has =
    let read = c.loop-bands.invariant.read text has in
    let all = rw c.if-branch.false at (c.in_ok-next.ensures.ok (head ∷ read.0) text read.1) in
    let none : c.loop-bands.bands.items ≡ [] = search rules in
    inr (rows_none (records_of text) read.0 c.loop-bands.bands.items all read.2 none)

pub returns-clause-ok : goal.returns-clause-ok
returns-clause-ok g c text has =
    let read = c.loop-bands.invariant.read text has in
    let all = rw c.if-branch.false at (c.in_ok-next.ensures.ok (head ∷ read.0) text read.1) in
    let some : c.loop-bands.bands.items ≢ [] = λ none. search rules in
    rows_ended (records_of text) read.0 c.loop-bands.bands.items all read.2 (some_valid c.loop-bands.bands.items c.loop-bands.invariant.valid some)
