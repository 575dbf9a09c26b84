use Rattle.std.proofs.Common.{◌≡◌, [], inl, inr, refl, sym, ◌∙◌}
use Rattle.std.proofs.lemmas.Bool.{false≢true}
use Rattle.std.proofs.lemmas.Result.{err_from_is_err_and}
use Rattle.csv.specs.Records.{fields_of}
use Rattle.steps.specs.Reading.{records_of}
use Rattle.office.proofs.Fields.{other_head}
use Rattle.office.proofs.records.read_head.Goals as goal

pub returns-in_err-next-clause-fault : goal.returns-in_err-next-clause-fault
returns-in_err-next-clause-fault g c =
    let p = err_from_is_err_and c.from_residual.result c.from_residual.ensures.1 in
    rw (p.1, p.2) (λ text has. inl (c.in_err-next.ensures.fault [] text has))

pub returns-then-not-branch-clause-fault : goal.returns-then-not-branch-clause-fault
returns-then-not-branch-clause-fault g c text has =
    let none : records_of text ≡ [] =
    rw c.if-not-branch.true at (c.in_ok-next.ensures.ok [] text has) in
    inr (refl, λ rows is. cc (none, is))

pub returns-then-not-is_head-clause-fault : goal.returns-then-not-is_head-clause-fault
returns-then-not-is_head-clause-fault g c text has =
    inr (
      refl,
      other_head g.R.Read.remaining c.next.new.reader (fields_of c.next.new.row) text
          (rw c.if-not-branch.false at (c.in_ok-next.ensures.ok [] text has))
          (λ same. false≢true (sym c.if-not-is_head.true ∙ c.is_head.ensures.1 same)),
    )
