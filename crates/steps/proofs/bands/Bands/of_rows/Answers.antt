use Rattle.std.proofs.lemmas.Result.{err_from_is_err_and}
use Rattle.steps.proofs.RowLemmas.{fault_judged, table_judged}
use Rattle.steps.proofs.bands.Bands.of_rows.Goals as goal

pub returns-in_err-table : goal.returns-in_err-table
returns-in_err-table c =
    let p = err_from_is_err_and c.from_residual.result c.from_residual.ensures.1 in
    rw (p.1, p.2) (λ some. fault_judged c.args.rows.now c.in_err-table.field-0.0 c.in_err-table.ensures.fault)

pub returns-in-Ok : goal.returns-in-Ok
returns-in-Ok c = λ some. rw c.in-Ok.ensures.items (table_judged c.args.rows.now c.in_ok-table.ensures.ok)
