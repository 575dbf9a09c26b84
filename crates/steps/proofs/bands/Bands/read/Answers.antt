use Rattle.std.proofs.lemmas.Result.{err_from_is_err_and}
use Rattle.steps.specs.Reading.{records_of}
use Rattle.steps.proofs.JudgedLemmas.{table_judged}
use Rattle.steps.proofs.TableLemmas.{fault_of_records, if_known}
use Rattle.steps.proofs.bands.Bands.read.Goals as goal

pub returns : goal.returns
returns g c no_memory no_device =
    if_known (g.R.Read.remaining c.args.source) _ (λ text is. table_judged (records_of text) c.in_ok-rows.rows.items (c.in_ok-rows.ensures.ok text is))

pub returns-in_err-rows : goal.returns-in_err-rows
returns-in_err-rows g c =
    let p = err_from_is_err_and c.from_residual.result c.from_residual.ensures.1 in
    rw (p.1, p.2) (λ no_memory no_device.
    if_known (g.R.Read.remaining c.args.source) _ (λ text is. fault_of_records (records_of text) c.in_err-rows.field-0.0 (c.in_err-rows.ensures.fault text is) no_memory no_device))
