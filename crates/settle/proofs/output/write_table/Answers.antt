use Rattle.std.proofs.Common.{◌≡◌, ◌∙◌, ap}
use Rattle.settle.proofs.WrittenLemmas.{then_written}
use Rattle.settle.specs.Text.{head, record_text, records_text}
use Rattle.settle.proofs.output.write_table.Goals as goal

pub returns : goal.returns
returns g c =
    let names : c.deref.result.now ≡ record_text c.args.form head = c.deref.ensures.value ∙ c.in_ok-names.ensures ∙ ap (record_text c.args.form) c.names.ensures in
    rw names at (then_written _ _ _ _ _ _ c.write_rows.result c.deref.result.now (records_text c.args.form c.args.rows.now) c.in_ok-write_bytes.ensures.written c.write_rows.ensures)
