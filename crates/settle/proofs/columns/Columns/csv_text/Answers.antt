use Rattle.std.proofs.Common.{◌≡◌, ◌∙◌, sym, false}
use Rattle.std.specs.Result.{is_err}
use Rattle.settle.proofs.TextLemmas.{ok_holds}
use Rattle.settle.specs.Text.{separated}
use Rattle.settle.proofs.columns.Columns.csv_text.Goals as goal

pub returns-in-Ok : goal.returns-in-Ok
unfolding separated
returns-in-Ok c =
    let w = c.from_writer-writer.ensures in
    let good : is_err c.write_fields.result ≡ false = sym c.if-is_err.ensures.value in
    let said = rw (w.cfg, w.wtr, w.empty, c.new.ensures.items, c.as_bytes.ensures.value, c.as_bytes-2.ensures.value, c.as_bytes-3.ensures.value, c.as_bytes-4.ensures.value, c.as_bytes-5.ensures.value, c.as_bytes-6.ensures.value, c.as_bytes-7.ensures.value)
    at (ok_holds c.write_fields.result _ good c.write_fields.ensures.bytes) in
    c.in-Ok.ensures.ok ∙ said w.fields w.wrote (λ e. cc)
