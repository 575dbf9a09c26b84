use Rattle.settle.proofs.WrittenLemmas.{then_written}
use Rattle.settle.specs.Text.{table_text, totals_text}
use Rattle.settle.specs.declared.columns.Form.TheVariants.{Padded}
use Rattle.settle.proofs.statement.Statement.write_text.Goals as goal

pub returns : goal.returns
returns g c =
    rw (c.rows.ensures.rows, c.totals.ensures.of_rows) at (then_written _ _ _ _ _ _ c.write_totals.result (table_text Padded c.rows.result.now) (totals_text c.totals.result) c.in_ok-write_table.ensures c.write_totals.ensures)
