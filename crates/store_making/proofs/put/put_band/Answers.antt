use Rattle.std.proofs.Common.{arith}
use Rattle.store_rows.proofs.StateLemmas.{ok_then}
use Rattle.store_making.proofs.MadeRows.{puts_band}
use Rattle.store_making.proofs.put.put_band.Goals as goal

pub returns-clause-ok : goal.returns-clause-ok
returns-clause-ok g c clean =
    let laid = c.write_row.ensures.laid clean in
    ok_then c.write_row.result (rw (c.params-to_sql.ensures, c.params-to_sql-2.ensures) at (c.write_row.ensures.ran clean))
    (λ _ ran. puts_band _ _ c.args.from c.args.step ran.0 (omega arith) (omega arith) laid ran.1)
