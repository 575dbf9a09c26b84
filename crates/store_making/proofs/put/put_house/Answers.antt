use Rattle.std.proofs.Common.{arith, subst, IsUtf8}
use Rattle.store_rows.proofs.StateLemmas.{ok_then}
use Rattle.store_making.proofs.MadeRows.{puts_house}
use Rattle.store_making.proofs.put.put_house.Goals as goal

pub returns-clause-ok : goal.returns-clause-ok
returns-clause-ok g c clean =
    let laid = c.write_row.ensures.laid clean in
    ok_then c.write_row.result (rw (c.params-to_sql.ensures, c.params-to_sql-2.ensures, c.as_str.ensures) at (c.write_row.ensures.ran clean))
    (λ _ ran. puts_house _ _ c.args.rate c.args.zone.now ran.0 (omega arith) (subst IsUtf8 c.as_str.ensures c.as_str.utf8) laid ran.1)
