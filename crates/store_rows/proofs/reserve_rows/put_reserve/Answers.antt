use Rattle.std.proofs.Common.{arith}
use Rattle.store_rows.proofs.StateLemmas.{ok_then}
use Rattle.store_rows.proofs.ReserveLemmas.{adds_reserve}
use Rattle.store_rows.proofs.reserve_rows.put_reserve.Goals as goal

pub returns-clause-ok : goal.returns-clause-ok
returns-clause-ok g c clean =
    let house = c.run.ensures.house clean in
    ok_then c.run.result (rw (c.params-to_sql.ensures, c.params-to_sql-2.ensures, c.value-amount.ensures.value) at (c.run.ensures.ran clean))
    (λ _ ran. adds_reserve _ _ c.args.item c.args.amount ran.0 (omega (arith, c.ranges.item)) (omega (arith, c.value-amount.ensures.value, c.value-amount.ensures.within)) house ran.1)
