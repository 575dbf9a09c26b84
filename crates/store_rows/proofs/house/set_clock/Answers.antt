use Rattle.std.proofs.Common.{arith}
use Rattle.store_rows.proofs.StateLemmas.{ok_then}
use Rattle.store_rows.proofs.HouseLemmas.{sets_clock}
use Rattle.store_rows.proofs.house.set_clock.Goals as goal

pub returns-clause-ok : goal.returns-clause-ok
returns-clause-ok g c clean =
    let house = c.run.ensures.house clean in
    ok_then c.run.result (rw (c.params-to_sql.ensures, c.params-to_sql-2.ensures) at (c.run.ensures.ran clean)) (λ _ ran. sets_clock _ _ c.args.moment ran.0 (omega (arith, c.ranges.moment)) house ran.1)
