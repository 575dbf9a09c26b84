use Rattle.std.proofs.Common.{arith}
use Rattle.store_rows.proofs.StateLemmas.{ok_then}
use Rattle.store_open.proofs.EditionRowLemmas.{adds_later_band}
use Rattle.store_open.proofs.edition_rows.put_later_band.Goals as goal

pub returns-clause-ok : goal.returns-clause-ok
returns-clause-ok g c clean =
    let house = c.run.ensures.house clean in
    ok_then c.run.result (rw (c.params-to_sql.ensures, c.params-to_sql-2.ensures, c.params-to_sql-3.ensures) at (c.run.ensures.ran clean))
    (λ _ ran. adds_later_band _ _ c.args.edition c.args.from c.args.step ran.0 (omega (arith, c.ranges.edition)) (omega (arith, c.ranges.from)) (omega (arith, c.ranges.step)) house ran.1)
