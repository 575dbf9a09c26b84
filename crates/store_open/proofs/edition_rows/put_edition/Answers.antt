use Rattle.std.proofs.Common.{arith}
use Rattle.store_rows.proofs.StateLemmas.{ok_then}
use Rattle.store_open.proofs.EditionRowLemmas.{adds_edition}
use Rattle.store_open.proofs.edition_rows.put_edition.Goals as goal

pub returns-clause-ok : goal.returns-clause-ok
returns-clause-ok g c clean =
    let house = c.run.ensures.house clean in
    ok_then c.run.result (rw (c.params-to_sql.ensures, c.params-to_sql-2.ensures) at (c.run.ensures.ran clean))
    (λ _ ran. adds_edition _ _ c.args.edition c.args.first ran.0 (omega (arith, c.ranges.edition)) (omega (arith, c.ranges.first)) house ran.1)
