use Rattle.std.proofs.Common.{sym, subst, arith, rules}
use Rattle.store_rows.proofs.ShownRows.{row_fits}
use Rattle.store_rows.proofs.stored.all_of.Goals as goal

pub returns-in_err-it-clause-damaged : goal.returns-in_err-it-clause-damaged
returns-in_err-it-clause-damaged g c fit =
    let fits = row_fits g.T.Stored.report g.T.Stored.fits c.args.rows.now c.loop-row.row-index c.row-item.result (omega (arith, c.loop-row-test.true)) fit in
    λ was. c.in_err-it.ensures.damaged (subst (λ r. g.T.Stored.fits (g.T.Stored.report r)) (sym c.row-item.is) fits) (search rules)
