use Rattle.std.proofs.Common.{◌<◌, ◌^◌, arith}
use Rattle.store_rows.proofs.StateLemmas.{ok_then}
use Rattle.store_items.proofs.ItemLemmas.{sets_bought}
use Rattle.store_items.proofs.item.set_bought.Goals as goal

pub returns-clause-ok : goal.returns-clause-ok
returns-clause-ok g c clean =
    let house = c.run.ensures.house clean in
    let low : c.args.item < 2 ^ 32 = omega (arith, c.ranges.item) in
    ok_then c.run.result (rw (c.params-to_sql.ensures, c.params-to_sql-2.ensures, c.params-to_sql-3.ensures, c.params-to_sql-4.ensures, c.stored_cents-price.ensures.value) at (c.run.ensures.ran clean))
    (λ _ ran. sets_bought _ _ c.args.item c.args.buyer c.args.price c.args.moment ran.0 house low (omega (arith, c.ranges.buyer)) c.stored_cents-price.ensures.small (omega (arith, c.ranges.moment)) ran.1)
