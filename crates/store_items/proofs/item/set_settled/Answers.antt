use Rattle.std.proofs.Common.{◌<◌, ◌^◌, arith}
use Rattle.store_rows.proofs.StateLemmas.{ok_then}
use Rattle.store_items.proofs.ItemLemmas.{sets_settled}
use Rattle.store_items.proofs.item.set_settled.Goals as goal

pub returns-clause-ok : goal.returns-clause-ok
returns-clause-ok g c clean =
    let house = c.run.ensures.house clean in
    let low : c.args.item < 2 ^ 32 = omega (arith, c.ranges.item) in
    ok_then c.run.result (rw c.params-to_sql.ensures at (c.run.ensures.ran clean)) (λ _ ran. sets_settled _ _ c.args.item ran.0 house low ran.1)
