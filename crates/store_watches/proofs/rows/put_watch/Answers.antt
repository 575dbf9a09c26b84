use Rattle.std.proofs.Common.{arith}
use Rattle.store_rows.proofs.StateLemmas.{ok_then}
use Rattle.store_watches.proofs.WatchLemmas.{adds_watch}
use Rattle.store_watches.proofs.rows.put_watch.Goals as goal

pub returns-clause-ok : goal.returns-clause-ok
returns-clause-ok g c clean =
    let house = c.run.ensures.house clean in
    ok_then c.run.result (rw (c.params-to_sql.ensures, c.params-to_sql-2.ensures) at (c.run.ensures.ran clean)) (λ _ ran. adds_watch _ _ (record { member = c.args.member; item = c.args.item }) ran.0 (omega (arith, c.ranges.member)) (omega (arith, c.ranges.item)) house ran.1)
