use Rattle.std.proofs.Common.{◌<◌, ◌^◌, arith}
use Rattle.store_rows.proofs.StateLemmas.{ok_then}
use Rattle.store_watches.proofs.WatchLemmas.{removes_watch}
use Rattle.store_watches.proofs.rows.cut_watch.Goals as goal

pub returns-clause-ok : goal.returns-clause-ok
returns-clause-ok g c clean =
    let house = c.run.ensures.house clean in
    let low : c.args.member < 2 ^ 32 = omega (arith, c.ranges.member) in
    let small : c.args.item < 2 ^ 32 = omega (arith, c.ranges.item) in
    ok_then c.run.result (rw (c.params-to_sql.ensures, c.params-to_sql-2.ensures) at (c.run.ensures.ran clean)) (λ _ ran. removes_watch _ _ c.args.member c.args.item ran.0 house low small ran.1)
