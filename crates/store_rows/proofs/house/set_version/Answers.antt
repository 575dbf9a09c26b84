use Rattle.std.proofs.Common.{arith, refl}
use Rattle.sqlite.specs.State.{HasCleanDisk}
use Rattle.sqlite.specs.Held.{state}
use Rattle.store_rows.proofs.StateLemmas.{on_ok_where}
use Rattle.store_rows.proofs.HouseLemmas.{sets_version, version_inside, version_stays_inside}
use Rattle.store_rows.proofs.house.set_version.Goals as goal

pub run_begun-requires-clause-inner : goal.run_begun-requires-clause-inner
run_begun-requires-clause-inner g c clean = version_stays_inside _ _ (c.requires.serves clean).1.schema

pub returns-clause-ok : goal.returns-clause-ok
returns-clause-ok g c clean =
    let early : HasCleanDisk (state g.S.Store c.args.conn.now) = omega (arith, c.run_begun.ensures.crash.clean) in
    on_ok_where c.run_begun.result (rw (c.params-to_sql.ensures, c.params-to_sql-2.ensures) at (c.run_begun.ensures.ran clean)) (λ ran. sets_version _ _ 2 ran.0 (omega arith) (c.requires.serves early).1 ran.1)

pub returns-clause-inside : goal.returns-clause-inside
returns-clause-inside g c clean =
    let early : HasCleanDisk (state g.S.Store c.args.conn.now) = omega (arith, c.run_begun.ensures.crash.clean) in
    on_ok_where c.run_begun.result (rw (c.params-to_sql.ensures, c.params-to_sql-2.ensures) at (c.run_begun.ensures.ran clean)) (λ ran. version_inside _ _ 2 ran.0 (c.requires.serves early).1 (c.requires.begun early) ran.1)
