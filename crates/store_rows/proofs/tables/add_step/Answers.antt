use Rattle.std.proofs.Common.{arith}
use Rattle.sqlite.specs.State.{HasCleanDisk}
use Rattle.sqlite.specs.Held.{state}
use Rattle.store_rows.proofs.MakeLemmas.{grows_step, step_inside, step_is_inner}
use Rattle.store_rows.proofs.StateLemmas.{ok_then, on_ok_where}
use Rattle.store_rows.proofs.tables.add_step.Goals as goal

pub run_begun-requires-clause-inner : goal.run_begun-requires-clause-inner
run_begun-requires-clause-inner g c clean =
    rw c.step_text.ensures (step_is_inner c.args.step c.requires.later c.requires.step _ (c.requires.before clean).1.schema)

pub returns-clause-ok : goal.returns-clause-ok
returns-clause-ok g c clean =
    on_ok_where c.run_begun.result (rw c.step_text.ensures at (c.run_begun.ensures.ran clean)) (λ ran first was. grows_step c.args.step c.requires.later c.requires.step first _ _ ran.0 was ran.1)

pub returns-clause-inside : goal.returns-clause-inside
returns-clause-inside g c clean =
    let early : HasCleanDisk (state g.S.Store c.args.conn.now) = omega (arith, c.run_begun.ensures.crash.clean) in
    on_ok_where c.run_begun.result (rw c.step_text.ensures at (c.run_begun.ensures.ran clean)) (λ ran. step_inside c.args.step c.requires.later c.requires.step _ _ ran.0 (c.requires.before early).1.schema (c.requires.begun early) ran.1)
