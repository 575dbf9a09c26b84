use Rattle.std.proofs.Common.{arith}
use Rattle.sqlite.specs.State.{HasCleanDisk}
use Rattle.sqlite.specs.Held.{state}
use Rattle.sqlite.proofs.StateLemmas.{survives_weaker}
use Rattle.store_rows.proofs.BegunLemmas.{commit_commits, ends, execute_ended}
use Rattle.store_rows.proofs.begun.end.Goals as goal

pub returns-in-Ok-clause-crash : goal.returns-in-Ok-clause-crash
returns-in-Ok-clause-crash g c = survives_weaker _ _ _ _ (λ clean db made.
    let early : HasCleanDisk (state g.S.Store c.args.conn.now) = omega (arith, c.execute.ensures.survives.clean) in
    commit_commits _ db (c.requires.begun early) made) c.execute.ensures.survives

pub returns-in-Err-clause-crash : goal.returns-in-Err-clause-crash
returns-in-Err-clause-crash g c = survives_weaker _ _ _ _ (λ clean db made.
    let early : HasCleanDisk (state g.S.Store c.args.conn.now) = omega (arith, c.execute.ensures.survives.clean) in
    commit_commits _ db (c.requires.begun early) made) c.execute.ensures.survives

pub returns-in-Ok-clause-ok : goal.returns-in-Ok-clause-ok
returns-in-Ok-clause-ok g c clean = ends _ _ _ (c.in-Ok.ensures.runs clean)

pub returns-in-Err-clause-err : goal.returns-in-Err-clause-err
returns-in-Err-clause-err g c clean = execute_ended _ _ _ _ _ (c.in-Err.ensures.runs clean)
