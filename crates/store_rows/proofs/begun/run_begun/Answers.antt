use Rattle.std.proofs.Common.{arith}
use Rattle.sqlite.specs.State.{HasCleanDisk}
use Rattle.sqlite.specs.Held.{state}
use Rattle.sqlite.proofs.StateLemmas.{survives_weaker}
use Rattle.store_rows.proofs.BegunLemmas.{inner_commits_nothing}
use Rattle.store_rows.proofs.begun.run_begun.Goals as goal

pub returns-in-Ok-clause-crash : goal.returns-in-Ok-clause-crash
returns-in-Ok-clause-crash g c = survives_weaker _ _ _ _ (λ clean db made.
    let early : HasCleanDisk (state g.S.Store c.args.conn.now) = omega (arith, c.execute.ensures.survives.clean) in
    absurd (inner_commits_nothing _ _ _ db (c.requires.begun early) (c.requires.inner early) made)) c.execute.ensures.survives

pub returns-in-Err-clause-crash : goal.returns-in-Err-clause-crash
returns-in-Err-clause-crash g c = survives_weaker _ _ _ _ (λ clean db made.
    let early : HasCleanDisk (state g.S.Store c.args.conn.now) = omega (arith, c.execute.ensures.survives.clean) in
    absurd (inner_commits_nothing _ _ _ db (c.requires.begun early) (c.requires.inner early) made)) c.execute.ensures.survives
