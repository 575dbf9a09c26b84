use Rattle.store_rows.proofs.BegunLemmas.{begin_commits_nothing, begins}
use Rattle.sqlite.proofs.StateLemmas.{survives_weaker}
use Rattle.store_rows.proofs.begun.begin.Goals as goal

pub returns-in-Ok-clause-crash : goal.returns-in-Ok-clause-crash
returns-in-Ok-clause-crash g c = survives_weaker _ _ _ _ (λ clean db made. absurd (begin_commits_nothing _ db made)) c.execute.ensures.survives

pub returns-in-Err-clause-crash : goal.returns-in-Err-clause-crash
returns-in-Err-clause-crash g c = survives_weaker _ _ _ _ (λ clean db made. absurd (begin_commits_nothing _ db made)) c.execute.ensures.survives

pub returns-in-Ok-clause-ok : goal.returns-in-Ok-clause-ok
returns-in-Ok-clause-ok g c clean = begins _ _ _ (c.in-Ok.ensures.runs clean)
