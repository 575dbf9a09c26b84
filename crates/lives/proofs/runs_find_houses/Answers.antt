use Rattle.lives.proofs.Lives.{run_finds, unended_finds}
use Rattle.lives.proofs.runs_find_houses.Goals as goal

pub returns-clause-ended : goal.returns-clause-ended
returns-clause-ended g c zone image left run was = run_finds zone image left run was

pub returns-clause-unended : goal.returns-clause-unended
returns-clause-unended g c zone image run files was db may =
    unended_finds zone image run files was db may
