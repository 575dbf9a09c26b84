use Rattle.lives.proofs.Lives.{unended_leaves}
use Rattle.lives.proofs.unended_runs_leave_lives.Goals as goal

pub returns : goal.returns
returns g c settings zone h image run files is held was db may =
    unended_leaves settings zone h image run files is held was db may
