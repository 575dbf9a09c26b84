use Rattle.lives.proofs.Lives.{runs_leave}
use Rattle.lives.proofs.runs_leave_histories.Goals as goal

pub returns : goal.returns
returns c settings zone h image left runs is held are =
    runs_leave settings zone h image left runs is held are
