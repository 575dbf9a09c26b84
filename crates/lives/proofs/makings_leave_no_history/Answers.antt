use Rattle.lives.proofs.Runs.{makings_leave_no_history}
use Rattle.lives.proofs.makings_leave_no_history.Goals as goal

pub returns : goal.returns
returns g c image left name files clean outcome words run =
    makings_leave_no_history image left name files clean outcome words run
