use Rattle.lives.proofs.Lives.{leaves}
use Rattle.lives.proofs.runs_leave_lives.Goals as goal

pub returns : goal.returns
returns g c settings zone image left run was h is held =
    leaves settings zone h image left run is held was
