use Rattle.lives.proofs.Lives.{made_holds}
use Rattle.lives.proofs.making_leaves_no_history.Goals as goal

pub returns : goal.returns
returns g c settings name before left made is honest may =
    made_holds settings name before left made is honest may
