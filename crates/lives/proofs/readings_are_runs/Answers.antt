use Rattle.lives.proofs.Runs.{readings_are_runs}
use Rattle.lives.proofs.readings_are_runs.Goals as goal

pub returns : goal.returns
returns g c image left name files clean outcome run =
    readings_are_runs image left name files clean outcome run
