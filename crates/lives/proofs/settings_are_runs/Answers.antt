use Rattle.lives.proofs.Runs.{settings_are_runs}
use Rattle.lives.proofs.settings_are_runs.Goals as goal

pub returns : goal.returns
returns g c image left name files clean outcome moment run =
    settings_are_runs image left name files clean outcome moment run
