use Rattle.lives.proofs.Runs.{imports_are_runs}
use Rattle.lives.proofs.imports_are_runs.Goals as goal

pub returns : goal.returns
returns g c image left name files clean outcome by run =
    imports_are_runs image left name files clean outcome by run
