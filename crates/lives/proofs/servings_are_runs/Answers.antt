use Rattle.lives.proofs.Runs.{servings_are_runs}
use Rattle.lives.proofs.servings_are_runs.Goals as goal

pub returns : goal.returns
returns g c image left name files clean outcome most count port run =
    servings_are_runs image left name files clean outcome g.C.Input.Source g.C.Output.Sink
    g.C.Connections.accepts g.C.Connections.ends (λ came. g.C.Listen.is_at came port count) most count run
