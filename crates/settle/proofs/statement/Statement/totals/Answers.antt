use Rattle.settle.proofs.TotalLemmas.{totals_balanced}
use Rattle.settle.proofs.statement.Statement.totals.Goals as goal

pub returns-clause-balanced : goal.returns-clause-balanced
returns-clause-balanced c =
    rw c.self.invariant.totals_are (totals_balanced c.self.inside.rows.items c.self.invariant.split)
