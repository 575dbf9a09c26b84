use Rattle.std.proofs.Common.{refl}
use Rattle.steps.specs.Table.{step_at}
use Rattle.proxy.specs.Bids.{greatest, leader, price, second, top}
use Rattle.proxy.proofs.laws.worked_rows.Goals as goal

pub returns-clause-first : goal.returns-clause-first
unfolding greatest leader price second top step_at
returns-clause-first c = (refl, refl)

pub returns-clause-low : goal.returns-clause-low
unfolding greatest leader price second top step_at
returns-clause-low c = refl

pub returns-clause-higher : goal.returns-clause-higher
unfolding greatest leader price second top step_at
returns-clause-higher c = (refl, refl)

pub returns-clause-equal : goal.returns-clause-equal
unfolding greatest leader price second top step_at
returns-clause-equal c = (refl, refl)

pub returns-clause-small_raise : goal.returns-clause-small_raise
unfolding greatest leader price second top step_at
returns-clause-small_raise c = (refl, refl)

pub returns-clause-great_raise : goal.returns-clause-great_raise
unfolding greatest leader price second top step_at
returns-clause-great_raise c = (refl, refl)

pub returns-clause-same : goal.returns-clause-same
unfolding greatest leader price second top step_at
returns-clause-same c = refl

pub returns-clause-step : goal.returns-clause-step
unfolding greatest leader price second top step_at
returns-clause-step c = (refl, refl)

pub returns-clause-unmet_first : goal.returns-clause-unmet_first
unfolding greatest leader price second top step_at
returns-clause-unmet_first c = (refl, refl, refl)

pub returns-clause-unmet : goal.returns-clause-unmet
unfolding greatest leader price second top step_at
returns-clause-unmet c = (refl, refl, refl)

pub returns-clause-met : goal.returns-clause-met
unfolding greatest leader price second top step_at
returns-clause-met c = (refl, refl, refl)

pub returns-clause-raised_to : goal.returns-clause-raised_to
unfolding greatest leader price second top step_at
returns-clause-raised_to c = (refl, refl, refl)

pub returns-clause-raised_over : goal.returns-clause-raised_over
unfolding greatest leader price second top step_at
returns-clause-raised_over c = (refl, refl, refl)
