use Rattle.std.proofs.Common.{refl}
use Rattle.steps.specs.Table.{step_at}
use Rattle.proxy.specs.Bids.{greatest, leader, price, second, top}
use Rattle.house_rows.specs.Items.{items, items_shown}
use Rattle.house_rows.specs.Pages.{page_of, reserves_shown}
use Rattle.house_rows.specs.Questions.{published, questions, waiting}
use Rattle.house_rows.specs.Verdict.{verdict}
use Rattle.house_rows.specs.Views.{own_reserves}
use Rattle.house_laws.proofs.reserves.reserves_worked.Goals as goal

pub returns-clause-unbid : goal.returns-clause-unbid
unfolding verdict items items_shown greatest leader price second top step_at questions published waiting own_reserves reserves_shown page_of
returns-clause-unbid c = (refl, refl)

pub returns-clause-unmet : goal.returns-clause-unmet
unfolding verdict items items_shown greatest leader price second top step_at questions published waiting own_reserves reserves_shown page_of
returns-clause-unmet c = ((refl, refl), refl, (refl, refl), refl)

pub returns-clause-met : goal.returns-clause-met
unfolding verdict items items_shown greatest leader price second top step_at questions published waiting own_reserves reserves_shown page_of
returns-clause-met c = ((refl, refl), refl)

pub returns-clause-raised : goal.returns-clause-raised
unfolding verdict items items_shown greatest leader price second top step_at questions published waiting own_reserves reserves_shown page_of
returns-clause-raised c = ((refl, refl), (refl, refl))

pub returns-clause-unsold : goal.returns-clause-unsold
unfolding verdict items items_shown greatest leader price second top step_at questions published waiting own_reserves reserves_shown page_of
returns-clause-unsold c = ((refl, refl), refl)

pub returns-clause-in_range : goal.returns-clause-in_range
unfolding verdict items items_shown greatest leader price second top step_at questions published waiting own_reserves reserves_shown page_of
returns-clause-in_range c = (refl, refl, refl, refl)

pub returns-clause-own : goal.returns-clause-own
unfolding verdict items items_shown greatest leader price second top step_at questions published waiting own_reserves reserves_shown page_of
returns-clause-own c = (refl, refl, refl, refl)
