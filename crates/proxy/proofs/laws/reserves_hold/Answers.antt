use Rattle.proxy.proofs.Reserves.{met_priced, met_stays, unmet_priced}
use Rattle.proxy.proofs.laws.reserves_hold.Goals as goal

pub returns-clause-stays : goal.returns-clause-stays
returns-clause-stays c = λ opening bids member maximum. met_stays opening bids _

pub returns-clause-met : goal.returns-clause-met
returns-clause-met c = met_priced

pub returns-clause-unmet : goal.returns-clause-unmet
returns-clause-unmet c = unmet_priced
