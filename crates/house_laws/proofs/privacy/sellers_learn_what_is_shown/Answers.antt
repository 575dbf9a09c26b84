use Rattle.house_laws.proofs.BidsShown.{bids_alike, sellers_alike}
use Rattle.house_laws.proofs.privacy.sellers_learn_what_is_shown.Goals as goal

pub returns-clause-seller : goal.returns-clause-seller
returns-clause-seller c = sellers_alike

pub returns-clause-others : goal.returns-clause-others
returns-clause-others c = bids_alike
