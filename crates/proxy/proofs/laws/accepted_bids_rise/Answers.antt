use Rattle.proxy.proofs.Rises.{maxima_rise}
use Rattle.proxy.proofs.laws.accepted_bids_rise.Goals as goal

pub returns : goal.returns
returns c = maxima_rise
