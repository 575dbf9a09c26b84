use Rattle.proxy.proofs.Ranks.{leads_ranks}
use Rattle.proxy.proofs.laws.leader_ranks_first.Goals as goal

pub returns : goal.returns
returns c = leads_ranks
