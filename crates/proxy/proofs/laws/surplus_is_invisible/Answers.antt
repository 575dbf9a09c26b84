use Rattle.proxy.proofs.Surpluses.{tops_floor, tops_kept, tops_met, tops_more, tops_refusal}
use Rattle.proxy.proofs.laws.surplus_is_invisible.Goals as goal

pub returns-clause-kept : goal.returns-clause-kept
returns-clause-kept c = tops_kept

pub returns-clause-floor : goal.returns-clause-floor
returns-clause-floor c = tops_floor

pub returns-clause-met : goal.returns-clause-met
returns-clause-met c = tops_met

pub returns-clause-answer : goal.returns-clause-answer
returns-clause-answer c = tops_refusal

pub returns-clause-more : goal.returns-clause-more
returns-clause-more c = tops_more
