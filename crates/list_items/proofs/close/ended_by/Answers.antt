use Rattle.list_items.proofs.Due.{ended_all}
use Rattle.list_items.proofs.close.ended_by.Goals as goal

pub returns-in-Ok-clause-all : goal.returns-in-Ok-clause-all
returns-in-Ok-clause-all c = ended_all c.args.moment c.args.ends.now c.in-Ok.numbers.items c.in-Ok.ensures.numbers c.first_ends.ensures.ordered
