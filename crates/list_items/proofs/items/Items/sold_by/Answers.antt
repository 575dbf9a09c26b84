use Rattle.list_items.specs.Groups.{numbers_at}
use Rattle.list_items.specs.Indexed.{seller_of}
use Rattle.list_items.proofs.Fronts.{group_has}
use Rattle.list_items.proofs.items.Items.sold_by.Goals as goal

pub returns-clause-rising : goal.returns-clause-rising
returns-clause-rising c = rw c.numbers_of.ensures (c.self.invariant.sellers.rising c.args.member)

pub returns-clause-complete : goal.returns-clause-complete
returns-clause-complete c = rw (c.numbers_of.ensures, ← c.self.view_is) (group_has seller_of c.self.inside.rows.items (numbers_at c.self.inside.sellers) c.args.member c.self.invariant.sellers.complete)
