use Rattle.list_items.specs.Groups.{numbers_at}
use Rattle.list_items.specs.Indexed.{seller_of}
use Rattle.list_items.proofs.Fronts.{group_has}
use Rattle.list_items.proofs.Parties.{parties_have}
use Rattle.list_items.proofs.items.Items.sales_of.Goals as goal

pub sales_among-requires-clause-complete : goal.sales_among-requires-clause-complete
sales_among-requires-clause-complete c =
    rw c.deref.ensures.value (parties_have c.args.member c.args.self.now (numbers_at c.self.inside.sellers c.args.member) (numbers_at c.self.inside.purchases) c.args.bid_on.now c.in_ok-numbers.numbers.items
    (rw (← c.self.view_is) (group_has seller_of c.self.inside.rows.items (numbers_at c.self.inside.sellers) c.args.member c.self.invariant.sellers.complete))
    (rw (← c.self.view_is) c.self.invariant.purchases) c.requires.complete c.requires.led
    (rw (c.numbers_of-own.ensures, c.numbers_of-bought.ensures) at c.in_ok-numbers.ensures.same))
