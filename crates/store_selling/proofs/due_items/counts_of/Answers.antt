use Rattle.std.proofs.Common.{not, take, arith}
use Rattle.std.proofs.Math.ListN.{length-take}
use Rattle.house_rows.specs.Items.{close_sells}
use Rattle.store_rows.proofs.Counted.{counted_few}
use Rattle.store_selling.proofs.due_items.counts_of.Goals as goal

pub overflow_add-sold : goal.overflow_add-sold
overflow_add-sold c =
    let seen = take c.loop-terms.terms-index c.args.due.now in
    omega (arith, c.loop-terms.invariant.sold, counted_few (λ t. close_sells t.leader t.met) seen, length-take c.loop-terms.terms-index c.args.due.now)

pub overflow_add-unsold : goal.overflow_add-unsold
overflow_add-unsold c =
    let seen = take c.loop-terms.terms-index c.args.due.now in
    omega (arith, c.loop-terms.invariant.unsold, counted_few (λ t. not (close_sells t.leader t.met)) seen, length-take c.loop-terms.terms-index c.args.due.now)
