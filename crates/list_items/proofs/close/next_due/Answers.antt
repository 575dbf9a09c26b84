use Rattle.std.proofs.Common.{refl}
use Rattle.list_items.proofs.Closed.{all_after, first_taken, popped}
use Rattle.list_items.proofs.close.next_due.Goals as goal

pub returns-then-end-moment-clause-none : goal.returns-then-end-moment-clause-none
returns-then-end-moment-clause-none c = λ none.
    (all_after c.args.ends.now c.in_ok-end.field-0.now.0 c.in_ok-end.field-0.now.1 c.args.moment c.in_ok-end.ensures.least c.if-end-moment.true, refl)

pub returns-clause-taken : goal.returns-clause-taken
returns-clause-taken c =
    first_taken c.args.ends.now c.pop_first.new.self c.in_ok-end.field-0.now.0 c.in_ok-end.field-0.now.1 c.args.moment
    (popped c.args.ends.now c.pop_first.new.self c.pop_first.result c.in_ok-end.field-0.now c.in_ok-end.ensures.first c.pop_first.ensures.removal c.pop_first.ensures.variant.1)
    c.if-end-moment.false
