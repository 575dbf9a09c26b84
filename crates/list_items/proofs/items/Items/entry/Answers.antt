use Rattle.std.proofs.Common.{arith, sym, subst}
use Rattle.std.specs.Slice.{IsItemAt}
use Rattle.list_items.specs.Indexed.{number_of}
use Rattle.list_items.proofs.Joined.{none_below}
use Rattle.list_items.proofs.Placed.{entry_at}
use Rattle.list_items.proofs.items.Items.entry.Goals as goal

pub returns-in-Some : goal.returns-in-Some
returns-in-Some c = rw (← c.self.view_is) (entry_at number_of c.self.inside.rows.items c.args.number c.in-Some.place c.get.result c.self.invariant.in_turn c.in-Some.ensures.0 c.in-Some.ensures.1
    (subst (λ rows. IsItemAt rows c.in-Some.place c.get.result) c.deref.ensures.value c.get.ensures.lookup))

pub returns-in-None : goal.returns-in-None
returns-in-None c = rw (← c.self.view_is) (sym (none_below number_of 1 c.self.inside.rows.items c.args.number c.self.invariant.in_turn (omega (arith, c.in-None.ensures))))
