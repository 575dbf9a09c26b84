use Rattle.std.proofs.Common.{◌∙◌}
use Rattle.house_rows.specs.Keeping.{AreInTurn}
use Rattle.list_items.specs.Groups.{has_end}
use Rattle.list_items.specs.Indexed.{number_of}
use Rattle.list_items.proofs.Due.{due_is}
use Rattle.list_items.proofs.items.Items.due.Goals as goal

pub returns-clause-value : goal.returns-clause-value
returns-clause-value c = λ t same.
    let in_turn : AreInTurn number_of 1 c.args.self.now = rw c.self.view_is at c.self.invariant.in_turn in
    due_is t c.args.self.now c.args.moment c.make_rising.new.numbers.items (has_end c.self.inside.ends) c.due_count.result c.due_count-2.result same in_turn c.make_rising.ensures.rising
    (rw (← c.self.view_is) c.self.invariant.ends)
    (λ e n is_consistent le. c.make_rising.ensures.same n ∙ c.in_ok-numbers.ensures.all e n is_consistent le)
    (rw c.deref.ensures.value at c.due_count.ensures) (rw c.deref-2.ensures.value at c.due_count-2.ensures)
