use Rattle.std.proofs.Common.{ℕ, sym, subst, ◌∙◌}
use Rattle.std.specs.BTreeSet.{BTreeSet}
use Rattle.list_items.specs.Closing.{AllAfter}
use Rattle.list_items.specs.Groups.{number_at, numbers_at}
use Rattle.list_items.proofs.Closed.{closed_all, closed_before, closing_step}
use Rattle.list_items.proofs.items.Items.close.Goals as goal

pub loop-number-preserved : goal.loop-number-preserved
loop-number-preserved c =
    rw c.close_row.ensures (
      closing_step c.loop-number.self-inside.rows.items (number_at c.loop-number.self-inside.lots) (numbers_at c.loop-number.self-inside.categories) (numbers_at c.loop-number.self-inside.sellers) (numbers_at c.loop-number.self-inside.purchases) c.loop-number.self-inside.ends c.next_due.new.ends c.in-Some.number c.args.moment c.in-Some.ensures.taken c.loop-number.invariant.0,
      closed_before c.in-Some.number c.args.moment c.loop-number.self-inside.rows.items ∙ c.loop-number.invariant.1,
    )

pub returns : goal.returns
returns c =
    let none = c.next_due.ensures.none c.in_default.is in
    sym (closed_all c.args.moment c.loop-number.self-inside.ends c.loop-number.self-inside.rows.items (subst (λ (ends : BTreeSet (ℕ × ℕ)). AllAfter ends c.args.moment) none.1 none.0) c.loop-number.invariant.0.ends)
    ∙ c.loop-number.invariant.1
