use Rattle.tree_order.specs.Laws.{renumbered-plain}
use Rattle.tree_order.proofs.renumbered.Renumbered.plain.Goals as goal

pub returns-clause-view : goal.returns-clause-view
returns-clause-view g c = rw (c.new.ensures.numbers, c.new.ensures.inner, c.plain.ensures.0, c.plain.ensures.1) (renumbered-plain (g.S.Store.view c.args.inner))
