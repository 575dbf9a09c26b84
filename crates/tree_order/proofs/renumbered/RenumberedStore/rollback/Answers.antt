use Rattle.tree_order.proofs.ViewLemmas.{rollback_under}
use Rattle.tree_order.proofs.renumbered.RenumberedStore.rollback.Goals as goal

pub returns-clause-undone : goal.returns-clause-undone
returns-clause-undone g c =
    let s = c.args.self.now in
    rollback_under s.numbers.inner.items s.numbers.outer.items s.numbers.inverse (g.S.Store.view s.inner) (g.S.Store.view c.rollback.new.self) c.rollback.ensures.undone
