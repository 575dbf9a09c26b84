use Rattle.tree_order.proofs.ViewLemmas.{fails_under}
use Rattle.tree_order.proofs.renumbered.RenumberedStore.get.Goals as goal

pub returns-clause-err : goal.returns-clause-err
returns-clause-err g c =
    let s = c.args.self.now in
    fails_under s.numbers.inner.items s.numbers.outer.items c.get.result (g.S.Store.view s.inner) (g.S.Store.view c.get.new.self) c.get.ensures.err
