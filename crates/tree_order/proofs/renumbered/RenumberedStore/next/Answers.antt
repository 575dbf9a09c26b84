use Rattle.std.proofs.lemmas.Result.{on_ok_weaker}
use Rattle.tree_order.proofs.ViewLemmas.{moves_under, fails_under}
use Rattle.tree_order.proofs.renumbered.RenumberedStore.next.Goals as goal

pub returns-clause-moves : goal.returns-clause-moves
returns-clause-moves g c =
    let s = c.args.self.now in
    on_ok_weaker c.next.result (λ is clean. moves_under s.numbers.inner.items s.numbers.outer.items (g.S.Store.view s.inner) (g.S.Store.view c.next.new.self) c.args.cursor (is clean)) c.next.ensures.moves

pub returns-clause-err : goal.returns-clause-err
returns-clause-err g c =
    let s = c.args.self.now in
    fails_under s.numbers.inner.items s.numbers.outer.items c.next.result (g.S.Store.view s.inner) (g.S.Store.view c.next.new.self) c.next.ensures.err
