use Rattle.std.proofs.lemmas.Result.{on_ok_weaker}
use Rattle.tree_order.proofs.ViewLemmas.{releases_under, fails_under}
use Rattle.tree_order.proofs.renumbered.RenumberedStore.release.Goals as goal

pub returns-clause-ok : goal.returns-clause-ok
returns-clause-ok g c =
    let s = c.args.self.now in
    on_ok_weaker c.release.result (λ is clean. releases_under s.numbers.inner.items s.numbers.outer.items (g.S.Store.view s.inner) (g.S.Store.view c.release.new.self) (is clean)) c.release.ensures.ok

pub returns-clause-err : goal.returns-clause-err
returns-clause-err g c =
    let s = c.args.self.now in
    fails_under s.numbers.inner.items s.numbers.outer.items c.release.result (g.S.Store.view s.inner) (g.S.Store.view c.release.new.self) c.release.ensures.err
