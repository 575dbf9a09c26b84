use Rattle.std.proofs.lemmas.Result.{on_ok_weaker, on_err_weaker}
use Rattle.tree_order.proofs.ViewLemmas.{commits_under, only_commits_under, rollback_under}
use Rattle.tree_order.proofs.renumbered.RenumberedStore.commit.Goals as goal

pub returns-clause-ok : goal.returns-clause-ok
returns-clause-ok g c =
    let s = c.args.self.now in
    on_ok_weaker c.commit.result (λ is clean. commits_under s.numbers.inner.items s.numbers.outer.items (g.S.Store.view s.inner) (g.S.Store.view c.commit.new.self) (is clean)) c.commit.ensures.ok

pub returns-clause-frame : goal.returns-clause-frame
returns-clause-frame g c =
    let s = c.args.self.now in
    on_ok_weaker c.commit.result (λ is clean. only_commits_under s.numbers.inner.items s.numbers.outer.items (g.S.Store.view s.inner) (g.S.Store.view c.commit.new.self) (is clean)) c.commit.ensures.frame

pub returns-clause-err : goal.returns-clause-err
returns-clause-err g c =
    let s = c.args.self.now in
    on_err_weaker c.commit.result (rollback_under s.numbers.inner.items s.numbers.outer.items s.numbers.inverse (g.S.Store.view s.inner) (g.S.Store.view c.commit.new.self)) c.commit.ensures.err
