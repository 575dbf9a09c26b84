use Rattle.std.proofs.Common.{arith, sym}
use Rattle.std.proofs.lemmas.Result.{on_ok_weaker}
use Rattle.sqlite_trees.specs.Objects.{version_tree, version_rows}
use Rattle.tree_order.specs.Laws.{version_kept}
use Rattle.tree_order.proofs.ViewLemmas.{sets_under, fails_under}
use Rattle.tree_order.proofs.alter.RenumberedAlter.set_version.Goals as goal

pub returns-clause-ok : goal.returns-clause-ok
returns-clause-ok g c =
    let s = c.args.self.now in
    on_ok_weaker c.set_version.result
    (λ sets clean. sets_under s.numbers.inner.items s.numbers.outer.items s.numbers.inverse (g.S.Store.view s.inner) (g.S.Store.view c.set_version.new.self) version_tree version_tree (λ _ _. version_rows c.args.version) (λ same. absurd (omega arith)) (sym (version_kept s.numbers.inner.items s.numbers.outer.items s.numbers.inverse)) (sets clean))
    c.set_version.ensures.ok

pub returns-clause-err : goal.returns-clause-err
returns-clause-err g c =
    let s = c.args.self.now in
    fails_under s.numbers.inner.items s.numbers.outer.items c.set_version.result (g.S.Store.view s.inner) (g.S.Store.view c.set_version.new.self) c.set_version.ensures.err
