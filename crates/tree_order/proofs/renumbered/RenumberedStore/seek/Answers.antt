use Rattle.std.proofs.Common.{arith, ap, ◌∙◌, sym}
use Rattle.std.proofs.lemmas.Result.{on_ok_weaker}
use Rattle.sqlite_trees.specs.Tree.{order_of, sought}
use Rattle.tree_order.specs.Numbers.{number}
use Rattle.tree_order.specs.Laws.{trees_at}
use Rattle.tree_order.proofs.ViewLemmas.{named, seek_under, fails_under}
use Rattle.tree_order.proofs.renumbered.RenumberedStore.seek.Goals as goal

pub returns-clause-ok : goal.returns-clause-ok
returns-clause-ok g c =
    let s = c.args.self.now in
    let old = g.S.Store.view s.inner in
    on_ok_weaker c.seek.result
    (λ is clean. seek_under s.numbers.inner.items s.numbers.outer.items old (g.S.Store.view c.seek.new.self) c.args.cursor _ _
    (ap (λ n. sought (order_of (old.shape n)) c.args.direction c.args.key.now (old.trees n)) c.inner_number-tree.ensures
    ∙ ap (sought (order_of (old.shape (number s.numbers.inner.items c.args.tree))) c.args.direction c.args.key.now) (sym (trees_at s.numbers.inner.items s.numbers.outer.items old.trees c.args.tree (named c.args.tree (omega arith)))))
    (is clean))
    c.seek.ensures.ok

pub returns-clause-err : goal.returns-clause-err
returns-clause-err g c =
    let s = c.args.self.now in
    fails_under s.numbers.inner.items s.numbers.outer.items c.seek.result (g.S.Store.view s.inner) (g.S.Store.view c.seek.new.self) c.seek.ensures.err
