use Rattle.std.proofs.Common.{arith}
use Rattle.std.proofs.lemmas.Result.{on_ok_weaker}
use Rattle.sqlite_trees.specs.Tree.{order_of, insert_entry}
use Rattle.tree_order.proofs.ViewLemmas.{named, sets_under, writes_under, fails_under}
use Rattle.tree_order.proofs.renumbered.RenumberedStore.insert.Goals as goal

pub returns-clause-ok : goal.returns-clause-ok
returns-clause-ok g c =
    let s = c.args.self.now in
    on_ok_weaker c.insert.result (λ sets clean. sets_under s.numbers.inner.items s.numbers.outer.items s.numbers.inverse (g.S.Store.view s.inner) (g.S.Store.view c.insert.new.self) c.args.index c.inner_number-index.result (λ n. insert_entry (order_of ((g.S.Store.view s.inner).shape n)) c.args.entry.now) (named c.args.index (omega arith)) c.inner_number-index.ensures (sets clean)) c.insert.ensures.ok

pub returns-clause-frame : goal.returns-clause-frame
returns-clause-frame g c =
    let s = c.args.self.now in
    on_ok_weaker c.insert.result (λ is clean. writes_under s.numbers.inner.items s.numbers.outer.items (g.S.Store.view s.inner) (g.S.Store.view c.insert.new.self) (is clean)) c.insert.ensures.frame

pub returns-clause-err : goal.returns-clause-err
returns-clause-err g c =
    let s = c.args.self.now in
    fails_under s.numbers.inner.items s.numbers.outer.items c.insert.result (g.S.Store.view s.inner) (g.S.Store.view c.insert.new.self) c.insert.ensures.err
