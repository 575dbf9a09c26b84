use Rattle.std.proofs.Common.{arith}
use Rattle.std.proofs.lemmas.Result.{on_ok_weaker}
use Rattle.sqlite_trees.specs.Tree.{put_row}
use Rattle.tree_order.proofs.ViewLemmas.{named, sets_under, writes_under, fails_under}
use Rattle.tree_order.proofs.renumbered.RenumberedStore.put.Goals as goal

pub returns-clause-ok : goal.returns-clause-ok
returns-clause-ok g c =
    let s = c.args.self.now in
    on_ok_weaker c.put.result (λ sets clean. sets_under s.numbers.inner.items s.numbers.outer.items s.numbers.inverse (g.S.Store.view s.inner) (g.S.Store.view c.put.new.self) c.args.table c.inner_number-table.result (λ _. put_row c.args.row.now) (named c.args.table (omega arith)) c.inner_number-table.ensures (sets clean)) c.put.ensures.ok

pub returns-clause-frame : goal.returns-clause-frame
returns-clause-frame g c =
    let s = c.args.self.now in
    on_ok_weaker c.put.result (λ is clean. writes_under s.numbers.inner.items s.numbers.outer.items (g.S.Store.view s.inner) (g.S.Store.view c.put.new.self) (is clean)) c.put.ensures.frame

pub returns-clause-err : goal.returns-clause-err
returns-clause-err g c =
    let s = c.args.self.now in
    fails_under s.numbers.inner.items s.numbers.outer.items c.put.result (g.S.Store.view s.inner) (g.S.Store.view c.put.new.self) c.put.ensures.err
