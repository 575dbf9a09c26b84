use Rattle.std.proofs.Common.{arith, to_z-of_z}
use Rattle.std.proofs.lemmas.Result.{on_ok_weaker}
use Rattle.sqlite_trees.specs.Tree.{without_rowid}
use Rattle.tree_order.proofs.ViewLemmas.{named, sets_under, writes_under, fails_under}
use Rattle.tree_order.proofs.renumbered.RenumberedStore.delete.Goals as goal

pub returns-clause-ok : goal.returns-clause-ok
returns-clause-ok g c =
    let s = c.args.self.now in
    let fits = c.ranges.id in
    on_ok_weaker c.delete.result (λ sets clean. sets_under s.numbers.inner.items s.numbers.outer.items s.numbers.inverse (g.S.Store.view s.inner) (g.S.Store.view c.delete.new.self) c.args.table c.inner_number-table.result (λ _. without_rowid c.args.id) (named c.args.table (omega arith)) c.inner_number-table.ensures (simp to_z-of_z at (sets clean))) c.delete.ensures.ok

pub returns-clause-frame : goal.returns-clause-frame
returns-clause-frame g c =
    let s = c.args.self.now in
    on_ok_weaker c.delete.result (λ is clean. writes_under s.numbers.inner.items s.numbers.outer.items (g.S.Store.view s.inner) (g.S.Store.view c.delete.new.self) (is clean)) c.delete.ensures.frame

pub returns-clause-err : goal.returns-clause-err
returns-clause-err g c =
    let s = c.args.self.now in
    fails_under s.numbers.inner.items s.numbers.outer.items c.delete.result (g.S.Store.view s.inner) (g.S.Store.view c.delete.new.self) c.delete.ensures.err
