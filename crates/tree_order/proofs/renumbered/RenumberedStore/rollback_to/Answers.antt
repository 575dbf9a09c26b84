use Rattle.std.proofs.Common.{ap}
use Rattle.std.proofs.lemmas.Result.{on_ok_weaker}
use Rattle.tree_order.specs.Renumbered.{renumbered}
use Rattle.tree_order.proofs.ViewLemmas.{back_under, some_marks, no_marks, fails_under}
use Rattle.tree_order.proofs.renumbered.RenumberedStore.rollback_to.Goals as goal

pub returns-clause-ok : goal.returns-clause-ok
returns-clause-ok g c =
    let s = c.args.self.now in
    let old = g.S.Store.view s.inner in
    on_ok_weaker c.rollback_to.result
    (λ is clean some. back_under s.numbers.inner.items s.numbers.outer.items old (g.S.Store.view c.rollback_to.new.self) (is clean (some_marks s.numbers.inner.items s.numbers.outer.items old.marks some)))
    c.rollback_to.ensures.ok

pub returns-clause-none : goal.returns-clause-none
returns-clause-none g c =
    let s = c.args.self.now in
    let old = g.S.Store.view s.inner in
    on_ok_weaker c.rollback_to.result
    (λ is clean none. ap (renumbered s.numbers.inner.items s.numbers.outer.items) (is clean (no_marks s.numbers.inner.items s.numbers.outer.items old.marks none)))
    c.rollback_to.ensures.none

pub returns-clause-err : goal.returns-clause-err
returns-clause-err g c =
    let s = c.args.self.now in
    fails_under s.numbers.inner.items s.numbers.outer.items c.rollback_to.result (g.S.Store.view s.inner) (g.S.Store.view c.rollback_to.new.self) c.rollback_to.ensures.err
