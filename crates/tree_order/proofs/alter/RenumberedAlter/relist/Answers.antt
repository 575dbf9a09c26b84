use Rattle.std.proofs.Common.{◌≡◌, arith, sym, subst, subst₂, false}
use Rattle.std.specs.Prelude.{◌⊎◌, IfErr}
use Rattle.std.specs.List.{AllByRecursion, Any}
use Rattle.std.proofs.lemmas.Result.{on_ok_weaker}
use Rattle.sqlite_disk.specs.Disk.{MoreFaults}
use Rattle.sqlite_trees.specs.View.{View, HasCause, IsStorable}
use Rattle.sqlite_trees.specs.Objects.{catalog_tree, object_row, relisted, MayRelist, Relists, FailsToRelist}
use Rattle.sqlite_trees.specs.Sound.{is_sound_list}
use Rattle.tree_order.proofs.ViewLemmas.{plain_under}
use Rattle.tree_order.proofs.alter.RenumberedAlter.relist.Goals as goal

pub relist-requires-clause-each : goal.relist-requires-clause-each
relist-requires-clause-each g c = λ clean.
    let s = c.args.self.now in
    let old = g.S.Store.view s.inner in
    let same = plain_under s.numbers.inner.items s.numbers.outer.items s.numbers.inverse (omega (arith, c.len.ensures)) in
    subst (λ (v : View). AllByRecursion (MayRelist v) c.args.changes.now) (same old) (c.requires.each clean)

pub returns-clause-ok : goal.returns-clause-ok
returns-clause-ok g c =
    let s = c.args.self.now in
    let old = g.S.Store.view s.inner in
    let same = plain_under s.numbers.inner.items s.numbers.outer.items s.numbers.inverse (omega (arith, c.len.ensures)) in
    on_ok_weaker c.relist.result (λ done clean. subst₂ (λ (a b : View). Relists a b c.args.changes.now) (sym (same old)) (sym (same (g.S.Store.view c.relist.new.self))) (done clean)) c.relist.ensures.ok

pub returns-clause-err : goal.returns-clause-err
returns-clause-err g c =
    let s = c.args.self.now in
    let old = g.S.Store.view s.inner in
    let same = plain_under s.numbers.inner.items s.numbers.outer.items s.numbers.inverse (omega (arith, c.len.ensures)) in
    subst₂ (λ (a b : View). IfErr c.relist.result (FailsToRelist a b)) (sym (same old)) (sym (same (g.S.Store.view c.relist.new.self))) c.relist.ensures.err

pub returns-clause-cause : goal.returns-clause-cause
returns-clause-cause g c = λ clean.
    let s = c.args.self.now in
    let old = g.S.Store.view s.inner in
    let same = plain_under s.numbers.inner.items s.numbers.outer.items s.numbers.inverse (omega (arith, c.len.ensures)) in
    subst (λ (v : View). IfErr c.relist.result (HasCause v (MoreFaults (g.S.Store.faults s.inner) (g.S.Store.faults c.relist.new.self)) (Any (λ change. ¬ IsStorable 0 (object_row change.0 change.1)) c.args.changes.now ⊎ (is_sound_list (relisted (v.trees catalog_tree) c.args.changes.now) ≡ false)))) (sym (same old)) (c.relist.ensures.cause clean)
