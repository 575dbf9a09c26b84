use Rattle.std.proofs.Common.{◌≡◌, ℕ, ◌+◌, ◌≤◌, pos, false, length, Some, arith, inr, sym, ◌∙◌, subst, subst₂}
use Rattle.std.specs.Prelude.{◌⊎◌}
use Rattle.sqlite_disk.specs.Disk.{MoreFaults}
use Rattle.sqlite_trees.specs.declared.store.Shape.TheVariants.{Table}
use Rattle.sqlite_trees.specs.declared.error.StoreError.TheVariants.{OutOfMemory}
use Rattle.sqlite_trees.specs.Tree.{without_rowid}
use Rattle.sqlite_trees.specs.View.{View, IsShaped, IsFailure, HasCause, Tells}
use Rattle.sqlite_trees.specs.Objects.{catalog_tree}
use Rattle.sqlite_trees.specs.Sound.{is_sound_list}
use Rattle.tree_order.specs.Renumbered.{renumbered}
use Rattle.tree_order.specs.NumberLaws.{number_past}
use Rattle.tree_order.specs.Laws.{catalog_kept}
use Rattle.tree_order.proofs.ViewLemmas.{named, failure_under, plain_under}
use Rattle.tree_order.proofs.ToldLemmas.{passed_ok, passed_err, failure_told, tells_told, names_told, cause_told}
use Rattle.tree_order.proofs.AlterLemmas.{destroys_under}
use Rattle.tree_order.proofs.alter.RenumberedAlter.destroy.Goals as goal

pub returns-clause-ok : goal.returns-clause-ok
returns-clause-ok g c =
    let s = c.args.self.now in
    let inner = s.numbers.inner.items in
    let outer = s.numbers.outer.items in
    let old = g.S.Store.view s.inner in
    let new = g.S.Store.view c.destroy-done.new.self in
    let table : old.is_broken ≡ false → IsShaped Table (old.trees catalog_tree) = λ sound.
    subst (λ shape. IsShaped shape (old.trees catalog_tree)) (g.met.S.Alter.listed s.inner sound).itself.0 (g.met.S.Store.ordered s.inner sound catalog_tree)
    in
    passed_ok c.destroy-done.result c.outer_answer.result
    (λ done clean. destroys_under inner outer s.numbers.inverse old new c.args.tree c.inner_number-tree.result (named c.args.tree (omega arith)) c.inner_number-tree.ensures table (done clean))
    c.outer_answer.ensures.ok c.destroy-done.ensures.ok

pub returns-clause-err : goal.returns-clause-err
returns-clause-err g c =
    let s = c.args.self.now in
    let inner = s.numbers.inner.items in
    let outer = s.numbers.outer.items in
    let old = g.S.Store.view s.inner in
    let new = g.S.Store.view c.destroy-done.new.self in
    passed_err (IsFailure old new) (IsFailure (renumbered inner outer old) (renumbered inner outer new)) inner c.destroy-done.result c.outer_answer.result
    (λ e h. failure_told inner (renumbered inner outer old) (renumbered inner outer new) e (failure_under inner outer old new e h))
    c.outer_answer.ensures.err c.destroy-done.ensures.err

pub returns-clause-told : goal.returns-clause-told
returns-clause-told g c =
    let inner = c.args.self.now.numbers.inner.items in
    let blamed = g.S.Store.blamed c.destroy-done.new.self in
    passed_err (Tells blamed) (Tells blamed) inner c.destroy-done.result c.outer_answer.result (tells_told inner blamed) c.outer_answer.ensures.err c.destroy-done.ensures.told

pub returns-clause-named : goal.returns-clause-named
returns-clause-named g c = λ clean.
    let s = c.args.self.now in
    let inner = s.numbers.inner.items in
    let names = g.S.Store.names s.inner c.destroy-done.new.self in
    passed_err names (λ e. (e ≡ OutOfMemory) ⊎ names e) inner c.destroy-done.result c.outer_answer.result (names_told inner names) c.outer_answer.ensures.err (c.destroy-done.ensures.named clean)

pub returns-clause-step : goal.returns-clause-step
returns-clause-step g c =
    let s = c.args.self.now in
    inr (subst (λ tree. g.S.Store.is_step s.inner c.destroy-done.new.self (Some tree)) (sym (catalog_kept s.numbers.inner.items s.numbers.outer.items s.numbers.inverse)) c.destroy-done.ensures.step)

pub returns-clause-cause : goal.returns-clause-cause
returns-clause-cause g c = λ clean.
    let s = c.args.self.now in
    let inner = s.numbers.inner.items in
    let outer = s.numbers.outer.items in
    let old = g.S.Store.view s.inner in
    let new = g.S.Store.view c.destroy-done.new.self in
    let fault = MoreFaults (g.S.Store.faults s.inner) (g.S.Store.faults c.destroy-done.new.self) in
    let why = λ (tree : ℕ) (v : View). is_sound_list (without_rowid (pos (tree + 1)) (v.trees catalog_tree)) ≡ false in
    let stays : length inner ≤ 0 → why c.inner_number-tree.result old → why c.args.tree (renumbered inner outer old) = λ none.
    subst₂ why (c.inner_number-tree.ensures ∙ number_past inner c.args.tree (omega arith)) (sym (plain_under inner outer s.numbers.inverse none old))
    in
    passed_err (HasCause old fault (why c.inner_number-tree.result old)) (HasCause (renumbered inner outer old) fault (why c.args.tree (renumbered inner outer old))) inner c.destroy-done.result c.outer_answer.result
    (λ e. cause_told inner old (renumbered inner outer old) fault (why c.inner_number-tree.result old) (why c.args.tree (renumbered inner outer old)) e (λ broken. broken) stays)
    c.outer_answer.ensures.err (c.destroy-done.ensures.cause clean)
