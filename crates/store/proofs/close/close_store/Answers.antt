use Rattle.std.proofs.Common.{◌∙◌, IsTrue, ap, arith, subst, sym}
use Rattle.std.proofs.lemmas.Result.{IfErr-at_err}
use Rattle.sqlite_pool.proofs.StateLemmas.{open_usable}
use Rattle.sqlite_rules.proofs.ViewLemmas.{still_quiet}
use Rattle.sqlite_disk.specs.Disk.{MoreFaults}
use Rattle.sqlite_store.specs.FileStore.{faults, state, view}
use Rattle.sqlite_trees.proofs.Doubt.{clean_of as sure}
use Rattle.sqlite_trees.specs.View.{HasCause, IsClean, View}
use Rattle.sqlite_wal.proofs.StateLemmas.{open_from}
use Rattle.store.proofs.Unclosed.{disk_failed}
use Rattle.store.proofs.close.close_store.Goals as goal

pub returns-in-Ok-clause-emptied : goal.returns-in-Ok-clause-emptied
returns-in-Ok-clause-emptied g c =
    let before = c.rollback.new.self in
    let last = c.checkpoint.new.self in
    let q = c.checkpoint.ensures.quiet in
    let clean : IsClean (view last) → IsClean (view before) = λ none. omega (arith, q.clean, none) in
    let on : IsClean (view last) → IsTrue (view before).is_open = λ none. open_from (state before) c.in-Ok.ensures.ready (sure (view before).is_clean (clean none)) in (
      last,
      sym c.close.ensures,
      record {
        quiet = still_quiet c.rollback.ensures.quiet q;
        was_open = λ none. (c.rollback.ensures.undone.kept (clean none)).was_open (on none);
        is_open = λ none. c.in-Ok.ensures.open none;
        committed = λ none. ap (λ (v : View). v.committed) (c.checkpoint.ensures.same (c.in-Ok.ensures.open none)) ∙ (c.rollback.ensures.undone.kept (clean none)).committed (on none);
        numbered = λ none. ap (λ (v : View). v.is_numbered) (c.checkpoint.ensures.same (c.in-Ok.ensures.open none)) ∙ (c.rollback.ensures.undone.kept (clean none)).numbered;
        empty = λ none. c.in-Ok.ensures.moved (c.rollback.ensures.logged ((c.rollback.ensures.undone.kept (clean none)).was_open (on none)));
      },
    )

pub returns-in-Ok-clause-usable : goal.returns-in-Ok-clause-usable
returns-in-Ok-clause-usable g c =
    subst (λ p. IsTrue (g.D.Disk.is_usable p.0) × IsTrue (g.D.Disk.is_usable p.1)) (sym c.close.ensures) (open_usable c.checkpoint.new.self.pool c.in-Ok.ensures.still)

pub returns-in-Err-clause-left : goal.returns-in-Err-clause-left
returns-in-Err-clause-left g c = still_quiet c.rollback.ensures.quiet c.checkpoint.ensures.quiet

pub returns-in-Err-clause-cause : goal.returns-in-Err-clause-cause
returns-in-Err-clause-cause g c = λ is clean on.
    let before = c.rollback.new.self in
    let last = c.checkpoint.new.self in
    let Cause = HasCause (view before) (MoreFaults (faults before) (faults last)) ⊥ in
    disk_failed c.args.store before last c.in-Err.error c.rollback.ensures.undone c.rollback.ensures.quiet
    c.checkpoint.ensures.quiet
    (IfErr-at_err Cause c.in-Err.is (c.checkpoint.ensures.cause clean))
    (c.close_fault.ensures.store is) clean on
