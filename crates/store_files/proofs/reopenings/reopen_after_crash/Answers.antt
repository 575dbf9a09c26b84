use Rattle.std.proofs.Common.{◌∙◌, ap, subst, sym}
use Rattle.std.proofs.lemmas.Result.{err_from_is_err_and}
use Rattle.sqlite_store.specs.FileStore.{files}
use Rattle.sqlite_trees.specs.View.{IsQuiet}
use Rattle.store.specs.InOrder.{over_order}
use Rattle.store_files.proofs.Reopened.{clean_before, crash_held, crash_left, crash_same}
use Rattle.store_files.proofs.reopenings.reopen_after_crash.Goals as goal

pub returns-clause-found : goal.returns-clause-found
returns-clause-found g c honest =
    let disk = g.D.Disk in
    let conn = c.into_connection.ensures in
    let given = c.close-files.result in
    let log = c.crash in
    let db = c.crash-2 in
    let store = c.into_store in
    let clean = clean_before disk given.log given.db log.new.self db.new.self log.ensures.clean db.ensures.clean (c.in_ok-again.ensures.honest honest) in
    crash_left disk c.args.keep c.in_ok-again.again conn.kept.houses store.result given (record { log = log.new.self; db = db.new.self })
    (c.close-files.ensures ∙ ap files c.into_inner.ensures) log.ensures.left db.ensures.left clean store.ensures.numbered
    (subst (λ h. IsQuiet over_order.view over_order.faults over_order.recovers over_order.is_shielded h.store store.result) conn.conn store.ensures.quiet)
    (c.in_ok-again.ensures.found honest)

pub returns-clause-same : goal.returns-clause-same
returns-clause-same g c honest works =
    let disk = g.D.Disk in
    let conn = c.into_connection.ensures in
    let given = c.close-files.result in
    let log = c.crash in
    let db = c.crash-2 in
    let store = c.into_store in
    let clean = clean_before disk given.log given.db log.new.self db.new.self log.ensures.clean db.ensures.clean (c.in_ok-again.ensures.honest honest) in
    crash_same disk c.args.keep c.in_ok-again.again conn.kept.houses store.result given (record { log = log.new.self; db = db.new.self })
    (c.close-files.ensures ∙ ap files c.into_inner.ensures) log.ensures.left db.ensures.left clean store.ensures.numbered
    (subst (λ h. IsQuiet over_order.view over_order.faults over_order.recovers over_order.is_shielded h.store store.result) conn.conn store.ensures.quiet)
    (c.in_ok-again.ensures.found honest) g.met.D.Disk.seen_may_stay (conn.kept.rests works)

-- what can't be opened is left as the crash left it

pub returns-in_err-again-clause-left : goal.returns-in_err-again-clause-left
returns-in_err-again-clause-left g c =
    let disk = g.D.Disk in
    let conn = c.into_connection.ensures in
    let closed = c.close-files.result in
    let log = c.crash in
    let db = c.crash-2 in
    let store = c.into_store in
    let p = err_from_is_err_and c.from_residual.result c.from_residual.ensures.1 in
    rw (p.1, p.2) (record {
      given = record { log = log.new.self; db = db.new.self };
      held = λ clean. crash_held disk c.args.keep conn.kept.houses store.result closed (record { log = log.new.self; db = db.new.self })
          (c.close-files.ensures ∙ ap files c.into_inner.ensures) log.ensures.left db.ensures.left store.ensures.numbered
          (subst (λ h. IsQuiet over_order.view over_order.faults over_order.recovers over_order.is_shielded h.store store.result) conn.conn store.ensures.quiet)
          (clean_before disk closed.log closed.db log.new.self db.new.self log.ensures.clean db.ensures.clean clean);
      kept = c.in_err-again.ensures.left;
      damaged = c.in_err-again.ensures.damaged;
    })
