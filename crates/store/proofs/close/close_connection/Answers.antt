use Rattle.std.proofs.Common.{subst}
use Rattle.std.proofs.lemmas.Result.{IfErr-weaker, IfOk-weaker}
use Rattle.sqlite_store.specs.FileStore.{faults, is_shielded, recovers, view}
use Rattle.sqlite_trees.specs.View.{IsQuiet}
use Rattle.store.proofs.Closed.{is_closed, is_copied}
use Rattle.store.proofs.Unclosed.{closings_fail}
use Rattle.store.specs.Closing.{IsEmptied}
use Rattle.store.proofs.close.close_connection.Goals as goal

pub returns-clause-copied : goal.returns-clause-copied
returns-clause-copied g c =
    let back = c.into_store in
    IfOk-weaker c.close_store.result _ _
    (λ files h honest. is_copied c.args.conn back.result c.requires back.ensures.quiet back.ensures.numbered g.met.D.Disk.seen_may_stay back.ensures.undone
    h.0 (subst (λ s. IsEmptied s h.0) c.into_inner.ensures h.2) files h.1 honest)
    c.close_store.ensures.emptied

pub returns-clause-left : goal.returns-clause-left
returns-clause-left g c =
    let back = c.into_store in
    IfErr-weaker c.close_store.result _ _
    (λ e h. is_closed c.args.conn back.result c.requires back.ensures.quiet back.ensures.numbered e.1
    (subst (λ s. IsQuiet view faults recovers is_shielded s e.1) c.into_inner.ensures h))
    c.close_store.ensures.left

pub returns-clause-cause : goal.returns-clause-cause
returns-clause-cause g c =
    let back = c.into_store in
    closings_fail c.args.conn back.result back.ensures.quiet c.into_inner.result c.close_store.result
    c.into_inner.ensures c.close_store.ensures.left c.close_store.ensures.cause
