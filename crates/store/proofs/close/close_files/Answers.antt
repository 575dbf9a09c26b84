use Rattle.std.proofs.Common.{IsTrue, subst, sym}
use Rattle.sqlite_disk.specs.Disk.{MoreFaults}
use Rattle.sqlite_store.specs.FileStore.{faults, view}
use Rattle.sqlite_trees.specs.View.{IsClean}
use Rattle.store.specs.Kept.{LeavesHouses}
use Rattle.store.proofs.Ended.{ended, not_ended}
use Rattle.store.specs.Closing.{IsClosed, IsCopied}
use Rattle.store.specs.InOrder.{order_state}
use Rattle.store.proofs.close.close_files.Goals as goal

pub close_connection-requires : goal.close_connection-requires
close_connection-requires g c = subst (λ h. LeavesHouses (order_state h)) (sym c.into_connection.ensures.conn) c.into_connection.ensures.kept.houses

pub returns-in-Ok-clause-ended : goal.returns-in-Ok-clause-ended
returns-in-Ok-clause-ended g c =
    let conn = c.into_connection.ensures in
    let closed = c.in-Ok.ensures in
    ended g.D.Disk c.args.keep conn.kept c.in-Ok.files g.met.D.Disk.seen_may_stay closed.usable
    (λ clean. subst (λ h. IsCopied h c.in-Ok.files) conn.conn (closed.copied clean))

pub returns-in-Err-clause-left : goal.returns-in-Err-clause-left
returns-in-Err-clause-left g c =
    let conn = c.into_connection.ensures in
    not_ended g.D.Disk c.args.keep conn.kept c.close.result c.in-Err.store c.close.ensures
    (subst (λ h. IsClosed h c.in-Err.store) conn.conn c.in-Err.ensures.left)

pub returns-in-Err-clause-cause : goal.returns-in-Err-clause-cause
returns-in-Err-clause-cause g c = record {
  last = c.in-Err.store;
  of_store = c.close.ensures;
  store = λ is. subst (λ h. IsClean (view c.in-Err.store) → IsTrue (order_state h).is_open
      → MoreFaults (order_state h).faults (faults c.in-Err.store)) c.into_connection.ensures.conn
      (c.in-Err.ensures.cause is);
}
