-- What a keep in order that is ended leaves of its files.
use Rattle.std.proofs.Common.{◌≡◌, ◌∙◌, false, IsTrue, ap, arith, sym, subst}
use Rattle.std.proofs.Math.Logic.{∥∥₁_map}
use Rattle.file_order.proofs.RecoveredLemmas.{list_shaped}
use Rattle.sqlite_disk.specs.declared.Disk as disk
use Rattle.sqlite_disk.specs.declared.Files.{Files}
use Rattle.sqlite_wal.proofs.LogLemmas.{SeenMayStay}
use Rattle.sqlite_wal.specs.Reads.{AreClean}
use Rattle.sqlite_trees.specs.Tree.{Trees}
use Rattle.sqlite_store.specs.FileStore.{files as store_files}
use Rattle.sqlite_store.specs.declared.store.FileStore.{FileStore}
use Rattle.sqlite.specs.Effect.{Database}
use Rattle.sqlite.specs.Files.{HoldsDatabase}
use Rattle.sqlite.specs.State.{HasCleanDisk}
use Rattle.tree_order.specs.declared.renumbered.Renumbered.{Renumbered}
use Rattle.store_rows.specs.Tables.{tables_in}
use Rattle.store_house.specs.Named.{tables_held, IsReordered}
use Rattle.store.specs.Kept.{House, IsKept, MayLeave, content}
use Rattle.store.proofs.Closed.{stays_shown}
use Rattle.store_house.proofs.ArrangedLemmas.{found_in_order}
use Rattle.store.specs.Closing.{HoldLeft, HoldTablesAlone, IsClosed, IsCopied, IsEnded, IsLeft}
use Rattle.store.specs.InOrder.{order_state, over_order}

module _ {D : Type 0} (g : disk.Ghosts D) (keep : House (Renumbered (FileStore D g))) (kept : IsKept over_order keep) (files : Files D) where
  -- where a keep that had not failed was copied, its tables lie in the file
  house_held : IsCopied keep.conn files → keep.failed ≡ false → HoldTablesAlone g files (content over_order keep)
  house_held copied works =
      let rests = kept.rests works copied.was_clean in
      let same : content over_order keep ≡ tables_held copied.db = ap (λ (db : Database). tables_in db.trees) rests.settled ∙ copied.tables in
      record {
        seen = record { db = copied.db; alone = copied.seen; tables = same };
        left = λ image left. record { db = copied.db; alone = copied.left image left; tables = same };
      }

  -- and where it had failed, those that a crash could leave
  left_held : SeenMayStay g → IsCopied keep.conn files → HoldLeft g keep files
  left_held stays copied = record {
    honest = copied.was_clean;
    left = λ image may. ∥∥₁_map (copied.left image may).both (λ holds.
        let may_leave : MayLeave over_order keep (tables_held copied.db) =
        ((order_state keep.conn).committed.trees, stays_shown keep.conn stays copied.was_open, sym copied.tables) in
        let r : (db : Trees) × HoldsDatabase image db × MayLeave over_order keep (tables_held db) = (copied.db, holds, may_leave) in
        r);
  }

  pub ended : SeenMayStay g → IsTrue (g.is_usable files.log) × IsTrue (g.is_usable files.db) → (AreClean g files.log files.db → IsCopied keep.conn files) → IsEnded g keep files
  ended stays usable copies = record {
    log = usable.0;
    file = usable.1;
    copied = copies;
    house = λ clean. house_held (copies clean);
    kept = λ clean. left_held stays (copies clean);
  }

  pub not_ended : (store : FileStore D g) → (files.log, files.db) ≡ store_files store → IsClosed keep.conn store → IsLeft g keep files
  not_ended store is closed = record {
    store = store;
    of_store = is;
    closed = closed;
    tables = λ clean found may.
        let early : HasCleanDisk (order_state keep.conn) = omega (arith, closed.clean, clean) in
        let left = closed.crash found may in
        let held = kept.houses early left.0 left.1 in
        (left.0, left.1, sym (ap tables_in held.2 ∙ found_in_order found held.0 (list_shaped store found may) (subst (IsReordered found) held.2 left.2) held.1));
  }
