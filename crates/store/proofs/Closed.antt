-- What a connection in order that is closed leaves of its files.
use Rattle.std.proofs.Common.{◌≡◌, ◌∙◌, IsTrue, ap, arith, refl, subst, sym}
use Rattle.file_order.proofs.RecoveredLemmas.{are_databases, list_shaped}
use Rattle.sqlite_disk.specs.declared.Disk as disk
use Rattle.sqlite_disk.specs.declared.Files.{Files}
use Rattle.sqlite_pool.proofs.StateLemmas.{clean_is, may_leave_is}
use Rattle.sqlite_wal.proofs.LogLemmas.{SeenMayStay}
use Rattle.sqlite_wal.specs.Files.{outcomes}
use Rattle.sqlite_wal.specs.Reads.{AreClean}
use Rattle.sqlite_wal.specs.Recovery.{Image}
use Rattle.sqlite_trees.proofs.Doubt.{no_doubt}
use Rattle.sqlite_trees.specs.Tree.{Trees}
use Rattle.sqlite_trees.specs.View.{IsClean, IsQuiet, IsRolledBack as IsUndone}
use Rattle.sqlite_store.specs.FileStore.{faults, files as store_files, is_shielded, recovers, view}
use Rattle.sqlite_store.specs.Laws.{stays_at}
use Rattle.sqlite_store.specs.declared.store.FileStore.{FileStore}
use Rattle.sqlite.proofs.Theorems.{copied}
use Rattle.sqlite.specs.Held.{AreDatabases, Held}
use Rattle.sqlite.specs.State.{HasCleanDisk}
use Rattle.tree_order.specs.Shown.{shown_trees}
use Rattle.tree_order.specs.declared.renumbered.Renumbered.{Renumbered}
use Rattle.store_house.specs.Named.{IsReordered}
use Rattle.store.specs.Kept.{LeavesHouses}
use Rattle.store_house.proofs.ArrangedLemmas.{found_in_order}
use Rattle.store.specs.Closing.{IsClosed, IsCopied, IsEmptied}
use Rattle.store.specs.InOrder.{order_state, over_order}
use Rattle.sqlite_catalog.specs.Listing.{IsSound}
use Rattle.store_rows.specs.Tables.{tables_in}
use Rattle.sqlite_schema.specs.declared.schema.Schema.{Schema}

-- a crash may leave what was committed
pub stays_shown : {D : Type 0} {g : disk.Ghosts D} (conn : Held (Renumbered (FileStore D g))) → SeenMayStay g → IsTrue (order_state conn).is_open
    → (order_state conn).may_leave (order_state conn).committed.trees
stays_shown conn stays is_open = ((view conn.store.inner).committed, stays_at conn.store.inner stays is_open, refl)

module _ {D : Type 0} {g : disk.Ghosts D} (conn : Held (Renumbered (FileStore D g))) (back : Renumbered (FileStore D g))
    (houses : LeavesHouses (order_state conn))
    (quiet : IsQuiet over_order.view over_order.faults over_order.recovers over_order.is_shielded conn.store back)
    (numbered : IsClean (view back.inner) → IsTrue (view back.inner).is_numbered) where
  -- what a store shows is what it has, in some order
  order_of : (below : Trees) → IsReordered below (shown_trees back.numbers below)
  order_of below = record {
    inner = back.numbers.inner.items;
    outer = back.numbers.outer.items;
    inverse = back.numbers.inverse;
    shown = refl;
  }

  -- each database that a crash may leave obeys a schema in the order of its file
  databases : IsClean (view back.inner) → AreDatabases (recovers back.inner)
  databases clean =
      let early : HasCleanDisk (order_state conn) = omega (arith, quiet.clean, clean) in
      are_databases back.numbers.inner.items back.numbers.outer.items back.inner back.numbers.inverse (numbered clean)
      (λ below may.
      let shown : Trees = shown_trees back.numbers below in
      let held = houses early shown (quiet.outcomes shown (below, may, refl)) in
      (held.0.schema, subst (IsSound held.0.schema) (sym held.2) held.1.sound, ap (λ (s : Schema). s.views) held.1.schema))

  module _ (last : FileStore D g) (after : IsQuiet view faults recovers is_shielded back.inner last) where
    pub is_closed : IsClosed conn last
    is_closed = record {
      clean = omega (arith, quiet.clean, after.clean);
      sound = λ clean db may. databases (omega (arith, after.clean, clean)) db (after.outcomes db may);
      crash = λ found may.
          let shown : Trees = shown_trees back.numbers found in
          (shown, quiet.outcomes shown (found, after.outcomes found may, refl), order_of found);
    }

  pub is_copied : SeenMayStay g → IsUndone (over_order.view conn.store) (over_order.view back) → (last : FileStore D g) → IsEmptied back.inner last
      → (files : Files D) → store_files last ≡ (files.log, files.db) → AreClean g files.log files.db → IsCopied conn files
  is_copied stays undone last emptied files are honest =
      let sure_now = subst (λ (p : D × D). AreClean g p.0 p.1) (sym are) honest in
      let clean : IsClean (view last) = no_doubt _ (clean_is last.pool ∙ sure_now) in
      let early : IsClean (view back.inner) = omega (arith, emptied.quiet.clean, clean) in
      let on = emptied.is_open clean in
      let was = emptied.was_open clean in
      let kept = undone.kept early in
      let db : Trees = (view last).committed in
      let shown : (order_state conn).committed.trees ≡ shown_trees back.numbers db =
      sym (kept.committed was) ∙ ap (shown_trees back.numbers) (sym (emptied.committed clean)) in
      let order : IsReordered db (order_state conn).committed.trees = subst (IsReordered db) (sym shown) (order_of db) in
      let was_open : IsTrue (order_state conn).is_open = kept.was_open was in
      let was_clean : HasCleanDisk (order_state conn) = omega (arith, quiet.clean, early) in
      let held = houses was_clean _ (stays_shown conn stays was_open) in
      let sound : AreDatabases (recovers last) = λ found may. databases early found (emptied.quiet.outcomes found may) in
      let each = λ (image : Image) (may : outcomes g files.log files.db image).
      copied last stays on (emptied.numbered clean ∙ numbered early) sound (emptied.empty clean) image
      (may_leave_is last.pool image sure_now (subst (λ (p : D × D). outcomes g p.0 p.1 image) (sym are) may)) in
      record {
        was_clean = was_clean;
        was_open = was_open;
        db = db;
        order = order;
        tables = ap tables_in held.2 ∙ found_in_order db held.0 (list_shaped last db (stays_at last stays on)) (subst (IsReordered db) held.2 order) held.1;
        seen = each _ (stays _, stays _);
        left = each;
      }
