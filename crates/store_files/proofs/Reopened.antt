-- What an opening finds of the files of a keep that was stopped by a crash.
use Rattle.std.proofs.Common.{◌≡◌, ◌∙◌, IsTrue, ap, arith, subst, sym}
use Rattle.std.proofs.Math.Logic.{∥∥₁_elim, ∥∥₁_map}
use Rattle.std.proofs.lemmas.Bool.{and_from, and_parts}
use Rattle.sqlite_disk.specs.declared.Disk.{Ghosts}
use Rattle.sqlite_disk.specs.declared.Files.{Files}
use Rattle.sqlite_wal.proofs.LogLemmas.{SeenMayStay}
use Rattle.sqlite_wal.specs.Reads.{AreClean}
use Rattle.sqlite_wal.specs.Recovery.{Image}
use Rattle.sqlite_trees.specs.Tree.{Trees}
use Rattle.sqlite_trees.specs.View.{IsClean, IsQuiet}
use Rattle.sqlite_store.specs.FileStore.{files as store_files, view}
use Rattle.sqlite_store.specs.declared.store.FileStore.{FileStore}
use Rattle.sqlite.specs.Files.{HoldsDatabase, image_of}
use Rattle.sqlite.specs.State.{HasCleanDisk}
use Rattle.tree_order.specs.declared.renumbered.Renumbered.{Renumbered}
use Rattle.store_rows.specs.Tables.{IsAtRest, tables_in}
use Rattle.store_house.specs.Named.{tables_held}
use Rattle.store.specs.Closing.{MayHold}
use Rattle.store.specs.InOrder.{order_state, over_order}
use Rattle.store.specs.Kept.{House, LeavesHouses, MayLeave, content}
use Rattle.store_files.proofs.Crashed.{clean_if_files, holds_left, settled_shown}
use Rattle.store_files.proofs.TablesSet.{Tables-set}
use Rattle.store_files.specs.InOrder.{FindsLeft, IsCrashed}

-- what was clean after a call was so before
pub clean_before : {D : Type 0} (g : Ghosts D) (log db newer_log newer_db : D) → (IsTrue (g.is_clean newer_log) → IsTrue (g.is_clean log)) → (IsTrue (g.is_clean newer_db) → IsTrue (g.is_clean db))
    → AreClean g newer_log newer_db → AreClean g log db
clean_before g log db newer_log newer_db first second clean =
    let parts = and_parts _ _ clean in
    and_from _ _ (first parts.0) (second parts.1)

module _ {D : Type 0} (g : Ghosts D) (k after : House (Renumbered (FileStore D g))) (houses : LeavesHouses (order_state k.conn)) (back : Renumbered (FileStore D g))
    (given left : Files D) (gives : (given.log, given.db) ≡ store_files back.inner)
    (log : g.may_leave given.log (g.seen left.log)) (db : g.may_leave given.db (g.seen left.db)) (clean : AreClean g given.log given.db)
    (numbered : IsClean (view back.inner) → IsTrue (view back.inner).is_numbered)
    (quiet : IsQuiet over_order.view over_order.faults over_order.recovers over_order.is_shielded k.conn.store back)
    (finds : (before : House (Renumbered (FileStore D g))) → IsCrashed g before (image_of g left) → FindsLeft g before after) where
  was_clean : IsClean (view back.inner)
  was_clean = clean_if_files back.inner (subst (λ (p : D × D). AreClean g p.0 p.1) gives clean)

  -- the keep with the store that was given back
  abbrev before : House (Renumbered (FileStore D g))
  before = record k { conn = record k.conn { store = back } }

  crashed : IsCrashed g before (image_of g left)
  crashed = record {
    numbered = numbered was_clean;
    houses = λ honest db may. houses (omega (arith, quiet.clean, honest)) db (quiet.outcomes db may);
    honest = was_clean;
    left_so = subst (λ (p : D × D). g.may_leave p.0 (g.seen left.log) × g.may_leave p.1 (g.seen left.db)) gives (log, db);
  }

  pub crash_left : ∥ MayLeave over_order k (content over_order after) ∥₁
  crash_left = ∥∥₁_map (finds before crashed).tables (λ may. let r : MayLeave over_order k (content over_order after) = (may.0, quiet.outcomes may.0 may.1, may.2) in r)

  pub crash_same : SeenMayStay g → (HasCleanDisk (order_state k.conn) → IsAtRest (order_state k.conn)) → content over_order after ≡ content over_order k
  crash_same stays rests =
      let early : HasCleanDisk (order_state k.conn) = omega (arith, quiet.clean, was_clean) in
      ∥∥₁_elim crash_left (Tables-set _ _) (λ may. may.2 ∙ ap tables_in (settled_shown stays k may.0 may.1 (rests early)))

-- What a crash left of the files of a keep holds tables that it may leave of the keep, whether or not
-- the files can be opened.
module _ {D : Type 0} (g : Ghosts D) (k : House (Renumbered (FileStore D g))) (houses : LeavesHouses (order_state k.conn)) (back : Renumbered (FileStore D g))
    (given left : Files D) (gives : (given.log, given.db) ≡ store_files back.inner)
    (log : g.may_leave given.log (g.seen left.log)) (db : g.may_leave given.db (g.seen left.db))
    (numbered : IsClean (view back.inner) → IsTrue (view back.inner).is_numbered)
    (quiet : IsQuiet over_order.view over_order.faults over_order.recovers over_order.is_shielded k.conn.store back) where
  -- the keep with the store that was given back
  abbrev stopped : House (Renumbered (FileStore D g))
  stopped = record k { conn = record k.conn { store = back } }

  stopped_so : IsClean (view back.inner) → IsCrashed g stopped (image_of g left)
  stopped_so was_clean = record {
    numbered = numbered was_clean;
    houses = λ honest db may. houses (omega (arith, quiet.clean, honest)) db (quiet.outcomes db may);
    honest = was_clean;
    left_so = subst (λ (p : D × D). g.may_leave p.0 (g.seen left.log) × g.may_leave p.1 (g.seen left.db)) gives (log, db);
  }

  pub crash_held : AreClean g given.log given.db → MayHold k (image_of g left)
  crash_held clean =
      let was_clean : IsClean (view back.inner) = clean_if_files back.inner (subst (λ (p : D × D). AreClean g p.0 p.1) gives clean) in
      ∥∥₁_map (holds_left stopped (image_of g left) (stopped_so was_clean)) (λ found.
      let may : MayLeave over_order stopped (tables_held found.0) = found.2 in
      let now : MayLeave over_order k (tables_held found.0) = (may.0, quiet.outcomes may.0 may.1, may.2) in
      let r : (db : Trees) × HoldsDatabase (image_of g left) db × MayLeave over_order k (tables_held db) = (found.0, found.1, now) in
      r)
