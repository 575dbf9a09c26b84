-- What a keep in order that is ended leaves in its files.
use Rattle.std.specs.Prelude.{◌≡◌, ◌≤◌, IsTrue, false}
use Rattle.house_rows.specs.Tables.{Tables}
use Rattle.house_rows.specs.declared.fault.KeepFault.{KeepFault}
use Rattle.house_rows.specs.declared.fault.KeepFault.TheVariants.{Store}
use Rattle.sqlite_disk.specs.Disk.{MoreFaults}
use Rattle.sqlite_disk.specs.declared.Disk as disk
use Rattle.sqlite_disk.specs.declared.Files.{Files}
use Rattle.sqlite_wal.specs.Files.{outcomes}
use Rattle.sqlite_wal.specs.Reads.{AreClean}
use Rattle.sqlite_wal.specs.Recovery.{Image}
use Rattle.sqlite_trees.specs.Tree.{Trees}
use Rattle.sqlite_trees.specs.View.{IsClean, IsQuiet, doubt}
use Rattle.sqlite_store.specs.FileStore.{faults, files as store_files, is_shielded, log_frames}
use Rattle.sqlite_store.specs.FileStore.{recovers, view}
use Rattle.sqlite_store.specs.declared.store.FileStore.{FileStore}
use Rattle.sqlite.specs.Closing.{HoldsAlone}
use Rattle.sqlite.specs.Files.{HoldsDatabase, image_of}
use Rattle.sqlite.specs.Held.{AreDatabases, Held}
use Rattle.sqlite.specs.State.{HasCleanDisk}
use Rattle.tree_order.specs.declared.renumbered.Renumbered.{Renumbered}
use Rattle.store_rows.specs.Tables.{tables_in}
use Rattle.store_house.specs.Named.{IsReordered, tables_held}
use Rattle.store.specs.Kept.{House, IsHonest, MayLeave, content}
use Rattle.store.specs.InOrder.{order_state, over_order}

-- ---- a connection that is closed

-- A store that was closed shows the last commit, and its log is empty. A crash leaves nothing that
-- it could not have left before.
pub record IsEmptied {D : Type 0} {g : disk.Ghosts D} (old last : FileStore D g) : Type 0 where
  pub quiet : IsQuiet view faults recovers is_shielded old last
  pub was_open : IsClean (view last) → IsTrue (view old).is_open
  pub is_open : IsClean (view last) → IsTrue (view last).is_open
  pub committed : IsClean (view last) → (view last).committed ≡ (view old).committed
  pub numbered : IsClean (view last) → (view last).is_numbered ≡ (view old).is_numbered
  pub empty : IsClean (view last) → log_frames last ≡ 0

-- The last commit of a connection is in the database file, in some order, as it reads now and after
-- a crash. The names find its tables.
pub record IsCopied {D : Type 0} {g : disk.Ghosts D} (c : Held (Renumbered (FileStore D g)))
    (files : Files D) : Type 0 where
  pub was_clean : HasCleanDisk (order_state c)
  pub was_open : IsTrue (order_state c).is_open
  pub db : Trees
  pub order : IsReordered db (order_state c).committed.trees
  pub tables : tables_in (order_state c).committed.trees ≡ tables_held db
  pub seen : HoldsAlone (image_of g files) db
  pub left : (image : Image) → outcomes g files.log files.db image → HoldsAlone image db

-- A store is left of a connection, of which a crash finds databases, and finds nothing that it
-- could not have found before, but for the order.
pub record IsClosed {D : Type 0} {g : disk.Ghosts D} (c : Held (Renumbered (FileStore D g)))
    (last : FileStore D g) : Type 0 where
  pub clean : doubt (order_state c).is_clean ≤ doubt (view last).is_clean
  pub sound : IsClean (view last) → AreDatabases (recovers last)
  pub crash : (found : Trees) → recovers last found
      → (shown : Trees) × (order_state c).may_leave shown × IsReordered found shown

-- ---- a keep that is ended

-- the tables of a house lie in the database file, by their names, with its log and without it
pub record HoldsTablesAlone (image : Image) (t : Tables) : Type 0 where
  pub db : Trees
  pub alone : HoldsAlone image db
  pub tables : t ≡ tables_held db

-- as the files read now, and after a crash
pub record HoldTablesAlone {D : Type 0} (g : disk.Ghosts D) (files : Files D) (t : Tables)
    : Type 0 where
  pub seen : HoldsTablesAlone (image_of g files) t
  pub left : (image : Image) → outcomes g files.log files.db image → HoldsTablesAlone image t

-- an image holds a database in which the names find tables that a crash may leave of a keep
abbrev pub MayHold : {D : Type 0} {g : disk.Ghosts D} → House (Renumbered (FileStore D g)) → Image
    → Type 0
MayHold k image =
    ∥ ((db : Trees) × HoldsDatabase image db × MayLeave over_order k (tables_held db)) ∥₁

-- Each image that a crash may leave of files holds tables that a crash could leave of a keep, whose
-- disk was honest where they are clean.
pub record HoldLeft {D : Type 0} (g : disk.Ghosts D) (keep : House (Renumbered (FileStore D g)))
    (files : Files D) : Type 0 where
  pub honest : IsHonest over_order keep
  pub left : (image : Image) → outcomes g files.log files.db image → MayHold keep image

-- A keep was ended, and these files are left of it. The database file has what the connection of the
-- keep committed last, tree by tree, which is its house where it had not failed.
pub record IsEnded {D : Type 0} (g : disk.Ghosts D) (keep : House (Renumbered (FileStore D g)))
    (files : Files D) : Type 0 where
  pub log : IsTrue (g.is_usable files.log)
  pub file : IsTrue (g.is_usable files.db)
  pub copied : AreClean g files.log files.db → IsCopied keep.conn files
  pub house : AreClean g files.log files.db → keep.failed ≡ false
      → HoldTablesAlone g files (content over_order keep)
  pub kept : AreClean g files.log files.db → HoldLeft g keep files

-- A keep could not be ended, and these files are left of its store. A crash finds nothing in that
-- store which it could not have found in the keep's, but for the order, and by their names the same
-- tables.
pub record IsLeft {D : Type 0} (g : disk.Ghosts D) (keep : House (Renumbered (FileStore D g)))
    (files : Files D) : Type 0 where
  pub store : FileStore D g
  pub of_store : (files.log, files.db) ≡ store_files store
  pub closed : IsClosed keep.conn store
  pub tables : IsClean (view store) → (found : Trees) → recovers store found
      → MayLeave over_order keep (tables_held found)

-- Why a keep could not be ended, of which these files are left. The store failed only where the disk failed
-- or refused in that time, or the connection of the keep was shut before.
pub record IsUnclosed {D : Type 0} (g : disk.Ghosts D) (keep : House (Renumbered (FileStore D g)))
    (files : Files D) (fault : KeepFault) : Type 0 where
  pub last : FileStore D g
  pub of_store : (files.log, files.db) ≡ store_files last
  pub store : fault ≡ Store → IsClean (view last) → IsTrue (order_state keep.conn).is_open
      → MoreFaults (order_state keep.conn).faults (faults last)
