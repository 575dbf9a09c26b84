-- A keep over two files whose trees are shown in the order of a house: what an opening of such
-- files takes, and what a crash leaves of them. Start here.
use Rattle.std.specs.Prelude.{◌≡◌, ◌≢◌, ◌⊎◌, Bool, IsTrue, [], false, true}
use Rattle.sqlite_disk.specs.Disk.{MoreFaults}
use Rattle.sqlite_disk.specs.declared.Disk as disk
use Rattle.sqlite_disk.specs.declared.Files.{Files}
use Rattle.sqlite_wal.specs.Files.{outcomes}
use Rattle.sqlite_wal.specs.Reads.{AreClean}
use Rattle.sqlite_wal.specs.Recovery.{Image}
use Rattle.sqlite_trees.specs.Tree.{Trees}
use Rattle.sqlite_store.specs.FileStore.{files, recovers, view}
use Rattle.sqlite_store.specs.declared.store.FileStore.{FileStore}
use Rattle.sqlite.specs.Effect.{Database, IsDatabase}
use Rattle.sqlite.specs.Files.{AreFound, AreFoundIn, HoldsDatabase, IsCleanLeft, IsNothing, LeavesFiles, faults_left, faults_of, image_of}
use Rattle.sqlite.specs.declared.file.Leftover.{Leftover}
use Rattle.sqlite.specs.declared.file.Leftover.TheVariants as left
use Rattle.house_rows.specs.Tables.{Tables, tables_of}
use Rattle.house_rows.specs.declared.fault.KeepFault.{KeepFault}
use Rattle.house_rows.specs.declared.fault.KeepFault.TheVariants.{Damaged}
use Rattle.house_rows.specs.declared.settings.Settings.{Settings}
use Rattle.tree_order.specs.declared.renumbered.Renumbered.{Renumbered}
use Rattle.store_rows.specs.Schema.{no_schema}
use Rattle.store_rows.specs.Tables.{IsAtRest}
use Rattle.store_house.specs.Named.{HoldsHouse, HoldsSound, HoldsSoundFirst, IsArranged, IsReordered, UpgradesHeld, first_tables_held, tables_held}
use Rattle.store_making.specs.Made.{IsMadeHouse}
use Rattle.store.specs.Closing.{MayHold}
use Rattle.store.specs.Kept.{House, IsHonest, LeavesHouses, MayLeave, content}
use Rattle.store.specs.InOrder.{order_state, over_order}

-- ---- what two files hold

-- a house in any order that an opening takes
abbrev pub HoldsSoundHouse : Image → Type 0
HoldsSoundHouse image = (below : Trees) × HoldsDatabase image below × HoldsSound below

-- or one of version 1 that an upgrade takes
abbrev pub HoldsSoundFirstHouse : Image → Type 0
HoldsSoundFirstHouse image = (below : Trees) × HoldsDatabase image below × HoldsSoundFirst below

-- no database
abbrev pub HoldsNoDatabase : Image → Type 0
HoldsNoDatabase image = (db : Trees) → ¬ (HoldsDatabase image db)

-- neither a database nor nothing, which an opening makes an empty one
abbrev pub HoldsOther : Image → Type 0
HoldsOther image = HoldsNoDatabase image × (¬ (IsNothing image))

-- these tables of a house, by their names
pub record HoldsTables (image : Image) (t : Tables) : Type 0 where
  pub db : Trees
  pub holds : HoldsDatabase image db
  pub tables : t ≡ tables_held db

-- no table of SQL
abbrev pub HoldsNoTable : Image → Type 0
HoldsNoTable image = (db : Database) → IsDatabase db → HoldsDatabase image db.trees
    → db.schema ≡ no_schema

-- a database that lists a table, an index or a view
abbrev pub HoldsObject : Image → Type 0
HoldsObject image = (db : Database) × IsDatabase db × HoldsDatabase image db.trees
    × (db.schema ≢ no_schema)

-- a keep has the tables that the names find in what two files hold
abbrev pub HasTablesHeld : {D : Type 0} {g : disk.Ghosts D} → Image
    → House (Renumbered (FileStore D g)) → Type 0
HasTablesHeld image keep = IsHonest over_order keep → (db : Trees) → HoldsDatabase image db
    → content over_order keep ≡ tables_held db

-- the database that a keep shows, in the order of a house
abbrev pub shown_house : {D : Type 0} {g : disk.Ghosts D} → House (Renumbered (FileStore D g))
    → Database
shown_house keep = (order_state keep.conn).now

-- the tables of what files held, after an upgrade that found a house of version 1 or not
abbrev pub tables_after : Bool → Trees → Tables
tables_after true db = first_tables_held db
tables_after false db = tables_held db

-- An opening finds what files recover to, or where they held nothing, trees without a row. What it
-- finds in this is a house with these tables, by their names.
pub record FindsHouse (image : Image) (t : Tables) : Type 0 where
  pub db : Trees
  pub found : AreFoundIn image db
  pub house : HoldsHouse db
  pub tables : t ≡ tables_held db

-- What it finds in this is a database without a table.
abbrev pub FindsNoTable : Image → Type 0
FindsNoTable image = (db : Database) × IsDatabase db × AreFoundIn image db.trees
    × (db.schema ≡ no_schema)

-- What it finds in this is a database that lists a table, an index or a view.
abbrev pub FindsObject : Image → Type 0
FindsObject image = (db : Database) × IsDatabase db × AreFoundIn image db.trees
    × (db.schema ≢ no_schema)

-- It finds no database in this, not even an empty one, at any size of a page.
abbrev pub FindsNoDatabase : Image → Type 0
FindsNoDatabase image = (db : Database) → IsDatabase db → ¬ (AreFoundIn image db.trees)

-- What it finds in this is a house of version 1, of which this one was made, or it is this one.
pub record FindsUpgraded (image : Image) (was_first : Bool) (now : Database) : Type 0 where
  pub db : Trees
  pub found : AreFoundIn image db
  pub first : was_first ≡ true → UpgradesHeld db now
  pub kept : was_first ≡ false → IsArranged db now.trees

-- a keep has the tables of a house that is found in what two files hold
abbrev pub HasFoundHouse : {D : Type 0} {g : disk.Ghosts D} → Image
    → House (Renumbered (FileStore D g)) → Type 0
HasFoundHouse image keep = IsHonest over_order keep → FindsHouse image (content over_order keep)

-- the database that an opening of files finds, which is the one that they hold
pub record IsFound {D : Type 0} (g : disk.Ghosts D) (files : Files D) (db : Trees) : Type 0 where
  pub found : AreFound g files db
  pub holds : (other : Trees) → HoldsDatabase (image_of g files) other → db ≡ other

-- ---- what is left of files after a call that failed

-- These are the trees of a database, in its order or in another one. Where it holds a house, the
-- names find the same tables.
pub record HasTrees (held found : Trees) : Type 0 where
  pub order : IsReordered held found
  pub tables : HoldsHouse held → tables_held found ≡ tables_held held

-- A crash finds what files held, in its order or in another one.
abbrev pub FindsHeld : {D : Type 0} → disk.Ghosts D → Files D → Trees → Type 0
FindsHeld g files found = (held : Trees) × IsFound g files held × HasTrees held found

-- The files hold what they held; or a crash finds it in a store over them, in its order or in
-- another one.
abbrev pub LeavesFilesInOrder : {D : Type 0} {g : disk.Ghosts D} → Files D → Leftover D g → Type 0
LeavesFilesInOrder {D} {g} files rest = LeavesFiles files rest
    ⊎ ((store : FileStore D g) × (rest ≡ left.Store store)
    × ((found : Trees) → recovers store found → FindsHeld g files found))

-- These are the trees of a new house, in the order in which it was made or in another one, and the
-- names find its tables.
pub record HasNewHouse (settings : Settings) (found : Trees) : Type 0 where
  pub made : Database
  pub is_made : IsMadeHouse settings made
  pub order : IsReordered made.trees found
  pub tables : tables_held found ≡ tables_of settings []

-- What is left of files that a call would have made a house in: they hold what they held, or a
-- crash finds that or the new house in a store over them.
abbrev pub LeavesFilesNew : {D : Type 0} {g : disk.Ghosts D} → Settings → Files D → Leftover D g
    → Type 0
LeavesFilesNew {D} {g} settings files rest = LeavesFiles files rest
    ⊎ ((store : FileStore D g) × (rest ≡ left.Store store)
    × ((found : Trees) → recovers store found
    → IsFound g files found ⊎ HasNewHouse settings found))

-- These are the trees of a house of version 1 that was made one of version 2, in its order or in
-- another one, and the names find its tables.
pub record HasUpgraded (held found : Trees) : Type 0 where
  pub house : Database
  pub upgrades : UpgradesHeld held house
  pub order : IsReordered house.trees found
  pub tables : tables_held found ≡ first_tables_held held

-- What is left of files whose house a call would have upgraded: they hold what they held, or a
-- crash finds it, or the house upgraded, in a store over them.
abbrev pub LeavesFilesUpgraded : {D : Type 0} {g : disk.Ghosts D} → Files D → Leftover D g → Type 0
LeavesFilesUpgraded {D} {g} files rest = LeavesFiles files rest
    ⊎ ((store : FileStore D g) × (rest ≡ left.Store store)
    × ((found : Trees) → recovers store found
    → FindsHeld g files found ⊎ ((held : Trees) × IsFound g files held × HasUpgraded held found)))

-- ---- from one run to the next

-- a crash at this moment may leave this of the log and of the database file of a keep
abbrev pub MayCrashTo : {D : Type 0} {g : disk.Ghosts D} → House (Renumbered (FileStore D g))
    → Image → Type 0
MayCrashTo {D} {g} k =
    outcomes g (files k.conn.store.inner).0 (files k.conn.store.inner).1

-- What a crash has left of the files of a keep whose disk was honest so far. The first two are so
-- of every keep: the kit's `Connection` keeps the one of its store, and the keep the other.
pub record IsCrashed {D : Type 0} (g : disk.Ghosts D) (before : House (Renumbered (FileStore D g)))
    (left : Image) : Type 0 where
  pub numbered : IsTrue (view before.conn.store.inner).is_numbered
  pub houses : LeavesHouses (order_state before.conn)
  pub honest : IsHonest over_order before
  pub left_so : MayCrashTo before left

-- a crash may leave a database of which these trees are the house, by its names
abbrev pub MayShow : {D : Type 0} {g : disk.Ghosts D} → House (Renumbered (FileStore D g)) → Trees
    → Type 0
MayShow k shown =
    (below : Trees) × recovers k.conn.store.inner below × IsArranged below shown

-- A keep that was opened has the tables of one of the databases that a crash may leave of another
-- keep, and shows one by its names; of a keep at rest, it has its tables.
pub record FindsLeft {D : Type 0} (g : disk.Ghosts D)
    (before after : House (Renumbered (FileStore D g))) : Type 0 where
  pub tables : ∥ MayLeave over_order before (content over_order after) ∥₁
  pub trees : ∥ MayShow before (order_state after.conn).now.trees ∥₁
  pub same : IsAtRest (order_state before.conn)
      → content over_order after ≡ content over_order before

-- What is left of the files of a keep that a crash has stopped, and that could not be opened, with
-- this fault. As the crash left them, where they were honest, they held tables that it may leave of
-- the keep, and no sound house where the fault is `Damaged` and the disk didn't fail. What is left
-- of them holds what they held.
pub record LeavesCrashed {D : Type 0} (g : disk.Ghosts D)
    (before : House (Renumbered (FileStore D g))) (fault : KeepFault) (rest : Leftover D g)
    : Type 0 where
  pub given : Files D
  pub held : AreClean g given.log given.db → MayHold before (image_of g given)
  pub kept : IsCleanLeft rest → LeavesFilesInOrder given rest
  pub damaged : fault ≡ Damaged → IsCleanLeft rest
      → (¬ (HoldsSoundHouse (image_of g given))) ⊎ MoreFaults (faults_of g given) (faults_left rest)
