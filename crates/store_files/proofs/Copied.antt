-- What a keep over a copy has.
use Rattle.std.proofs.Common.{◌≡◌, ◌∙◌, ℕ, List, IsTrue, refl, subst}
use Rattle.std.proofs.lemmas.Bool.{and_from, and_parts}
use Rattle.sqlite.specs.Files.{HoldsDatabase, image_of}
use Rattle.sqlite_disk.specs.declared.Disk as disk
use Rattle.sqlite_disk.specs.declared.Files.{Files}
use Rattle.sqlite_store.specs.declared.store.FileStore.{FileStore}
use Rattle.sqlite_trees.specs.Tree.{Trees}
use Rattle.sqlite_wal.specs.Reads.{AreClean, OnlyReads}
use Rattle.sqlite_wal.specs.Recovery.{Image}
use Rattle.tree_order.specs.declared.renumbered.Renumbered.{Renumbered}
use Rattle.store_house.specs.Named.{tables_held}
use Rattle.store.specs.InOrder.{over_order}
use Rattle.store.specs.Kept.{House, IsHonest, content}
use Rattle.store_files.specs.InOrder.{FindsHouse, HasFoundHouse, HasTablesHeld}

same_image : (log db log' db' : List ℕ) → log ≡ log' → db ≡ db'
    → ◌≡◌ {A = Image} (record { log = log; db = db }) (record { log = log'; db = db' })
same_image log db log' db' e d = rw (e, d) refl

-- files that show the same as others hold the same
same_files : {M D : Type 0} (f : disk.Ghosts M) (g : disk.Ghosts D) (copy : Files M)
    (files : Files D) → f.seen copy.log ≡ g.seen files.log → f.seen copy.db ≡ g.seen files.db
    → image_of f copy ≡ image_of g files
same_files f g copy files e d =
    same_image (f.seen copy.log) (f.seen copy.db) (g.seen files.log) (g.seen files.db) e d

-- a keep that has the tables of what a copy holds has those of what the files hold
pub has_tables : {M D : Type 0} {f : disk.Ghosts M} (g : disk.Ghosts D) (copy : Files M)
    (old new : Files D) (keep : House (Renumbered (FileStore M f)))
    → (IsHonest over_order keep → (db : Trees) → HoldsDatabase (image_of f copy) db
    → content over_order keep ≡ tables_held db)
    → (IsTrue (g.is_clean new.log) → f.seen copy.log ≡ g.seen old.log)
    → (IsTrue (g.is_clean new.db) → f.seen copy.db ≡ g.seen old.db)
    → AreClean g new.log new.db → HasTablesHeld (image_of g old) keep
has_tables {f = f} g copy old new keep holds log db clean honest =
    let parts = and_parts _ _ clean in
    subst (λ (image : Image). (db : Trees) → HoldsDatabase image db
    → content over_order keep ≡ tables_held db)
    (same_files f g copy old (log parts.0) (db parts.1)) (holds honest)

-- and one with the tables of a house that is found in a copy has those of one that is found in the
-- files
pub has_found : {M D : Type 0} {f : disk.Ghosts M} (g : disk.Ghosts D) (copy : Files M)
    (old new : Files D) (keep : House (Renumbered (FileStore M f)))
    → (IsHonest over_order keep → FindsHouse (image_of f copy) (content over_order keep))
    → (IsTrue (g.is_clean new.log) → f.seen copy.log ≡ g.seen old.log)
    → (IsTrue (g.is_clean new.db) → f.seen copy.db ≡ g.seen old.db)
    → AreClean g new.log new.db → HasFoundHouse (image_of g old) keep
has_found {f = f} g copy old new keep there log db clean honest =
    let parts = and_parts _ _ clean in
    subst (λ (image : Image). FindsHouse image (content over_order keep))
    (same_files f g copy old (log parts.0) (db parts.1)) (there honest)

-- what files hold that were only read is what they held
pub read_image : {D : Type 0} (g : disk.Ghosts D) (old new : Files D) → OnlyReads g old.log new.log
    → OnlyReads g old.db new.db → image_of g new ≡ image_of g old
read_image g old new log db = same_files g g new old log.seen db.seen

-- and where they are clean they were so
pub read_clean : {D : Type 0} (g : disk.Ghosts D) (old new : Files D) → OnlyReads g old.log new.log
    → OnlyReads g old.db new.db → AreClean g new.log new.db → AreClean g old.log old.db
read_clean g old new log db clean =
    let parts = and_parts _ _ clean in
    and_from _ _ (log.clean parts.0) (db.clean parts.1)

-- a file that was read twice was only read
pub read_twice : {D : Type 0} (g : disk.Ghosts D) (old mid new : D) → OnlyReads g old mid
    → OnlyReads g mid new → OnlyReads g old new
read_twice g old mid new a b = record {
  seen = b.seen ∙ a.seen;
  clean = λ clean. a.clean (b.clean clean);
  usable = b.usable;
  key = b.key ∙ a.key;
  rot = b.rot ∙ a.rot;
  crash = λ c left. a.crash c (b.crash c left);
}
