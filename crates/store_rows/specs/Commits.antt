-- What a change leaves of a connection, and what it leaves where it fails.
use Rattle.std.specs.Prelude.{◌≡◌, false, IsTrue, OnErr, OnOk, Result}
use Rattle.sqlite_trees.specs.Tree.{Trees}
use Rattle.sqlite.specs.Effect.{Database}
use Rattle.sqlite.specs.State.{HasCleanDisk, State, Survives}
use Rattle.house_rows.specs.declared.change.Change.{Change}
use Rattle.store_rows.specs.Tables.{Changes}

-- the connection is open, and the change is made and committed
abbrev pub IsMade : Change → State → State → Type 0
IsMade change old new = IsTrue new.is_open × (new.now ≡ new.committed) × Changes change old.now new.now

-- the connection shows what was committed before
abbrev pub IsBack : State → State → Type 0
IsBack old new = (new.now ≡ old.committed) × (new.committed ≡ old.committed)

-- a crash leaves the rows that the connection shows, and no others
abbrev pub LeavesShown : State → Type 0
LeavesShown s = (db : Trees) → s.may_leave db → db ≡ s.now.trees

-- rows that the change makes of the house
abbrev pub MadeBy : Change → State → Trees → Type 0
MadeBy change old trees = (db : Database) × Changes change old.now db × (trees ≡ db.trees)

-- A change in a transaction of its own: made and committed, or nothing of it remains. A crash
-- leaves what it left before or the change, and after Ok the change alone.
pub record Commits {A E : Type 0} (change : Change) (old new : State) (result : Result A E) : Type 0 where
  pub ok : HasCleanDisk new → OnOk result (IsMade change old new)
  pub err : HasCleanDisk new → IsTrue new.is_open → OnErr result (IsBack old new)
  pub only : HasCleanDisk new → OnOk result (LeavesShown new)
  pub mode : new.in_transaction ≡ false
  pub crash : Survives old new (MadeBy change old)
