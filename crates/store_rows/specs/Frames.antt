-- What a call on a connection leaves beside its answer.
use Rattle.std.specs.Prelude.{◌≡◌, false, IfOk, OnErr, OnOk, Result}
use Rattle.sqlite_trees.specs.declared.store.Store.{Ghosts}
use Rattle.sqlite_trees.specs.Tree.{Trees}
use Rattle.sqlite.specs.Held.{Held, state}
use Rattle.sqlite.specs.State.{HasCleanDisk, IsUnchanged, KeepsCommit, State, Survives}
use Rattle.house_rows.specs.Taken.{IsUndamaged}
use Rattle.house_rows.specs.declared.fault.KeepFault.{KeepFault}
use Rattle.store_rows.specs.House.{IsInside, KeepsCommitted}

-- A query changes nothing: after an answer all is as it was, after a failure at least what was committed. It begins no
-- transaction, and a crash leaves what it left before.
pub record OnlyReads {A E : Type 0} (old new : State) (result : Result A E) : Type 0 where
  pub same : HasCleanDisk new → OnOk result (IsUnchanged old new)
  pub err : HasCleanDisk new → OnErr result (KeepsCommitted old new)
  pub mode : old.in_transaction ≡ false → new.in_transaction ≡ false
  pub crash : Survives old new (λ _. ⊥)

-- One statement within a transaction: it goes on, or after a failure all of it is undone or nothing was done. A crash leaves
-- what it left before.
pub record WritesOnce {A E : Type 0} (old new : State) (result : Result A E) : Type 0 where
  pub inside : HasCleanDisk new → OnOk result (IsInside old new)
  pub err : HasCleanDisk new → OnErr result (KeepsCommitted old new)
  pub crash : Survives old new (λ _. ⊥)

-- Several of them: after a failure what was committed is as it was.
pub record WritesMany {A E : Type 0} (old new : State) (result : Result A E) : Type 0 where
  pub inside : HasCleanDisk new → OnOk result (IsInside old new)
  pub err : HasCleanDisk new → OnErr result (KeepsCommit old new)
  pub crash : Survives old new (λ _. ⊥)

-- What a look-up promises. As far as the disk returned what was written, the answer is what is asked for of the rows, and it is
-- `Damaged` only where rows that it takes don't fit; an answer changes nothing, and an error at most undoes what wasn't committed.
-- Whatever the disk did, no transaction is begun, and a crash leaves what it left before.
pub record Finds {S A : Type 0} (g : Ghosts S) (old new : Held S) (result : Result A KeepFault) (IsAnswer : Trees → A → Type 0) (Fit : Trees → Type 0) : Type 0 where
  pub value : HasCleanDisk (state g new) → IfOk result (IsAnswer (state g old).now.trees)
  pub damaged : HasCleanDisk (state g new) → Fit (state g old).now.trees → IsUndamaged result
  pub read : OnlyReads (state g old) (state g new) result
