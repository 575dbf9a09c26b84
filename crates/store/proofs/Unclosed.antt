-- Why a connection in order could not be closed.
use Rattle.std.proofs.Common.{◌≡◌, ◌≢◌, ◌∙◌, ℕ, ◌≤◌, IsTrue, Err, Ok, Result, arith, false, inl, inr, refl, subst, sym, true≢false}
use Rattle.std.specs.Prelude.{IfErr}
use Rattle.house_rows.specs.declared.fault.KeepFault.{KeepFault}
use Rattle.house_rows.specs.declared.fault.KeepFault.TheVariants.{Store}
use Rattle.sqlite_disk.specs.Disk.{MoreFaults}
use Rattle.sqlite_disk.specs.declared.Disk as disk
use Rattle.sqlite_trees.specs.View.{HasCause, IsClean, IsQuiet, IsRolledBack as IsUndone, View}
use Rattle.sqlite_trees.specs.declared.error.StoreError.{StoreError}
use Rattle.sqlite_trees.specs.declared.error.StoreError.TheVariants.{Broken, Corrupt, Full, Io, OutOfMemory, Unstorable}
use Rattle.sqlite_store.specs.FileStore.{faults, is_shielded, recovers, view}
use Rattle.sqlite_store.specs.declared.store.FileStore.{FileStore}
use Rattle.sqlite.specs.Held.{Held}
use Rattle.tree_order.specs.declared.renumbered.Renumbered.{Renumbered}
use Rattle.store.specs.InOrder.{order_state, over_order}

-- a call of a store that isn't broken fails only where the disk failed or refused, or memory was refused
of_cause : (v : View) (a b c : ℕ) (error : StoreError) → v.is_broken ≡ false → a ≤ b
    → HasCause v (MoreFaults b c) ⊥ error → error ≢ OutOfMemory → MoreFaults a c
of_cause v a b c OutOfMemory sound up cause other = absurd (other refl)
of_cause v a b c Io sound up cause other = omega arith
of_cause v a b c Corrupt sound up cause other = omega arith
of_cause v a b c Full sound up cause other = omega arith
of_cause v a b c Broken sound up cause other = absurd (true≢false (sym cause ∙ sound))
of_cause v a b c Unstorable sound up cause other = absurd cause

-- so it is of the copying of a log, after what is not committed was undone
pub disk_failed : {D : Type 0} {g : disk.Ghosts D} (store before last : FileStore D g) (error : StoreError)
    → IsUndone (view store) (view before)
    → IsQuiet view faults recovers is_shielded store before
    → IsQuiet view faults recovers is_shielded before last
    → HasCause (view before) (MoreFaults (faults before) (faults last)) ⊥ error
    → error ≢ OutOfMemory → IsClean (view last) → IsTrue (view store).is_open
    → MoreFaults (faults store) (faults last)
disk_failed store before last error undone quiet after cause other clean on =
    let early : IsClean (view before) = omega (arith, after.clean, clean) in
    elim (quiet.closes early on) [
      | inl still ↦ of_cause (view before) (faults store) (faults before) (faults last) error
          (undone.undone still).1 quiet.counts cause other
      | inr fault ↦ omega (arith, fault, after.counts)
    ]

module _ {D : Type 0} {g : disk.Ghosts D} (conn : Held (Renumbered (FileStore D g))) (back : Renumbered (FileStore D g))
    (quiet : IsQuiet over_order.view over_order.faults over_order.recovers over_order.is_shielded conn.store back) where
  -- and of a connection over the store that shows it in order
  closing_failed : (last : FileStore D g) → IsQuiet view faults recovers is_shielded back.inner last
      → (IsClean (view last) → IsTrue (view back.inner).is_open
      → MoreFaults (faults back.inner) (faults last))
      → IsClean (view last) → IsTrue (order_state conn).is_open
      → MoreFaults (order_state conn).faults (faults last)
  closing_failed last after cause clean on =
      let early : IsClean (view back.inner) = omega (arith, after.clean, clean) in
      let fewer : (order_state conn).faults ≤ faults back.inner = quiet.counts in
      elim (quiet.closes early on) [
        | inl still ↦ let more : MoreFaults (faults back.inner) (faults last) = cause clean still in
            omega (arith, fewer, more)
        | inr fault ↦ omega (arith, fault, after.counts)
      ]

  pub closings_fail : {T : Type 0} (inner : FileStore D g) (r : Result T (KeepFault × FileStore D g))
      → inner ≡ back.inner → IfErr r (λ e. IsQuiet view faults recovers is_shielded inner e.1)
      → IfErr r (λ e. e.0 ≡ Store → IsClean (view e.1) → IsTrue (view inner).is_open
      → MoreFaults (faults inner) (faults e.1))
      → IfErr r (λ e. e.0 ≡ Store → IsClean (view e.1) → IsTrue (order_state conn).is_open
      → MoreFaults (order_state conn).faults (faults e.1))
  closings_fail inner (Ok x) same left cause = tt
  closings_fail inner (Err e) same left cause = λ is. closing_failed e.1
      (subst (λ (s : FileStore D g). IsQuiet view faults recovers is_shielded s e.1) same left)
      (subst (λ (s : FileStore D g). IsClean (view e.1) → IsTrue (view s).is_open
      → MoreFaults (faults s) (faults e.1)) same (cause is))
