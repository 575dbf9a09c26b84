-- What a change leaves of a connection where a look-up comes before it, or after it failed.
use Rattle.std.proofs.Common.{◌≡◌, ◌∙◌, Result, Ok, Err, false, inl, inr, arith, subst, sym}
use Rattle.sqlite.specs.Effect.{Database}
use Rattle.sqlite.specs.State.{State, HasCleanDisk, IsUnchanged, Survives}
use Rattle.sqlite.proofs.StateLemmas.{survives_then}
use Rattle.house_rows.specs.declared.change.Change.{Change}
use Rattle.store_rows.specs.Commits.{Commits, MadeBy}
use Rattle.store_rows.specs.House.{IsHouse, KeepsCommitted}
use Rattle.store_rows.specs.Tables.{Changes, IsAtRest, IsNumbered}
use Rattle.store_rows.proofs.CommitSteps.{survives_change}
use Rattle.store_rows.proofs.Steps.{both_same}

-- a connection at rest is so after a look-up
pub still_rests : (old new : State) → IsUnchanged old new → IsAtRest old → IsAtRest new
still_rests old new same rest = record {
  is_open = same.0.is_open;
  house = subst IsHouse (sym same.0.now_is) rest.house;
  settled = same.0.now_is ∙ rest.settled ∙ sym same.0.committed_is;
  numbered = subst (λ (db : Database). IsNumbered db.trees) (sym same.0.now_is) rest.numbered;
}

-- what ends after a look-up that changed nothing ends as if there were none
pub ended_after : (old mid new : State) → IsUnchanged old mid → KeepsCommitted mid new → KeepsCommitted old new
ended_after old mid new same (inl next) = inl (both_same old mid new same next)
ended_after old mid new same (inr undone) = inr (record {
  was_open = λ _. same.0.was_open;
  undone = λ is_open. (let stays = undone.undone is_open in (stays.0 ∙ same.0.committed_is, stays.1 ∙ same.0.committed_is));
  autocommit = undone.autocommit;
  unmarked = undone.unmarked;
  counts = record { changes = undone.counts.changes ∙ same.1.changes; last_rowid = undone.counts.last_rowid ∙ same.1.last_rowid };
})

pub commits_after : {A E : Type 0} (old mid new : State) (change : Change) (result : Result A E) → (HasCleanDisk mid → IsUnchanged old mid) → Survives old mid (λ _. ⊥) → Commits change mid new result → Commits change old new result
commits_after old mid new change (Ok a) same reads it = record {
  ok = λ clean.
      let first : HasCleanDisk mid = omega (arith, it.crash.clean, clean) in
      let made = it.ok clean in
      (made.0, made.1, subst (λ (db : Database). Changes change db new.now) (same first).0.now_is made.2);
  err = λ clean is_open. tt;
  only = it.only;
  mode = it.mode;
  crash = survives_change old mid new change same reads it.crash;
}
commits_after old mid new change (Err e) same reads it = record {
  ok = λ clean. tt;
  err = λ clean is_open.
      let first : HasCleanDisk mid = omega (arith, it.crash.clean, clean) in
      let back = it.err clean is_open in
      let stays = (same first).0.committed_is in
      (back.0 ∙ stays, back.1 ∙ stays);
  only = λ clean. tt;
  mode = it.mode;
  crash = survives_change old mid new change same reads it.crash;
}

-- a failure that is reported in other words
pub commits_reported : {A E : Type 0} (old last new : State) (change : Change) (fault report : E) → Commits {A = A} {E = E} change old last (Err fault) → (HasCleanDisk new → KeepsCommitted last new)
    → new.in_transaction ≡ false → Survives last new (λ _. ⊥) → Commits {A = A} {E = E} change old new (Err report)
commits_reported old last new change fault report it kept mode reads = record {
  ok = λ clean. tt;
  err = λ clean is_open.
      let first : HasCleanDisk last = omega (arith, reads.clean, clean) in
      elim (kept clean) [
        | inl same ↦ (let back = it.err first same.0.was_open in (same.0.now_is ∙ back.0, same.0.committed_is ∙ back.1))
        | inr undone ↦ (let back = it.err first (undone.was_open is_open) in let stays = undone.undone is_open in (stays.0 ∙ back.1, stays.1 ∙ back.1))
      ];
  only = λ clean. tt;
  mode = mode;
  crash = survives_then old last new (MadeBy change old) (λ _. ⊥) (MadeBy change old) (λ _ db made. made) (λ _ db none. absurd none) it.crash reads;
}
