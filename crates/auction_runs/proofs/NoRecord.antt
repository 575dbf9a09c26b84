-- Why a keep gave no record.
use Rattle.std.proofs.Common.{◌≡◌, ◌↔◌, ℕ, List, true, Option, Result, Ok, Err, inr, refl, subst, sym}
use Rattle.std.specs.Prelude.{IfErr, IsErr, IsErrAnd, IsErrOf}
use Rattle.std.specs.Io.KnownBytes.{Keeps}
use Rattle.house_rows.specs.Answers.{Reads}
use Rattle.house_rows.specs.Taken.{IsUndamaged, PublicRowsFit}
use Rattle.house_rows.specs.declared.fault.KeepFault.{KeepFault}
use Rattle.house_rows.specs.declared.fault.KeepFault.TheVariants as kept
use Rattle.house_rows.specs.declared.keep.Keep as keep
use Rattle.auction_runs.specs.Faults.{fault_of_keep}
use Rattle.auction_runs.specs.Replayed.{HasNoRecord, IsNotRecorded}
use Rattle.auction_runs.specs.declared.fault.TaskFault.{TaskFault}

-- the fault that stands for the keep's has the same causes
no_record : {K A : Type 0} (k : keep.Ghosts K) (old new : K) (r : Result A KeepFault) (f : KeepFault)
    → r ≡ Err f → (IsErrOf r kept.Store ↔ (k.is_failed new ≡ true))
    → (k.is_honest new → PublicRowsFit (k.content old) → IsUndamaged r) → Reads k old new
    → HasNoRecord k old new (fault_of_keep f)
no_record k old new r kept.Memory gave store undamaged read = record {
  reported = (kept.Memory, refl);
  store = (λ e. absurd cc, λ failed. let other = store.1 failed in absurd cc);
  damaged = λ honest fit e. absurd cc;
  read = read;
}
no_record k old new r kept.Store gave store undamaged read = record {
  reported = (kept.Store, refl);
  store = (λ e. store.0 gave, λ failed. refl);
  damaged = λ honest fit e. absurd cc;
  read = read;
}
no_record k old new r kept.Damaged gave store undamaged read = record {
  reported = (kept.Damaged, refl);
  store = (λ e. absurd cc, λ failed. let other = store.1 failed in absurd cc);
  damaged = λ honest fit e. undamaged honest fit gave;
  read = read;
}

-- and is handed on, where nothing was written
pub not_recorded : {K A T : Type 0} (k : keep.Ghosts K) (before after : Option (List ℕ)) (old new : K)
    (r : Result A KeepFault) (f : KeepFault) (result : Result T TaskFault)
    → IsErr result × IsErrAnd result (λ report. report ≡ fault_of_keep f) → r ≡ Err f
    → (IsErrOf r kept.Store ↔ (k.is_failed new ≡ true))
    → (k.is_honest new → PublicRowsFit (k.content old) → IsUndamaged r) → Reads k old new
    → Keeps before after → IfErr result (IsNotRecorded k true before after old new)
not_recorded k before after old new r f (Ok x) gives gave store undamaged read keeps =
    absurd gives.1
not_recorded k before after old new r f (Err report) gives gave store undamaged read keeps = inr (
  subst (HasNoRecord k old new) (sym gives.1) (no_record k old new r f gave store undamaged read),
  keeps,
)
