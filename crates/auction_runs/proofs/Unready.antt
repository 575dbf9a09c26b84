-- Why nothing can be listed for a member over a keep, by what the office's crate says of it.
use Rattle.std.proofs.Common.{◌≡◌, ◌↔◌, ℕ, true, false, Result, Ok, Err, inl, inr, refl, sym, subst}
use Rattle.std.specs.Prelude.{IfErr, is_some}
use Rattle.house_rows.specs.Answers.{Reads}
use Rattle.house_rows.specs.Keeping.{AreSound}
use Rattle.house_rows.specs.Pages.{member_at}
use Rattle.house_rows.specs.Taken.{MemberFitsAt}
use Rattle.house_rows.specs.declared.fault.KeepFault.TheVariants as kept
use Rattle.house_rows.specs.declared.keep.Keep as keep
use Rattle.office.specs.Faults.{IsLookUpFault}
use Rattle.office.specs.declared.fault.ImportFault.{ImportFault}
use Rattle.office.specs.declared.fault.ImportFault.TheVariants as importing
use Rattle.site.specs.Replies.{IsReadable}
use Rattle.auction_runs.specs.Begun.{IsUnbegun}
use Rattle.auction_runs.specs.Faults.{fault_of_import}
use Rattle.auction_runs.specs.Listed.{IsKnown, IsUnfound, IsUnstarted}
use Rattle.auction_runs.specs.declared.fault.TaskFault.{TaskFault}

-- the fault that stands for that of looking a member up has the same causes
pub unfound : {K : Type 0} (k : keep.Ghosts K) (member : ℕ) (given last : K) (fault : ImportFault)
    → (k.is_honest given → IsReadable (k.content given).settings.zone)
    → (k.is_honest last → fault ≡ importing.Member
    → is_some (member_at (k.content given).members member) ≡ false)
    → ((fault ≡ importing.Store) ↔ (k.is_failed last ≡ true))
    → (k.is_honest last → AreSound (k.content given) → ¬ (fault ≡ importing.Damaged))
    → (k.is_honest last → MemberFitsAt member (k.content given) → ¬ (fault ≡ importing.Damaged))
    → IsLookUpFault fault → IsUnfound k member given last (fault_of_import fault)
unfound k member given last importing.Member zone unknown store damaged undamaged look = record {
  zone = zone;
  reported = inl refl;
  store = (λ e. absurd cc, λ failed. let other = store.1 failed in absurd cc);
  damaged = λ honest sound e. cc;
  undamaged = λ honest fit e. cc;
  nobody = λ honest e. unknown honest refl;
}
unfound k member given last importing.Memory zone unknown store damaged undamaged look = record {
  zone = zone;
  reported = inr (kept.Memory, refl);
  store = (λ e. absurd cc, λ failed. let other = store.1 failed in absurd cc);
  damaged = λ honest sound e. cc;
  undamaged = λ honest fit e. cc;
  nobody = λ honest e. absurd cc;
}
unfound k member given last importing.Store zone unknown store damaged undamaged look = record {
  zone = zone;
  reported = inr (kept.Store, refl);
  store = (λ e. store.0 refl, λ failed. refl);
  damaged = λ honest sound e. cc;
  undamaged = λ honest fit e. cc;
  nobody = λ honest e. absurd cc;
}
unfound k member given last importing.Damaged zone unknown store damaged undamaged look = record {
  zone = zone;
  reported = inr (kept.Damaged, refl);
  store = (λ e. absurd cc, λ failed. let other = store.1 failed in absurd cc);
  damaged = λ honest sound e. damaged honest sound refl;
  undamaged = λ honest fit e. undamaged honest fit refl;
  nobody = λ honest e. absurd cc;
}
unfound k member given last importing.Head zone unknown store damaged undamaged look = absurd look
unfound k member given last importing.Csv zone unknown store damaged undamaged look = absurd look
unfound k member given last importing.Read zone unknown store damaged undamaged look = absurd look
unfound k member given last importing.Write zone unknown store damaged undamaged look = absurd look

-- over a keep that was asked for the member, and given back where no site was begun
pub unstarted : {K R : Type 0} (k : keep.Ghosts K) (lots : Result R TaskFault) (member : ℕ)
    (given asked last : K) (fault : TaskFault) → Reads k given asked → last ≡ asked
    → IsUnbegun (k.is_honest asked) (k.is_failed asked) (k.content asked) fault
    → IsUnstarted k lots member given last fault
unstarted k lots member given asked last fault read is why =
    subst (λ q. IsUnstarted k lots member given q fault) (sym is)
    (record { read = read; why = inl (inl why) })

-- the lot file is looked at last
pub unopened : {K R : Type 0} (k : keep.Ghosts K) (lots : Result R TaskFault) (member : ℕ)
    (given last : K) → (k.is_honest given → IsReadable (k.content given).settings.zone)
    → IsKnown k.content k.is_failed k.is_honest k.may_leave member given last
    → IfErr lots (IsUnstarted k lots member given last)
unopened k (Ok reader) member given last zone known = tt
unopened k (Err fault) member given last zone known = record {
  read = known.read;
  why = inr (record { zone = zone; known = known; unopened = refl });
}
