-- Decisions by a keep that only read: a refusal, and a change.
use Rattle.std.proofs.Common.{◌≡◌, ◌∙◌, ℕ, Bool, Option, Ok, Err}
use Rattle.std.specs.Prelude.{None, Some}
use Rattle.proxy.specs.Rules.{first_failing}
use Rattle.house_rows.specs.declared.change.Change.{Change}
use Rattle.house_rows.specs.declared.command.Command.{Command}
use Rattle.house_rows.specs.declared.fault.KeepFault.TheVariants.{Store, Damaged}
use Rattle.house_rows.specs.declared.keep.Keep.{Ghosts}
use Rattle.house_rows.specs.declared.refusal.Refusal.{Refusal}
use Rattle.house_rows.specs.Answers.{OverHistory, Reads}
use Rattle.house_rows.specs.Asks.{ChangeFits}
use Rattle.house_rows.specs.Keeping.{Faults}
use Rattle.house_rows.specs.Making.{ChangeRowsFit}
use Rattle.house_rows.specs.Tables.{Tables}
use Rattle.house_rows.specs.Taken.{IsUndamaged}
use Rattle.house_rows.specs.Verdict.{verdict}
use Rattle.house.specs.ByTables.{rules_by, verdict_by}
use Rattle.house.specs.Decided.{IsAccepted}
use Rattle.house.specs.Decides.{Decides}
use Rattle.house.specs.Own.{IsOf}
use Rattle.house.specs.Taken.{CommandRowsFit}
use Rattle.house.proofs.Taken.{fits_sound}
use Rattle.house.proofs.Unchanged.{not_failed}

-- an answer isn't damaged
undamaged : {A : Type 0} (x : A) → IsUndamaged (Ok x)
undamaged x wrong = absurd (let e : Ok x ≡ Err Damaged = wrong in cc)

-- and one that follows on another has no fault
faultless : {A B : Type 0} {is_honest : Type 0} {is_failed : Bool} {s t : Tables} {x : A} (y : B)
    → Faults (Ok x) is_honest is_failed s → Faults (Ok y) is_honest is_failed t
faultless {x = x} y faults = record {
  store = (
    λ wrong. absurd (let e : Ok y ≡ Err Store = wrong in cc),
    λ yes. absurd (let e : Ok x ≡ Err Store = faults.store.1 yes in cc),
  );
  damaged = λ honest sound. undamaged y;
}

-- two looks in a row are one
pub looked : {K A : Type 0} {keep : Ghosts K} {old middle new : K} {x : A} {t : Tables}
    → Faults (Ok x) (keep.is_honest middle) (keep.is_failed middle) t → Reads keep old middle
    → Reads keep middle new → Reads keep old new
looked {keep = keep} {middle = middle} {x = x} {t} faults first second = record {
  same = λ honest going. second.same honest going
      ∙ first.same (second.honest honest) (not_failed x (keep.is_honest middle) (keep.is_failed middle) t faults);
  honest = λ honest. first.honest (second.honest honest);
  stays = λ failed. second.stays (first.stays failed);
  crash = λ honest t may. first.crash (second.honest honest) t (second.crash honest t may);
}

-- what the rules report by the tables is their verdict
as_verdict : (t : Tables) (moment caller : ℕ) (command : Command) (o : Option Refusal)
    → o ≡ first_failing (rules_by t moment caller command) → o ≡ verdict_by t moment caller command
unfolding verdict_by
as_verdict t moment caller command o is = is

-- the refusal of the verdict, after a look-up that answered
pub refuses : {K A : Type 0} {keep : Ghosts K} {old new : K} {x : A} {t : Tables} {refusal : Refusal}
    {moment caller : ℕ} {command : Command}
    → Faults (Ok x) (keep.is_honest new) (keep.is_failed new) t → Reads keep old new
    → OverHistory keep old new (λ settings h. verdict settings h moment caller command ≡ Some refusal)
    → (keep.is_honest new → CommandRowsFit (keep.content old) caller command
    → Some refusal ≡ first_failing (rules_by (keep.content old) moment caller command))
    → Decides keep old new (Ok (Err refusal)) moment caller command
refuses {keep = keep} {old} {refusal = refusal} {moment} {caller} {command} faults read decided by_tables = record {
  decided = decided;
  by_tables = λ honest rows. as_verdict (keep.content old) moment caller command (Some refusal) (by_tables honest rows);
  fits = λ honest rows. tt;
  sound = λ honest sound. tt;
  own = λ honest. tt;
  faults = faultless (Err refusal) faults;
  damaged = λ honest rows. undamaged (Err refusal);
  read = read;
}

-- the change of a command that no rule refuses, after one
pub accepts : {K A : Type 0} {keep : Ghosts K} {old new : K} {x : A} {t : Tables} {change : Change}
    {moment caller : ℕ} {command : Command}
    → Faults (Ok x) (keep.is_honest new) (keep.is_failed new) t → Reads keep old new
    → OverHistory keep old new (λ settings h. IsAccepted settings h moment caller command change)
    → (keep.is_honest new → CommandRowsFit (keep.content old) caller command
    → None ≡ first_failing (rules_by (keep.content old) moment caller command))
    → (keep.is_honest new → CommandRowsFit (keep.content old) caller command
    → ChangeRowsFit (keep.content old) change → ChangeFits (keep.content old) change)
    → (keep.is_honest new → IsOf moment caller command change)
    → Decides keep old new (Ok (Ok change)) moment caller command
accepts {keep = keep} {old} {change = change} {moment} {caller} {command} faults read decided by_tables fits own = record {
  decided = decided;
  by_tables = λ honest rows. as_verdict (keep.content old) moment caller command None (by_tables honest rows);
  fits = fits;
  sound = λ honest. fits_sound (keep.content old) caller command (Ok (Ok change)) (fits honest);
  own = own;
  faults = faultless (Ok change) faults;
  damaged = λ honest rows. undamaged (Ok change);
  read = read;
}
