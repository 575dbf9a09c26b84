-- What a look at a surplus reports.
use Rattle.std.specs.Prelude.{◌≡◌, ◌⊎◌, ℕ, List, length, Bool, true, false, Option, Result, Ok, Err}
use Rattle.std.specs.Io.KnownBytes.{Appends, Keeps}
use Rattle.std.specs.List.{AllZip}
use Rattle.house_rows.specs.declared.settings.Settings.{Settings}
use Rattle.house_rows.specs.History.{History}
use Rattle.house_rows.specs.Tables.{Tables, tables_of}
use Rattle.house_rows.specs.Verdict.{IsHistory}
use Rattle.settle.specs.Zoned.{IsZoneOf}
use Rattle.settle.specs.declared.zone.Zone.{Zone}
use Rattle.site_audit.specs.Places.{Heard, IsHeard}
use Rattle.site_audit.specs.Surplus.{IsSurplusResult}
use Rattle.site_audit.specs.SurplusFrom.{IsSurplusFoundFrom}
use Rattle.site_audit.specs.declared.fault.AuditFault.{AuditFault}
use Rattle.site_audit.specs.declared.outcome.Surplus.{Surplus}
use Rattle.site_audit.specs.declared.outcome.Surplus.TheVariants.{Same, NotCovered}
use Rattle.steps.specs.Table.{IsBandTable}
use Rattle.auction_runs.specs.Audited.{AreUnbegun, HasMessages, IsUnread}
use Rattle.auction_runs.specs.Faults.{fault_of_audit}
use Rattle.auction_runs.specs.Printed.{not_covered_line, same_line}
use Rattle.auction_runs.specs.declared.audit.Houses.{Houses}
use Rattle.auction_runs.specs.declared.audit.Houses.TheVariants.{New, Living}
use Rattle.auction_runs.specs.declared.fault.TaskFault.{TaskFault}
use Rattle.auction_runs.specs.declared.fault.TaskFault.TheVariants.{Write}
use Rattle.auction_runs.specs.declared.fault.Side.TheVariants.{Only}
use Rattle.auction_runs.specs.declared.surplus.Raise.{Raise}
use Rattle.auction_runs.specs.declared.surplus.Trial.{Trial}

-- what is reported of a list and a bid of it, over two keeps and by a zone. Of new houses: over keeps
-- of any two houses, and that an audit can begin is part of it. Of living ones: over keeps that have
-- the tables of one history
abbrev pub TellsOf : {K : Type 0} → Houses → (K → Tables) → (K → Bool) → (K → Type 0) → Raise → Zone
    → List (List ℕ) → K → K → K → K → Result Surplus AuditFault → Type 0
TellsOf New content is_failed is_honest raise zone texts left right left_new right_new report =
    is_honest left_new → is_honest right_new
    → (settings others : Settings) (h k : History)
    → IsHistory settings h → IsHistory others k
    → content left ≡ tables_of settings h → content right ≡ tables_of others k
    → (heards : List Heard) → AllZip IsHeard texts heards
    → IsSurplusResult content is_failed settings zone raise.other raise.place raise.maximum heards
    left right left_new right_new report
TellsOf Living content is_failed is_honest raise zone texts left right left_new right_new report =
    is_honest left_new → is_honest right_new
    → (settings : Settings) → IsBandTable settings.bands
    → (h : History) → IsHistory settings h
    → content left ≡ tables_of settings h → content right ≡ tables_of settings h
    → (heards : List Heard) → AllZip IsHeard texts heards
    → IsSurplusFoundFrom content is_failed settings zone raise.other h raise.place raise.maximum
    heards left_new right_new report

-- a bid of the messages of a source was raised, over the keeps that were given, and this was found
pub record HasTried {K S : Type 0} (houses : Houses) (content : K → Tables) (is_failed : K → Bool)
    (is_honest : K → Type 0) (bytes_of : S → Option (List ℕ)) (raise : Raise) (trial : Trial K S)
    (report : Surplus) : Type 0 where
  pub texts : List (List ℕ)
  pub messages : HasMessages bytes_of trial.source texts
  pub zone : Zone
  pub kept_zone : is_honest trial.left → IsZoneOf (content trial.left).settings.zone zone
  pub left_keep : K
  pub right_keep : K
  pub found : TellsOf houses content is_failed is_honest raise zone texts trial.left trial.right
      left_keep right_keep (Ok report)

-- the messages of the source were given, and raising a bid of them over the keeps had a fault
pub record HasNotTried {K S : Type 0} (houses : Houses) (content : K → Tables) (is_failed : K → Bool)
    (is_honest : K → Type 0) (bytes_of : S → Option (List ℕ)) (raise : Raise) (trial : Trial K S)
    (fault : TaskFault) : Type 0 where
  pub texts : List (List ℕ)
  pub messages : HasMessages bytes_of trial.source texts
  pub zone : Zone
  pub kept_zone : is_honest trial.left → IsZoneOf (content trial.left).settings.zone zone
  pub left_keep : K
  pub right_keep : K
  pub auditing : AuditFault
  pub report : fault ≡ fault_of_audit auditing
  pub found : TellsOf houses content is_failed is_honest raise zone texts trial.left trial.right
      left_keep right_keep (Err auditing)

-- why nothing was found: no site is begun over a keep, or raising the bid had a fault; or the source
-- gives no messages
abbrev pub IsUntried : {K S : Type 0} → Houses → (K → Tables) → (K → Bool) → (K → Type 0)
    → (S → Option (List ℕ)) → Raise → Trial K S → TaskFault → Type 0
IsUntried houses content is_failed is_honest bytes_of raise trial fault =
    (AreUnbegun content is_failed is_honest trial.left trial.right fault
    ⊎ HasNotTried houses content is_failed is_honest bytes_of raise trial fault)
    ⊎ IsUnread bytes_of Only trial.source fault

-- what was found was printed, and whether the bid is covered
abbrev pub IsShown : Option (List ℕ) → Option (List ℕ) → Surplus → Bool → Type 0
IsShown before after (Same replies) true = Appends before after (same_line (length replies.items))
IsShown before after (Same replies) false = ⊥
IsShown before after NotCovered true = ⊥
IsShown before after NotCovered false = Appends before after not_covered_line

-- what was found of a surplus was printed
pub record HasShown {K S : Type 0} (houses : Houses) (content : K → Tables) (is_failed : K → Bool)
    (is_honest : K → Type 0) (bytes_of : S → Option (List ℕ)) (raise : Raise) (trial : Trial K S)
    (before after : Option (List ℕ)) (covered : Bool) : Type 0 where
  pub report : Surplus
  pub tried : HasTried houses content is_failed is_honest bytes_of raise trial report
  pub shown : IsShown before after report covered

-- why nothing, or not all, was printed: the output failed after something was found, or nothing was
-- found and nothing printed
abbrev pub IsUnshown : {K S : Type 0} → Houses → (K → Tables) → (K → Bool) → (K → Type 0)
    → (S → Option (List ℕ)) → Raise → Trial K S → Option (List ℕ) → Option (List ℕ) → TaskFault
    → Type 0
IsUnshown houses content is_failed is_honest bytes_of raise trial before after fault =
    ((fault ≡ Write) × ((report : Surplus)
    × HasTried houses content is_failed is_honest bytes_of raise trial report))
    ⊎ (IsUntried houses content is_failed is_honest bytes_of raise trial fault × Keeps before after)
