-- What an audit's run reports.
use Rattle.std.specs.Prelude.{◌≡◌, ◌≢◌, ◌⊎◌, ℕ, List, [], length, Bool, true, false, Option, IfSome, Result, Ok, Err}
use Rattle.std.specs.List.{AllZip}
use Rattle.std.specs.Io.KnownBytes.{Appends, Keeps}
use Rattle.house_laws.specs.Alike.{AreAlike}
use Rattle.house_rows.specs.declared.settings.Settings.{Settings}
use Rattle.house_rows.specs.History.{History}
use Rattle.house_rows.specs.Tables.{Tables, tables_of}
use Rattle.house_rows.specs.Verdict.{IsHistory}
use Rattle.settle.specs.Zoned.{IsZoneOf}
use Rattle.settle.specs.declared.zone.Zone.{Zone}
use Rattle.site_audit.specs.Audits.{IsVerdict}
use Rattle.site_audit.specs.AuditsFrom.{IsFoundFrom}
use Rattle.site_audit.specs.Messages.{IsCutInto}
use Rattle.site_audit.specs.Places.{Heard, IsHeard}
use Rattle.site_audit.specs.declared.fault.AuditFault.{AuditFault}
use Rattle.site_audit.specs.declared.verdict.Verdict.{Verdict}
use Rattle.site_audit.specs.declared.verdict.Verdict.TheVariants.{Equal, Apart}
use Rattle.wire.specs.Frame.{IsFront}
use Rattle.wire.specs.declared.fault.WireFault.{WireFault}
use Rattle.auction_runs.specs.Begun.{IsUnbegun}
use Rattle.auction_runs.specs.Faults.{fault_of_audit}
use Rattle.auction_runs.specs.Printed.{apart_line, equal_line}
use Rattle.auction_runs.specs.declared.audit.Houses.{Houses}
use Rattle.auction_runs.specs.declared.audit.Houses.TheVariants.{New, Living}
use Rattle.auction_runs.specs.declared.audit.Run.{Run}
use Rattle.auction_runs.specs.declared.fault.TaskFault.{TaskFault}
use Rattle.auction_runs.specs.declared.fault.TaskFault.TheVariants.{Memory, Read, Write, Broken}
use Rattle.auction_runs.specs.declared.fault.Side.{Side}
use Rattle.auction_runs.specs.declared.fault.Side.TheVariants.{Left, Right}

-- a source is open, and where its bytes are known they are these messages
abbrev pub HasMessages : {S : Type 0} → (S → Option (List ℕ)) → Result S TaskFault → List (List ℕ)
    → Type 0
HasMessages bytes_of (Ok source) texts = IfSome (bytes_of source) (λ s. IsCutInto s texts [])
HasMessages bytes_of (Err fault) texts = ⊥

-- bytes are no list of messages: whole ones, and then a rest that begins with what is none
pub record IsBroken (bytes : List ℕ) : Type 0 where
  pub texts : List (List ℕ)
  pub rest : List ℕ
  pub cut : IsCutInto bytes texts rest
  pub more : rest ≢ []
  pub fault : WireFault
  pub begins : IsFront rest (Err fault)

-- why a side gives no messages: its source can't be opened; or memory was refused, the source failed,
-- or its bytes, where they are known, are no list
abbrev pub IsUnread : {S : Type 0} → (S → Option (List ℕ)) → Side → Result S TaskFault → TaskFault → Type 0
IsUnread bytes_of side (Ok source) fault = (fault ≡ Memory) ⊎ ((fault ≡ Read)
    ⊎ ((fault ≡ Broken side) × IfSome (bytes_of source) IsBroken))
IsUnread bytes_of side (Err report) fault = fault ≡ report

-- why two sources give no messages, the left one first
abbrev pub AreUnread : {L R : Type 0} → (L → Option (List ℕ)) → (R → Option (List ℕ))
    → Result L TaskFault → Result R TaskFault → TaskFault → Type 0
AreUnread left_bytes right_bytes left right fault = IsUnread left_bytes Left left fault
    ⊎ ((lefts : List (List ℕ)) × HasMessages left_bytes left lefts
    × IsUnread right_bytes Right right fault)

-- why no sites are begun over two keeps: none is over the one or over the other
abbrev pub AreUnbegun : {K : Type 0} → (K → Tables) → (K → Bool) → (K → Type 0) → K → K → TaskFault
    → Type 0
AreUnbegun content is_failed is_honest left right fault =
    IsUnbegun (is_honest left) (is_failed left) (content left) fault
    ⊎ IsUnbegun (is_honest right) (is_failed right) (content right) fault

-- what an audit of two lists says, over two keeps and by a zone. Of new houses: over keeps of any two
-- houses, and that an audit can begin is part of it. Of living ones: over keeps that have the tables
-- of histories which are alike for the caller; two of equal tables have one history
abbrev pub Finds : {K : Type 0} → Houses → (K → Tables) → (K → Bool) → (K → Type 0) → ℕ → Zone
    → List (List ℕ) → List (List ℕ) → K → K → K → K → Result Verdict AuditFault → Type 0
Finds New content is_failed is_honest c zone lefts rights left right left_new right_new found =
    is_honest left_new → is_honest right_new
    → (settings others : Settings) (h k : History)
    → IsHistory settings h → IsHistory others k
    → content left ≡ tables_of settings h → content right ≡ tables_of others k
    → (left_heard right_heard : List Heard)
    → AllZip IsHeard lefts left_heard → AllZip IsHeard rights right_heard
    → IsVerdict content is_failed settings zone c left_heard right_heard
    left right left_new right_new found
Finds Living content is_failed is_honest c zone lefts rights left right left_new right_new found =
    is_honest left_new → is_honest right_new
    → (settings : Settings) (h k : History)
    → IsHistory settings h → IsHistory settings k → AreAlike settings c h k
    → content left ≡ tables_of settings h → content right ≡ tables_of settings k
    → (left_heard right_heard : List Heard)
    → AllZip IsHeard lefts left_heard → AllZip IsHeard rights right_heard
    → IsFoundFrom content is_failed settings zone c h k left_heard right_heard left_new right_new
    found

-- the messages of two runs were compared over their houses, and this was found
pub record HasAudited {K L R : Type 0} (houses : Houses) (content : K → Tables)
    (is_failed : K → Bool) (is_honest : K → Type 0) (left_bytes : L → Option (List ℕ))
    (right_bytes : R → Option (List ℕ)) (c : ℕ) (left : Run K L) (right : Run K R)
    (verdict : Verdict) : Type 0 where
  pub lefts : List (List ℕ)
  pub rights : List (List ℕ)
  pub left_messages : HasMessages left_bytes left.source lefts
  pub right_messages : HasMessages right_bytes right.source rights
  pub zone : Zone
  pub kept_zone : is_honest left.keep → IsZoneOf (content left.keep).settings.zone zone
  pub left_keep : K
  pub right_keep : K
  pub found : Finds houses content is_failed is_honest c zone lefts rights left.keep right.keep
      left_keep right_keep (Ok verdict)

-- the messages of two runs were given, and the audit of them over their houses had a fault
pub record HasNotAudited {K L R : Type 0} (houses : Houses) (content : K → Tables)
    (is_failed : K → Bool) (is_honest : K → Type 0) (left_bytes : L → Option (List ℕ))
    (right_bytes : R → Option (List ℕ)) (c : ℕ) (left : Run K L) (right : Run K R)
    (fault : TaskFault) : Type 0 where
  pub lefts : List (List ℕ)
  pub rights : List (List ℕ)
  pub left_messages : HasMessages left_bytes left.source lefts
  pub right_messages : HasMessages right_bytes right.source rights
  pub zone : Zone
  pub kept_zone : is_honest left.keep → IsZoneOf (content left.keep).settings.zone zone
  pub left_keep : K
  pub right_keep : K
  pub auditing : AuditFault
  pub report : fault ≡ fault_of_audit auditing
  pub found : Finds houses content is_failed is_honest c zone lefts rights left.keep right.keep
      left_keep right_keep (Err auditing)

-- why two runs are not compared: no site is begun over a keep, or the audit had a fault; or a side
-- gives no messages
abbrev pub IsUncompared : {K L R : Type 0} → Houses → (K → Tables) → (K → Bool) → (K → Type 0)
    → (L → Option (List ℕ)) → (R → Option (List ℕ)) → ℕ → Run K L → Run K R → TaskFault → Type 0
IsUncompared houses content is_failed is_honest left_bytes right_bytes c left right fault =
    (AreUnbegun content is_failed is_honest left.keep right.keep fault
    ⊎ HasNotAudited houses content is_failed is_honest left_bytes right_bytes c left right fault)
    ⊎ AreUnread left_bytes right_bytes left.source right.source fault

-- a verdict was reported, and whether the runs are equal
abbrev pub IsReported : Option (List ℕ) → Option (List ℕ) → Verdict → Bool → Type 0
IsReported before after (Equal replies) true = Appends before after (equal_line (length replies.items))
IsReported before after (Equal replies) false = ⊥
IsReported before after (Apart step) true = ⊥
IsReported before after (Apart step) false = Appends before after (apart_line step)

-- what was found of two runs was reported
pub record HasReported {K L R : Type 0} (houses : Houses) (content : K → Tables)
    (is_failed : K → Bool) (is_honest : K → Type 0) (left_bytes : L → Option (List ℕ))
    (right_bytes : R → Option (List ℕ)) (c : ℕ) (left : Run K L) (right : Run K R)
    (before after : Option (List ℕ)) (equal : Bool) : Type 0 where
  pub verdict : Verdict
  pub audited : HasAudited houses content is_failed is_honest left_bytes right_bytes c left right
      verdict
  pub report : IsReported before after verdict equal

-- why nothing, or not all, was reported: the output failed after the runs were compared, or they are
-- not compared and nothing was written
abbrev pub IsUnreported : {K L R : Type 0} → Houses → (K → Tables) → (K → Bool) → (K → Type 0)
    → (L → Option (List ℕ)) → (R → Option (List ℕ)) → ℕ → Run K L → Run K R → Option (List ℕ)
    → Option (List ℕ) → TaskFault → Type 0
IsUnreported houses content is_failed is_honest left_bytes right_bytes c left right before after fault =
    ((fault ≡ Write) × ((verdict : Verdict)
    × HasAudited houses content is_failed is_honest left_bytes right_bytes c left right verdict))
    ⊎ (IsUncompared houses content is_failed is_honest left_bytes right_bytes c left right fault
    × Keeps before after)
