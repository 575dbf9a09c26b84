-- What a replay writes. Start here.
use Rattle.std.specs.Prelude.{◌≡◌, ◌≢◌, ◌↔◌, ◌⊎◌, ℕ, List, [], ◌∷◌, ◌++◌, Bool, true, false, Option, IfSome}
use Rattle.std.specs.Io.KnownBytes.{Appends, Keeps}
use Rattle.device.specs.Given.{AppendsBeginning}
use Rattle.house_rows.specs.declared.keep.Keep as keep
use Rattle.house_rows.specs.declared.settings.Settings.{Settings}
use Rattle.house_rows.specs.History.{History}
use Rattle.house_rows.specs.Keeping.{IsRead}
use Rattle.house_rows.specs.Tables.{Tables, tables_of}
use Rattle.pages_record.specs.Record.{record_text}
use Rattle.house_rows.specs.Taken.{PublicRowsFit}
use Rattle.settle.specs.Zoned.{IsZoneOf}
use Rattle.settle.specs.declared.zone.Zone.{Zone}
use Rattle.site.specs.Replies.{IsStep}
use Rattle.site_serve.specs.Serving.{HasRead, HasServed, HasWritten}
use Rattle.site_serve.specs.declared.server.Served.{Served}
use Rattle.auction_runs.specs.Begun.{IsUnbegun}
use Rattle.auction_runs.specs.Faults.{IsOfKeep}
use Rattle.auction_runs.specs.Setup.{IsNotSetUp, IsSetUp}
use Rattle.auction_runs.specs.declared.fault.TaskFault.{TaskFault}
use Rattle.auction_runs.specs.declared.fault.TaskFault.TheVariants as report
use Rattle.auction_words.specs.declared.command_line.Replay.{Replay}

-- a public record was written, and a newline: over a history whose tables the keep had, that of the
-- history
pub record HasRecorded {K : Type 0} (content : K → Tables) (is_failed : K → Bool)
    (is_honest : K → Type 0) (may_leave : K → Tables → Type 0)
    (before after : Option (List ℕ)) (old new : K) : Type 0 where
  pub text : List ℕ
  pub shown : is_honest new → (settings : Settings) (h : History)
      → content old ≡ tables_of settings h → text ≡ record_text settings h
  pub read : IsRead content is_failed is_honest may_leave old new
  pub written : Appends before after (text ++ 10 ∷ [])

-- the record was written where it is asked for, and else nothing
abbrev pub IsRecorded : {K : Type 0} → (K → Tables) → (K → Bool) → (K → Type 0)
    → (K → Tables → Type 0) → Bool → Option (List ℕ) → Option (List ℕ) → K → K → Type 0
IsRecorded content is_failed is_honest may_leave true before after old new =
    HasRecorded content is_failed is_honest may_leave before after old new
IsRecorded content is_failed is_honest may_leave false before after old new =
    Keeps before after × (new ≡ old)

-- the greatest number of messages
abbrev pub all_messages : ℕ
all_messages = 18446744073709551615

-- what is written for a whole stream, over the keep that a replay was given: the keep is set up
-- where that is asked for, the stream is served, and the record follows where that is asked for
pub record HasReplayed {K : Type 0} (content : K → Tables) (is_failed : K → Bool)
    (is_honest : K → Type 0) (may_leave : K → Tables → Type 0)
    (asked : Replay) (stream : List ℕ) (before after : Option (List ℕ)) (given : K) : Type 0 where
  pub zone : Zone
  pub kept_zone : is_honest given → IsZoneOf (content given).settings.zone zone
  pub begun : K
  pub set_up : IsSetUp (IsStep content is_failed is_honest may_leave zone) asked.preset given begun
  pub ended : K
  pub between : Option (List ℕ)
  pub served : Served
  pub answered : HasServed (IsStep content is_failed is_honest may_leave zone)
      stream all_messages before between begun ended served
  pub left : K
  pub recorded : IsRecorded content is_failed is_honest may_leave asked.record
      between after ended left

-- ---- a replay that ended before its end

-- a beginning of a public record and its newline was written
pub record HasRecordedPart {K : Type 0} (k : keep.Ghosts K) (before after : Option (List ℕ)) (old : K) :
    Type 0 where
  pub text : List ℕ
  pub last : K
  pub shown : k.is_honest last → (settings : Settings) (h : History)
      → k.content old ≡ tables_of settings h → text ≡ record_text settings h
  pub part : AppendsBeginning before after (text ++ 10 ∷ [])

-- nothing was written of it, or that
abbrev pub IsRecordedPart : {K : Type 0} → keep.Ghosts K → Option (List ℕ) → Option (List ℕ) → K
    → Type 0
IsRecordedPart k before after old = Keeps before after ⊎ HasRecordedPart k before after old

-- the whole stream was served, and the record wasn't written whole
pub record IsUnrecorded {K : Type 0} (k : keep.Ghosts K) (zone : Zone) (stream : List ℕ)
    (before after : Option (List ℕ)) (begun : K) : Type 0 where
  pub ended : K
  pub between : Option (List ℕ)
  pub served : Served
  pub answered : HasServed (IsStep k.content k.is_failed k.is_honest k.may_leave zone)
      stream all_messages before between begun ended served
  pub recorded : IsRecordedPart k between after ended

-- what was written where the source failed, the sink did in a reply, or the record that was asked for
-- wasn't written whole
abbrev pub IsServedPart : {K : Type 0} → keep.Ghosts K → Replay → Zone → Option (List ℕ)
    → Option (List ℕ) → Option (List ℕ) → Option (List ℕ) → K → K → Type 0
IsServedPart k asked zone left now before after begun ended =
    HasRead (IsStep k.content k.is_failed k.is_honest k.may_leave zone) left now all_messages before
    after begun ended
    ⊎ IfSome left (λ stream. HasWritten (IsStep k.content k.is_failed k.is_honest k.may_leave zone)
    stream all_messages before after begun ended)
    ⊎ ((asked.record ≡ true) × IfSome left (λ stream. IsUnrecorded k zone stream before after begun))

-- the keep that was given was set up, and some of it was written
pub record HasReplayedPart {K : Type 0} (k : keep.Ghosts K) (asked : Replay)
    (left now before after : Option (List ℕ)) (given : K) : Type 0 where
  pub zone : Zone
  pub kept_zone : k.is_honest given → IsZoneOf (k.content given).settings.zone zone
  pub begun : K
  pub set_up : IsSetUp (IsStep k.content k.is_failed k.is_honest k.may_leave zone) asked.preset given
      begun
  pub ended : K
  pub part : IsServedPart k asked zone left now before after begun ended

-- what is written of a replay that ended with a fault: nothing, or a part
abbrev pub IsReplayedPart : {K : Type 0} → keep.Ghosts K → Replay → Option (List ℕ) → Option (List ℕ)
    → Option (List ℕ) → Option (List ℕ) → K → Type 0
IsReplayedPart k asked left now before after given =
    Keeps before after ⊎ HasReplayedPart k asked left now before after given

-- ---- which fault a replay has, and what was written by then

-- why a keep that was asked for its record gave none: it reported the fault, Store exactly where it
-- has failed, and never Damaged where the rows fit that everybody may see
pub record HasNoRecord {K : Type 0} (k : keep.Ghosts K) (old new : K) (fault : TaskFault) : Type 0
  where
    pub reported : IsOfKeep fault
    pub store : (fault ≡ report.Store) ↔ (k.is_failed new ≡ true)
    pub damaged : k.is_honest new → PublicRowsFit (k.content old) → fault ≢ report.Damaged
    pub read : IsRead k.content k.is_failed k.is_honest k.may_leave old new

-- a keep gave its record, and a beginning of it and its newline was written
pub record HasBegunRecord {K : Type 0} (k : keep.Ghosts K) (before after : Option (List ℕ))
    (old new : K) : Type 0 where
  pub text : List ℕ
  pub shown : k.is_honest new → (settings : Settings) (h : History)
      → k.content old ≡ tables_of settings h → text ≡ record_text settings h
  pub read : IsRead k.content k.is_failed k.is_honest k.may_leave old new
  pub part : AppendsBeginning before after (text ++ 10 ∷ [])

-- why the record that was asked for wasn't written: the output failed in it, or there is none, and
-- nothing was written of it
abbrev pub IsNotRecorded : {K : Type 0} → keep.Ghosts K → Bool → Option (List ℕ) → Option (List ℕ)
    → K → K → TaskFault → Type 0
IsNotRecorded k true before after old new fault =
    ((fault ≡ report.Write) × HasBegunRecord k before after old new)
    ⊎ (HasNoRecord k old new fault × Keeps before after)
IsNotRecorded k false before after old new fault = ⊥

-- serving a stream over a keep had a fault: the source failed in a wait for more, the sink did in a
-- reply, or memory was refused before anything was done
abbrev pub IsServeFault : {K : Type 0} → keep.Ghosts K → Zone → Option (List ℕ) → Option (List ℕ)
    → Option (List ℕ) → Option (List ℕ) → K → K → TaskFault → Type 0
IsServeFault k zone left now before after begun last fault =
    ((fault ≡ report.Read) × HasRead (IsStep k.content k.is_failed k.is_honest k.may_leave zone)
    left now all_messages before after begun last)
    ⊎ ((fault ≡ report.Write) × IfSome left (λ stream.
    HasWritten (IsStep k.content k.is_failed k.is_honest k.may_leave zone)
    stream all_messages before after begun last))
    ⊎ ((fault ≡ report.Memory) × Keeps before after × (last ≡ begun))

-- the whole stream was served over a keep, and the record wasn't written whole
pub record HasRecordFault {K : Type 0} (k : keep.Ghosts K) (asked : Replay) (zone : Zone)
    (left before after : Option (List ℕ)) (begun last : K) (fault : TaskFault) : Type 0 where
  pub ended : K
  pub between : Option (List ℕ)
  pub served : Served
  pub answered : IfSome left (λ stream.
      HasServed (IsStep k.content k.is_failed k.is_honest k.may_leave zone)
      stream all_messages before between begun ended served)
  pub cause : IsNotRecorded k asked.record between after ended last fault

-- a keep was set up, and then serving had a fault, or the record wasn't written whole
pub record HasServeFault {K : Type 0} (k : keep.Ghosts K) (asked : Replay) (zone : Zone)
    (left now before after : Option (List ℕ)) (old new : K) (fault : TaskFault) : Type 0 where
  pub begun : K
  pub set_up : IsSetUp (IsStep k.content k.is_failed k.is_honest k.may_leave zone) asked.preset old
      begun
  pub cause : IsServeFault k zone left now before after begun new fault
      ⊎ HasRecordFault k asked zone left before after begun new fault

-- why a stream wasn't answered over a keep to its end, and what was written by then: nothing where
-- the keep was not set up
abbrev pub IsReplyFault : {K : Type 0} → keep.Ghosts K → Replay → Zone → Option (List ℕ)
    → Option (List ℕ) → Option (List ℕ) → Option (List ℕ) → K → K → TaskFault → Type 0
IsReplyFault k asked zone left now before after old new fault =
    (IsNotSetUp (IsStep k.content k.is_failed k.is_honest k.may_leave zone) asked.preset old fault
    new × Keeps before after)
    ⊎ HasServeFault k asked zone left now before after old new fault

-- so it was over a keep that was given
pub record HasReplyFault {K : Type 0} (k : keep.Ghosts K) (asked : Replay)
    (left now before after : Option (List ℕ)) (given : K) (fault : TaskFault) : Type 0 where
  pub zone : Zone
  pub kept_zone : k.is_honest given → IsZoneOf (k.content given).settings.zone zone
  pub last : K
  pub cause : IsReplyFault k asked zone left now before after given last fault

-- or no site was begun over it, and nothing was written
abbrev pub IsReplayFault : {K : Type 0} → keep.Ghosts K → Replay → Option (List ℕ)
    → Option (List ℕ) → Option (List ℕ) → Option (List ℕ) → K → TaskFault → Type 0
IsReplayFault k asked left now before after given fault =
    (IsUnbegun (k.is_honest given) (k.is_failed given) (k.content given) fault
    × Keeps before after)
    ⊎ HasReplyFault k asked left now before after given fault
