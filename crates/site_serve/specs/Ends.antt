-- What a crash leaves of a stream that was served: the tables of what was accepted.
use Rattle.std.specs.Prelude.{◌≡◌, ◌⊎◌, ℕ, ◌≤◌, List, ◌∷◌, ◌++◌, map, take, drop, Bool, true, Option}
use Rattle.std.specs.Io.KnownBytes.{Consumes}
use Rattle.std.specs.List.{concat}
use Rattle.device.specs.Given.{AppendsBeginning}
use Rattle.house_rows.specs.declared.fault.KeepFault.TheVariants as fault
use Rattle.house_rows.specs.declared.settings.Settings.{Settings}
use Rattle.house_rows.specs.History.{History}
use Rattle.house_rows.specs.Tables.{Tables, tables_of}
use Rattle.house_rows.specs.Verdict.{IsHistory}
use Rattle.settle.specs.declared.zone.Zone.{Zone}
use Rattle.site.specs.Replies.{IsStep, next_of}
use Rattle.site.specs.Runs.{AreDown, InTurn, IsRun, StaysDown}
use Rattle.site_request.specs.declared.asked.Asked.{Asked}
use Rattle.site_replies.specs.Texts.{fault_text}
use Rattle.wire.specs.Cut.{Cut, Stop}
use Rattle.wire.specs.Message.{Message}
use Rattle.site_serve.specs.Serving.{heard, rest_bytes}

-- messages were answered in turn over a history whose tables the keep had, and the store didn't fail.
-- The keep has the tables of the history after them. Once one of them was accepted, a crash leaves
-- these alone; before that it may also leave what it could have left at first
pub record IsKept {K : Type 0} (content : K → Tables) (is_failed : K → Bool)
    (may_leave : K → Tables → Type 0)
    (settings : Settings) (zone : Zone) (h : History) (asked : List Asked)
    (replies : List (List ℕ)) (after : History) (old new : K) : Type 0 where
  pub run : IsRun settings zone h asked replies after
  pub history : IsHistory settings after
  pub tables : content new ≡ tables_of settings after
  pub same : is_failed new ≡ is_failed old
  pub crash : (t : Tables) → may_leave new t → (t ≡ tables_of settings after)
      ⊎ ((after ≡ h) × may_leave old t)

-- the store failed in one of the messages. Those before it were kept, and after it the store stays
-- failed. A crash leaves what it could have left between the two, or the tables of the history after
-- that message
pub record HasFailed {K : Type 0} (content : K → Tables) (is_failed : K → Bool)
    (may_leave : K → Tables → Type 0)
    (settings : Settings) (zone : Zone) (h : History) (asked : List Asked)
    (replies : List (List ℕ)) (old new : K) : Type 0 where
  pub first : List Asked
  pub last : Asked
  pub later : List Asked
  pub parts : asked ≡ first ++ last ∷ later
  pub first_replies : List (List ℕ)
  pub later_replies : List (List ℕ)
  pub replied : replies ≡ first_replies ++ fault_text fault.Store last.closes ∷ later_replies
  pub after : History
  pub between : K
  pub kept : IsKept content is_failed may_leave settings zone h first first_replies after
      old between
  pub down : AreDown later later_replies
  pub failed : is_failed new ≡ true
  pub crash : (t : Tables) → may_leave new t → may_leave between t
      ⊎ (t ≡ tables_of settings (next_of settings after last))

-- what is left of every history whose tables the keep had
abbrev pub Leaves : {K : Type 0} → (K → Tables) → (K → Bool) → (K → Tables → Type 0) → Zone
    → List Asked → List (List ℕ) → K → K → Type 0
Leaves content is_failed may_leave zone asked replies old new =
    (settings : Settings) (h : History) → IsHistory settings h → content old ≡ tables_of settings h
    → ((after : History)
    × IsKept content is_failed may_leave settings zone h asked replies after old new)
    ⊎ HasFailed content is_failed may_leave settings zone h asked replies old new

-- however serving ended: these messages of what was read were answered in turn, and a beginning of
-- their replies was written, or of these and the reply to a broken rest
pub record HasEnded {K : Type 0} (content : K → Tables) (is_failed : K → Bool)
    (is_honest : K → Type 0) (may_leave : K → Tables → Type 0) (zone : Zone)
    (left now : Option (List ℕ)) (most : ℕ) (before after : Option (List ℕ)) (old new : K)
    : Type 0 where
  pub read : List ℕ
  pub took : Consumes left now read
  pub count : ℕ
  pub few : count ≤ most
  pub messages : List Message
  pub rest : List ℕ
  pub stop : Stop
  pub cut : Cut read count messages rest stop
  pub replies : List (List ℕ)
  pub answered : InTurn (IsStep content is_failed is_honest may_leave zone) (map heard messages)
      replies old new
  pub written : AppendsBeginning before after (concat replies ++ rest_bytes stop)
  -- over any keep: once the store has failed, each command and each read is answered so
  pub down : is_failed old ≡ true → AreDown (map heard messages) replies
  pub stays_down : StaysDown (map heard messages) replies
  -- what is left as it ended
  pub at_end : is_honest new
      → Leaves content is_failed may_leave zone (map heard messages) replies old new
  -- and what was left after so many of them
  pub at_each : is_honest new → (n : ℕ) → (between : K)
      × Leaves content is_failed may_leave zone (take n (map heard messages)) (take n replies)
      old between
      × InTurn (IsStep content is_failed is_honest may_leave zone) (take n (map heard messages))
      (take n replies) old between
      × InTurn (IsStep content is_failed is_honest may_leave zone) (drop n (map heard messages))
      (drop n replies) between new
