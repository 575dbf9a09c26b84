-- The result of an audit of two houses that live on.
use Rattle.std.specs.Prelude.{◌≡◌, ◌⊎◌, ◌-◌, ℕ, List, Bool, true, map, take, Result, Ok, Err}
use Rattle.std.specs.Cow.{cow_slice_items}
use Rattle.std.specs.List.{AllZip}
use Rattle.house_laws.specs.Alike.{AreAlike}
use Rattle.house_rows.specs.declared.settings.Settings.{Settings}
use Rattle.house_rows.specs.History.{History}
use Rattle.house_rows.specs.Runs.{AreTwinsFrom, history_from}
use Rattle.house_rows.specs.Tables.{Tables, tables_of}
use Rattle.settle.specs.declared.zone.Zone.{Zone}
use Rattle.site.specs.Lives.{replies_to_from}
use Rattle.site_audit.specs.declared.fault.AuditFault.{AuditFault}
use Rattle.site_audit.specs.declared.fault.AuditFault.TheVariants.{Memory, Store, NotNew}
use Rattle.site_audit.specs.declared.verdict.Verdict.{Verdict}
use Rattle.site_audit.specs.declared.verdict.Verdict.TheVariants.{Equal, Apart}
use Rattle.site_audit.specs.Audits.{what_is_asked}
use Rattle.site_audit.specs.Places.{ArePaired, Have, Heard, heard_message}

-- the history after texts
abbrev pub heard_history : Settings → History → List Heard → History
heard_history settings h heards = history_from settings h (map heard_message heards)

-- two lists of texts are twin runs for the caller, from two histories on: at each place the texts are
-- equal, or neither is the caller's, and after it what is public and what waits for the caller agree
abbrev pub AreTwinTextsFrom : Settings → ℕ → History → History → List Heard → List Heard → Type 0
AreTwinTextsFrom settings c h k lefts rights = AreTwinsFrom heard_message settings c h k lefts rights

-- they are, and these are the replies to the caller along the left list, which were given, and those
-- along the right one. The keeps have the tables after them, of histories that are alike again, so
-- that the next two lists can be audited over them
pub record AreEqualFrom {K : Type 0} (content : K → Tables) (settings : Settings) (zone : Zone)
    (c : ℕ) (h k : History) (lefts rights : List Heard) (replies : List (List ℕ))
    (left_keep right_keep : K) : Type 0 where
  pub twins : AreTwinTextsFrom settings c h k lefts rights
  pub left : replies ≡ replies_to_from settings zone c h (what_is_asked lefts)
  pub right : replies ≡ replies_to_from settings zone c k (what_is_asked rights)
  pub left_tables : content left_keep ≡ tables_of settings (heard_history settings h lefts)
  pub right_tables : content right_keep ≡ tables_of settings (heard_history settings k rights)
  pub alike : AreAlike settings c (heard_history settings h lefts) (heard_history settings k rights)

-- they are none: up to this place, counted from 1, they are not, and before it they were
pub record ArePartFrom (settings : Settings) (c : ℕ) (h k : History) (lefts rights : List Heard)
    (step : ℕ) : Type 0 where
  pub before : AreTwinTextsFrom settings c h k (take (step - 1) lefts) (take (step - 1) rights)
  pub here : ¬ (AreTwinTextsFrom settings c h k (take step lefts) (take step rights))
  pub whole : ¬ (AreTwinTextsFrom settings c h k lefts rights)

-- what is found of two lists over houses that have the tables of two histories. NotNew is never the
-- result
abbrev pub IsFoundFrom : {K : Type 0} → (K → Tables) → (K → Bool) → Settings → Zone → ℕ → History
    → History → List Heard → List Heard → K → K → Result Verdict AuditFault → Type 0
IsFoundFrom content is_failed settings zone c h k lefts rights left right (Ok (Equal replies)) =
    AreEqualFrom content settings zone c h k lefts rights (map cow_slice_items replies.items) left
    right
IsFoundFrom content is_failed settings zone c h k lefts rights left right (Ok (Apart step)) =
    ArePartFrom settings c h k lefts rights step
IsFoundFrom content is_failed settings zone c h k lefts rights left right (Err NotNew) = ⊥
IsFoundFrom content is_failed settings zone c h k lefts rights left right (Err Memory) = Unit {0}
IsFoundFrom content is_failed settings zone c h k lefts rights left right (Err Store) =
    (is_failed left ≡ true) ⊎ (is_failed right ≡ true)

-- in each of the first so many places the texts may be there: they are equal, byte for byte, or neither
-- is the caller's; and no list ends in them before the other
abbrev pub ArePairedTo : ℕ → ℕ → List Heard → List Heard → Type 0
ArePairedTo c step lefts rights = AllZip (ArePaired c) (take step lefts) (take step rights)

-- two lists part in a place, counted from 1: where the texts may not be there, or a list has none,
-- nothing was answered in it, so the keeps have the tables of the texts before it
abbrev pub IsUnanswered : {K : Type 0} → (K → Tables) → Settings → ℕ → History → History
    → List Heard → List Heard → ℕ → K → K → Type 0
IsUnanswered content settings c h k lefts rights step left right =
    ¬ (ArePairedTo c step lefts rights)
    → Have content settings (heard_history settings h (take (step - 1) lefts))
    (heard_history settings k (take (step - 1) rights)) left right

-- so it is of a result that tells where they part
abbrev pub StopsUnanswered : {K : Type 0} → (K → Tables) → Settings → ℕ → History → History
    → List Heard → List Heard → K → K → Result Verdict AuditFault → Type 0
StopsUnanswered content settings c h k lefts rights left right (Ok (Apart step)) =
    IsUnanswered content settings c h k lefts rights step left right
StopsUnanswered content settings c h k lefts rights left right (Ok (Equal replies)) = Unit {0}
StopsUnanswered content settings c h k lefts rights left right (Err fault) = Unit {0}
