-- A run over whatever history a house has: its replies to a member, and what it leaves.
use Rattle.std.specs.Prelude.{if◌then◌else◌, ◌≡◌, ℕ, List, [], ◌∷◌, ◌++◌, map, Option, Some, None}
use Rattle.std.specs.List.{AllByRecursion, AllZip}
use Rattle.house_laws.specs.Alike.{AreAlike}
use Rattle.house_laws.specs.Lives.{InFlight, Life, life_history}
use Rattle.house_rows.specs.declared.fault.KeepFault.TheVariants as fault
use Rattle.house_rows.specs.declared.settings.Settings.{Settings}
use Rattle.house_rows.specs.History.{History}
use Rattle.house_rows.specs.Runs.{AreTwinsFrom, history_from, rendered_from}
use Rattle.house_rows.specs.Tables.{Tables, tables_of}
use Rattle.house_rows.specs.Verdict.{IsHistory}
use Rattle.settle.specs.declared.zone.Zone.{Zone}
use Rattle.site_request.specs.Asked.{IsAsked}
use Rattle.site_request.specs.declared.asked.Asked.{Asked}
use Rattle.site_replies.specs.Texts.{fault_text, is_refusal_of_memory}
use Rattle.site.specs.Runs.{AreDown, IsGoing, at_places, meant, rendered}

-- the replies to one member, from a history on
abbrev pub replies_to_from : Settings → Zone → ℕ → History → List Asked → List (List ℕ)
replies_to_from settings zone c h asked =
    rendered_from meant (rendered zone) settings c h asked

-- twin runs for a member, from two histories on
abbrev pub TwinRunsFrom : Settings → ℕ → History → History → List Asked → List Asked → Type 0
TwinRunsFrom settings c h k left right = AreTwinsFrom meant settings c h k left right

-- the history after messages
abbrev pub asked_history : Settings → History → List Asked → History
asked_history settings h asked = history_from settings h (map meant asked)

-- the replies to a run at a member's places are those to a second one, from its history on;
-- and the histories after both are alike for the member, so that this can be said of the next two
pub record IsAnsweredTheSame (settings : Settings) (zone : Zone) (c : ℕ) (h k : History)
    (asked second : List Asked) (replies : List (List ℕ)) : Type 0 where
  pub same : at_places c asked replies ≡ replies_to_from settings zone c k second
  pub alike : AreAlike settings c (asked_history settings h asked)
      (asked_history settings k second)

-- so it is for every number, from every history that is alike for it, along every list of texts
-- that is a twin for it from there on
abbrev pub IsIsolated : Settings → Zone → History → List Asked → List (List ℕ) → Type 0
IsIsolated settings zone h asked replies =
    (c : ℕ) (k : History) (texts : List (List ℕ)) (second : List Asked)
    → AllZip IsAsked texts second
    → AreAlike settings c h k → TwinRunsFrom settings c h k asked second
    → IsAnsweredTheSame settings zone c h k asked second replies

-- a run from a history on is isolated, and leaves the tables of the history after it
pub record LivesOn {K : Type 0} (content : K → Tables) (settings : Settings) (zone : Zone)
    (h : History) (asked : List Asked) (replies : List (List ℕ)) (new : K) : Type 0 where
  pub isolated : IsIsolated settings zone h asked replies
  pub history : IsHistory settings (asked_history settings h asked)
  pub tables : content new ≡ tables_of settings (asked_history settings h asked)

-- the messages that were served, in order: all but those that were answered that memory was refused
abbrev pub served_among : List Asked → List (List ℕ) → List Asked
served_among [] replies = []
served_among (m ∷ ms) [] = []
served_among (m ∷ ms) (r ∷ rs) =
    (if is_refusal_of_memory r then [] else m ∷ []) ++ served_among ms rs

-- the replies to them
abbrev pub served_replies : List (List ℕ) → List (List ℕ)
served_replies [] = []
served_replies (r ∷ rs) = (if is_refusal_of_memory r then [] else r ∷ []) ++ served_replies rs

-- what was answered of a life: of messages of which none was answered that the store failed those
-- that were served. At each member's places their replies are those of the definitions to it
pub record AreAnswered (settings : Settings) (zone : Zone) (h : History) (asked : List Asked)
    (replies : List (List ℕ)) (served : List Asked) : Type 0 where
  pub going : AllByRecursion IsGoing replies
  pub are : served ≡ served_among asked replies
  pub report : (c : ℕ) → at_places c served (served_replies replies)
      ≡ replies_to_from settings zone c h served

-- the same up to a message in which the store failed, so that it was in flight. After it each
-- command and each read was answered with the failure
pub record WasCut (settings : Settings) (zone : Zone) (h : History) (asked : List Asked)
    (replies : List (List ℕ)) (served : List Asked) (last : Asked) : Type 0 where
  pub first : List Asked
  pub later : List Asked
  pub parts : asked ≡ first ++ last ∷ later
  pub first_replies : List (List ℕ)
  pub later_replies : List (List ℕ)
  pub replied : replies ≡ first_replies ++ fault_text fault.Store last.closes ∷ later_replies
  pub answered : AreAnswered settings zone h first first_replies served
  pub down : AreDown later later_replies

-- a life of a house in which these messages got these replies
abbrev pub IsLifeOf : Settings → Zone → History → List Asked → List (List ℕ) → List Asked
    → Option (InFlight Asked) → Type 0
IsLifeOf settings zone h asked replies served None =
    AreAnswered settings zone h asked replies served
IsLifeOf settings zone h asked replies served (Some x) =
    WasCut settings zone h asked replies served x.element

-- a crash leaves the tables of the history after such a life, where before the messages it could
-- leave the kept tables alone
abbrev pub LeavesALife : {K : Type 0} → (K → Tables) → (K → Tables → Type 0) → Settings → Zone
    → History → List Asked → List (List ℕ) → K → K → Type 0
LeavesALife content may_leave settings zone h asked replies old new =
    ((t : Tables) → may_leave old t → t ≡ content old) → (t : Tables) → may_leave new t
    → (life : Life Asked)
    × IsLifeOf settings zone h asked replies life.answered life.in_flight
    × (t ≡ tables_of settings (life_history meant settings h life))
