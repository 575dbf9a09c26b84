-- Runs: the replies to a list of messages, and those to one member.
use Rattle.std.specs.List.{AllZip}
use Rattle.std.specs.Prelude.{if◌then◌else◌, ◌≡◌, ◌⊎◌, ℕ, List, [], ◌∷◌, ◌++◌, Bool, true, false, Err}
use Rattle.house_rows.specs.declared.fault.KeepFault.TheVariants as fault
use Rattle.house_rows.specs.declared.message.Message.{Message}
use Rattle.house_rows.specs.declared.reply.Reply.{Reply}
use Rattle.house_rows.specs.declared.settings.Settings.{Settings}
use Rattle.house_rows.specs.History.{History}
use Rattle.house_rows.specs.Runs.{AreTwins, is_of, rendered_to}
use Rattle.house_rows.specs.Tables.{Tables, tables_of}
use Rattle.house_rows.specs.Verdict.{IsHistory}
use Rattle.house_laws.specs.Covered.{IsCovered, Sealed, bid_message, raised, with_maximum}
use Rattle.settle.specs.declared.zone.Zone.{Zone}
use Rattle.site_request.specs.Asked.{IsAsked}
use Rattle.site_request.specs.declared.asked.Asked.{Asked}
use Rattle.site_request.specs.declared.fault.RequestFault.{RequestFault}
use Rattle.site_replies.specs.Texts.{fault_text, is_failure, reply_text}
use Rattle.wire.specs.Frame.{IsFrame}
use Rattle.wire.specs.declared.fault.WireFault.{WireFault}
use Rattle.site.specs.Replies.{IsDown, broken_text, next_of, reply_to}

-- whether a message is a member's
abbrev pub is_from : ℕ → Asked → Bool
is_from c asked = is_of c asked.message

-- the replies to messages in turn
abbrev pub replies_from : Settings → Zone → History → List Asked → List (List ℕ)
replies_from settings zone h [] = []
replies_from settings zone h (m ∷ ms) =
    reply_to settings zone h m ∷ replies_from settings zone (next_of settings h m) ms

-- what is asked
abbrev pub meant : Asked → Message RequestFault
meant asked = asked.message

-- the text of a reply to it
abbrev pub rendered : Zone → Asked → Reply RequestFault → List ℕ
rendered zone asked reply = reply_text zone asked.closes reply

-- the replies to one member, from the empty history on
abbrev pub replies_to : Settings → Zone → ℕ → List Asked → List (List ℕ)
replies_to settings zone c ms = rendered_to meant (rendered zone) settings c ms

-- the reply to a broken frame reports its fault
abbrev pub TellsFault : List ℕ → List ℕ → Type 0
TellsFault text reply = (fault : WireFault) → IsFrame text (Err fault) → reply ≡ broken_text fault

-- twin runs for a member: of equal length; at each place the messages are equal, or neither is the
-- member's; and after each place what is public and what waits for the member agree
abbrev pub TwinRuns : Settings → ℕ → List Asked → List Asked → Type 0
TwinRuns settings c left right = AreTwins meant settings c left right

-- the bid in a place of a run, which is counted from 1, is covered, and it isn't the member's
abbrev pub IsCoveredRun : Settings → ℕ → ℕ → ℕ → Sealed → List Asked → Type 0
IsCoveredRun settings c place y b ms = IsCovered meant settings c place y b ms

-- what is asked is that bid with another maximum
abbrev pub Raises : ℕ → Sealed → Asked → Type 0
Raises y b asked = asked.message ≡ bid_message (with_maximum y b)

-- the replies at a member's places
abbrev pub at_places : ℕ → List Asked → List (List ℕ) → List (List ℕ)
at_places c [] replies = []
at_places c (m ∷ ms) [] = []
at_places c (m ∷ ms) (r ∷ rs) = (if is_from c m then r ∷ [] else []) ++ at_places c ms rs

-- another text in a place of a run is hidden from a member: the list with it asks what it asks in that place, is a twin for the
-- member, and has the replies at the member's places
pub record IsHidden (settings : Settings) (zone : Zone) (c place : ℕ) (texts : List (List ℕ)) (asked : List Asked)
    (text : List ℕ) (other : Asked) (replies : List (List ℕ)) : Type 0 where
  pub asks : AllZip IsAsked (raised place text texts) (raised place other asked)
  pub twins : TwinRuns settings c asked (raised place other asked)
  pub same : at_places c asked replies ≡ replies_to settings zone c (raised place other asked)

-- messages answered in turn, each over what the one before left
abbrev pub InTurn : {K : Type 0} → (Asked → List ℕ → K → K → Type 0) → List Asked → List (List ℕ)
    → K → K → Type 0
InTurn Step [] [] old new = new ≡ old
InTurn {K} Step (m ∷ ms) (r ∷ rs) old new = (mid : K) × Step m r old mid × InTurn Step ms rs mid new
InTurn Step [] (r ∷ rs) old new = ⊥
InTurn Step (m ∷ ms) [] old new = ⊥

-- a run in which memory may have been refused: such a message is answered so, and leaves the
-- history
abbrev pub IsRun : Settings → Zone → History → List Asked → List (List ℕ) → History → Type 0
IsRun settings zone h [] [] after = after ≡ h
IsRun settings zone h (m ∷ ms) (r ∷ rs) after =
    ((r ≡ reply_to settings zone h m) × IsRun settings zone (next_of settings h m) ms rs after)
    ⊎ ((r ≡ fault_text fault.Memory m.closes) × IsRun settings zone h ms rs after)
IsRun settings zone h [] (r ∷ rs) after = ⊥
IsRun settings zone h (m ∷ ms) [] after = ⊥

-- a reply that doesn't say that the store failed or is damaged
abbrev pub IsGoing : List ℕ → Type 0
IsGoing reply = is_failure reply ≡ false

-- the replies to messages over a history whose tables the keep had, where none reported a failure:
-- the tables are then those of the history after them. Where a crash could leave the tables alone
-- before, it can do so now
pub record Ran {K : Type 0} (content : K → Tables) (is_failed : K → Bool)
    (may_leave : K → Tables → Type 0)
    (settings : Settings) (zone : Zone) (h : History) (asked : List Asked) (replies : List (List ℕ))
    (old new : K) : Type 0 where
  pub after : History
  pub run : IsRun settings zone h asked replies after
  pub history : IsHistory settings after
  pub tables : content new ≡ tables_of settings after
  pub same : is_failed new ≡ is_failed old
  pub settled : ((t : Tables) → may_leave old t → t ≡ content old) → (t : Tables) → may_leave new t
      → t ≡ content new

-- the replies to messages over a store that has failed: each command and each read is answered so
abbrev pub AreDown : List Asked → List (List ℕ) → Type 0
AreDown asked replies = AllZip IsDown asked replies

-- once one of them is answered that the store has failed, each command and each read after it is
-- answered so
abbrev pub StaysDown : List Asked → List (List ℕ) → Type 0
StaysDown [] [] = Unit {0}
StaysDown (m ∷ ms) (r ∷ rs) =
    (r ≡ fault_text fault.Store m.closes → AreDown ms rs) × StaysDown ms rs
StaysDown [] (r ∷ rs) = ⊥
StaysDown (m ∷ ms) [] = ⊥

-- the replies to messages of which one said that the store failed: before the first such they are a
-- run, and after it the store stays failed. A crash leaves the tables before its message or after
-- it, so no message after it has acted
pub record Stopped {K : Type 0} (content : K → Tables) (is_failed : K → Bool)
    (may_leave : K → Tables → Type 0)
    (settings : Settings) (zone : Zone) (h : History) (asked : List Asked) (replies : List (List ℕ))
    (old new : K) : Type 0 where
  pub first : List Asked
  pub last : Asked
  pub later : List Asked
  pub parts : asked ≡ first ++ last ∷ later
  pub first_replies : List (List ℕ)
  pub later_replies : List (List ℕ)
  pub replied : replies ≡ first_replies ++ fault_text fault.Store last.closes ∷ later_replies
  pub after : History
  pub run : IsRun settings zone h first first_replies after
  pub history : IsHistory settings after
  pub down : AreDown later later_replies
  pub failed : is_failed new ≡ true
  pub left : ((t : Tables) → may_leave old t → t ≡ content old) → (t : Tables) → may_leave new t
      → (t ≡ tables_of settings after) ⊎ (t ≡ tables_of settings (next_of settings after last))
