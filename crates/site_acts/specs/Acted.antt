-- What a message does, and what it is replied. Start here.
use Rattle.std.specs.Prelude.{◌≡◌, ◌⊎◌, ◌↔◌, ◌++◌, ℕ, List, Bool, true, false, Result, OnOk, OnErr, IsErrOf, is_none}
use Rattle.house.specs.Own.{IsOf}
use Rattle.house.specs.Taken.{CommandRowsFit}
use Rattle.house_rows.specs.declared.change.Change.{Change}
use Rattle.house_rows.specs.declared.fault.KeepFault.{KeepFault}
use Rattle.house_rows.specs.declared.fault.KeepFault.TheVariants.{Store, Damaged}
use Rattle.house_rows.specs.declared.message.Message.{Message}
use Rattle.house_rows.specs.declared.message.Message.TheVariants.{Write, Read, Broken}
use Rattle.house_rows.specs.declared.query.Query.{Query}
use Rattle.house_rows.specs.declared.refusal.Refusal.{Refusal}
use Rattle.house_rows.specs.declared.reply.Reply.{Reply}
use Rattle.house_rows.specs.declared.reply.Reply.TheVariants.{Done, Denied, Faulty, Shows}
use Rattle.house_rows.specs.declared.settings.Settings.{Settings}
use Rattle.house_rows.specs.declared.command_result.CommandResult.{CommandResult}
use Rattle.house_rows.specs.Asks.{ChangeFits, IsFree}
use Rattle.house_rows.specs.Changed.{changed}
use Rattle.house_rows.specs.History.{History}
use Rattle.house_rows.specs.Keeping.{AreSound}
use Rattle.house_rows.specs.Making.{ChangeRowsFit}
use Rattle.house_rows.specs.Runs.{next, reply}
use Rattle.house_rows.specs.Tables.{Tables, tables_of}
use Rattle.house_rows.specs.Verdict.{IsHistory, verdict}
use Rattle.pages.specs.Taken.{ReadRowsFit}
use Rattle.pages_laws.specs.ByTables.{page_by}
use Rattle.settle.specs.declared.zone.Zone.{Zone}
use Rattle.site_request.specs.declared.fault.RequestFault.{RequestFault}
use Rattle.site_replies.specs.Texts.{reply_text}
use Rattle.site_results.specs.ByTables.{IsResultBy}

-- whether a message asks the keep for anything
abbrev pub is_asking : Message RequestFault → Bool
is_asking (Write moment caller command) = true
is_asking (Read caller query) = true
is_asking (Broken caller fault) = false

-- whether it is a command that is accepted
abbrev pub is_entered : Settings → History → Message RequestFault → Bool
is_entered settings h (Write moment caller command) =
    is_none (verdict settings h moment caller command)
is_entered settings h (Read caller query) = false
is_entered settings h (Broken caller fault) = false

-- the change is the message's own, and fits where the rows do that deciding and making it take, so
-- where the tables are sound; only a command has one
abbrev pub IsOwn : Message RequestFault → Tables → Change → Type 0
IsOwn (Write moment caller command) t change = IsOf moment caller command change
    × (CommandRowsFit t caller command → ChangeRowsFit t change → ChangeFits t change)
    × (AreSound t → ChangeFits t change)
IsOwn (Read caller query) t change = ⊥
IsOwn (Broken caller fault) t change = ⊥

-- the tables are those after the message's own change
abbrev pub IsMade : Message RequestFault → Tables → Tables → Type 0
IsMade message t now = (change : Change) × IsOwn message t change × (now ≡ changed t change)

-- a command whose own change fits, but whose new key is taken: in tables that belong to no history
abbrev pub IsTaken : Tables → Message RequestFault → Type 0
IsTaken t (Write moment caller command) =
    (change : Change) × IsOf moment caller command change × ChangeFits t change
    × ¬ (IsFree t change)
IsTaken t (Read caller query) = ⊥
IsTaken t (Broken caller fault) = ⊥

-- the rows that a message takes fit: those that deciding on a command takes and those that making
-- its own change does, and those that the page of a read takes, where the caller may read
abbrev pub MessageRowsFit : Tables → Message RequestFault → Type 0
MessageRowsFit t (Write moment caller command) = CommandRowsFit t caller command
    × ((change : Change) → IsOf moment caller command change → ChangeRowsFit t change)
MessageRowsFit t (Read caller query) = ReadRowsFit t caller query
MessageRowsFit t (Broken caller fault) = Unit {0}

-- of a read, what is said of its caller and its query
abbrev pub IfRead : Message RequestFault → (ℕ → Query → Type 0) → Type 0
IfRead (Write moment caller command) P = Unit {0}
IfRead (Read caller query) P = P caller query
IfRead (Broken caller fault) P = Unit {0}

-- what is appended tells the result of a change
abbrev pub TellsResult : Zone → Bool → Tables → Change → List ℕ → List ℕ → Type 0
TellsResult zone closes t change before after =
    (report : CommandResult) × IsResultBy t change report
    × (after ≡ before ++ reply_text zone closes (Done report))

-- what is appended for a message that changes nothing: a command is refused, a read is shown the
-- page of the tables, and any other message is told its fault
abbrev pub TellsUnchanged : Zone → Bool → Message RequestFault → Tables → List ℕ → List ℕ → Type 0
TellsUnchanged zone closes (Write moment caller command) t before after =
    (refusal : Refusal) × (after ≡ before ++ reply_text zone closes (Denied refusal))
TellsUnchanged zone closes (Read caller query) t before after =
    after ≡ before ++ reply_text zone closes (Shows (page_by t caller query))
TellsUnchanged zone closes (Broken caller fault) t before after =
    after ≡ before ++ reply_text zone closes (Faulty fault)

-- a message has made its own change and is told the result of that, or it has changed nothing and is
-- answered otherwise
abbrev pub IsOwnChangeOrNone : Zone → Bool → Message RequestFault → Tables → Tables → List ℕ
    → List ℕ → Type 0
IsOwnChangeOrNone zone closes message t now before after =
    ((now ≡ t) × TellsUnchanged zone closes message t before after)
    ⊎ ((change : Change) × IsOwn message t change × (now ≡ changed t change)
    × TellsResult zone closes t change before after)

-- what a message does to a keep, and which bytes are appended for it; `old` and `new` are the keep,
-- `before` and `after` the bytes
pub record IsActed {K : Type 0} (content : K → Tables) (is_failed : K → Bool)
    (is_honest : K → Type 0) (may_leave : K → Tables → Type 0)
    (zone : Zone) (closes : Bool) (message : Message RequestFault)
    (result : Result (Unit {0}) KeepFault) (before after : List ℕ) (old new : K) : Type 0 where
  -- over every history whose tables the keep has: the reply of the definition, and the tables of
  -- the next history
  pub report : is_honest new → (settings : Settings) (h : History) → IsHistory settings h
      → content old ≡ tables_of settings h
      → OnOk result (after ≡ before
      ++ reply_text zone closes (reply settings h message))
  pub tables : is_honest new → (settings : Settings) (h : History) → IsHistory settings h
      → content old ≡ tables_of settings h
      → OnOk result (content new ≡ tables_of settings (next settings h message))
  -- over any tables what is appended is the text of a reply
  pub text : OnOk result ((r : Reply RequestFault)
      × (after ≡ before ++ reply_text zone closes r))
  -- and that of a read shows the page of the kept tables
  pub shown : is_honest new → IfRead message (λ caller query. OnOk result (after ≡ before
      ++ reply_text zone closes
      (Shows (page_by (content old) caller query))))
  -- and a command makes its own change or none, as it is answered
  pub made : is_honest new → is_failed new ≡ false → OnOk result
      (IsOwnChangeOrNone zone closes message (content old) (content new) before after)
  -- a call that fails appends nothing, and has not acted unless the store failed
  pub err : OnErr result (after ≡ before)
  pub unmade : is_honest new → is_failed new ≡ false → OnErr result (content new ≡ content old)
  pub store : IsErrOf result Store ↔ ((is_failed new ≡ true) × (is_asking message ≡ true))
  -- over the tables of a history no row is damaged, and over sound ones only a key may be taken
  pub whole : is_honest new → (settings : Settings) (h : History) → IsHistory settings h
      → content old ≡ tables_of settings h
      → ¬ (IsErrOf result Damaged)
  pub damaged : is_honest new → AreSound (content old) → IsErrOf result Damaged
      → IsTaken (content old) message
  -- nor is it over any tables in which the rows fit that the message takes
  pub undamaged : is_honest new → MessageRowsFit (content old) message → IsErrOf result Damaged
      → IsTaken (content old) message
  pub honest : is_honest new → is_honest old
  pub stays : is_failed old ≡ true → is_failed new ≡ true
  pub asleep : is_asking message ≡ false → new ≡ old
  -- after a fault a crash leaves what it could have left before, unless the store failed
  pub left : is_honest new → is_failed new ≡ false
      → OnErr result ((t : Tables) → may_leave new t → may_leave old t)
  -- a crash leaves what it could have left before, or the tables with the message's own change,
  -- those of the next history
  pub crash : is_honest new → (t : Tables) → may_leave new t
      → may_leave old t ⊎ ((is_failed old ≡ false) × IsMade message (content old) t)
  pub crash_next : is_honest new → (settings : Settings) (h : History) → IsHistory settings h
      → content old ≡ tables_of settings h
      → (t : Tables) → may_leave new t
      → may_leave old t ⊎ ((is_failed old ≡ false)
      × (t ≡ tables_of settings (next settings h message)))
  -- and where a command was accepted and answered, those alone
  pub kept : is_honest new → (settings : Settings) (h : History) → IsHistory settings h
      → content old ≡ tables_of settings h
      → is_entered settings h message ≡ true
      → OnOk result ((t : Tables) → may_leave new t → t ≡ content new)
