-- The reply to one message. Start here.
use Rattle.std.specs.Prelude.{◌≡◌, ◌⊎◌, ◌↔◌, ◌++◌, ℕ, List, [], Bool, true, false, None, Result, Ok, Err, IsErrOf, IsOk, IsSome}
use Rattle.std.specs.Borrow.{Bor}
use Rattle.house_rows.specs.declared.fault.KeepFault.{KeepFault}
use Rattle.house_rows.specs.declared.fault.KeepFault.TheVariants as fault
use Rattle.house_rows.specs.declared.reply.Reply.{Reply}
use Rattle.house_rows.specs.declared.reply.Reply.TheVariants.{Shows}
use Rattle.house_rows.specs.declared.settings.Settings.{Settings}
use Rattle.house_rows.specs.History.{History}
use Rattle.house_rows.specs.Keeping.{AreSound}
use Rattle.house_rows.specs.Runs.{next, reply}
use Rattle.house_rows.specs.Tables.{Tables, tables_of}
use Rattle.house_rows.specs.Verdict.{IsHistory}
use Rattle.jiff.specs.Words.{read_whole}
use Rattle.pages_laws.specs.ByTables.{page_by}
use Rattle.settle.specs.Zoned.{IsPlainText}
use Rattle.settle.specs.declared.zone.Zone.{Zone}
use Rattle.site_acts.specs.Acted.{IfRead, IsMade, IsOwnChangeOrNone, IsTaken}
use Rattle.site_acts.specs.Acted.{MessageRowsFit, is_asking, is_entered}
use Rattle.site_request.specs.Asked.{may_ask}
use Rattle.site_request.specs.declared.asked.Asked.{Asked}
use Rattle.site_request.specs.declared.fault.RequestFault.{RequestFault}
use Rattle.site_replies.specs.Texts.{fault_text, is_failure, reply_text}
use Rattle.wire.specs.Response.{error_body, response_bytes}
use Rattle.wire.specs.Fault.{status_of, word_of}
use Rattle.wire.specs.declared.fault.WireFault.{WireFault}
use Rattle.site.specs.declared.engine.Site.{Site}

-- the zone by which a site counts days
abbrev pub zone_of : {K : Type 0} → Site K → Zone
zone_of site = site.writer.zone

-- the text of the reply to what is asked
unfoldable pub reply_to : Settings → Zone → History → Asked → List ℕ
reply_to settings zone h asked =
    reply_text zone asked.closes (reply settings h asked.message)

-- the history that it leaves
unfoldable pub next_of : Settings → History → Asked → History
next_of settings h asked = next settings h asked.message

-- the reply of the definitions, and the tables of the next history. After an accepted command a
-- crash leaves these alone
pub record IsAnswered {K : Type 0} (content : K → Tables) (is_failed : K → Bool)
    (may_leave : K → Tables → Type 0)
    (settings : Settings) (zone : Zone) (h : History) (asked : Asked) (reply : List ℕ)
    (old new : K) : Type 0 where
  pub report : reply ≡ reply_to settings zone h asked
  pub tables : content new ≡ tables_of settings (next_of settings h asked)
  pub same : is_failed new ≡ is_failed old
  pub kept : is_entered settings h asked.message ≡ true → (t : Tables) → may_leave new t
      → t ≡ content new

-- memory was refused, and the message has not acted
pub record IsWanting {K : Type 0} (content : K → Tables) (is_failed : K → Bool)
    (may_leave : K → Tables → Type 0)
    (asked : Asked) (reply : List ℕ) (old new : K) : Type 0 where
  pub report : reply ≡ fault_text fault.Memory asked.closes
  pub tables : content new ≡ content old
  pub same : is_failed new ≡ is_failed old
  pub left : (t : Tables) → may_leave new t → may_leave old t

-- a command or a read is answered that the store has failed
abbrev pub IsDown : Asked → List ℕ → Type 0
IsDown asked reply = is_asking asked.message ≡ true → reply ≡ fault_text fault.Store asked.closes

-- the store failed, in this call or an earlier one; only what asks it for anything, or might, were
-- its body read, is answered so
pub record IsFailed (asked : Asked) (reply : List ℕ) (is_failed : Bool) : Type 0 where
  pub report : reply ≡ fault_text fault.Store asked.closes
  pub asking : may_ask asked.message ≡ true
  pub failed : is_failed ≡ true

-- what one message is answered over a history whose tables the keep has, what it leaves, and what a
-- crash may leave
pub record Replies {K : Type 0} (content : K → Tables) (is_failed : K → Bool)
    (may_leave : K → Tables → Type 0)
    (settings : Settings) (zone : Zone) (h : History) (asked : Asked) (reply : List ℕ)
    (old new : K) : Type 0 where
  pub outcome : IsAnswered content is_failed may_leave settings zone h asked reply old new
      ⊎ (IsWanting content is_failed may_leave asked reply old new
      ⊎ IsFailed asked reply (is_failed new))
  -- a crash leaves what it could have left before, or the tables of the next history
  pub crash : (t : Tables) → may_leave new t
      → may_leave old t ⊎ ((is_failed old ≡ false)
      × (t ≡ tables_of settings (next_of settings h asked)))

-- over any tables, the text of a reply: that of a read shows the page of the kept tables, and a
-- command makes its own change or none, as the text says
pub record IsReplied {K : Type 0} (content : K → Tables) (is_failed : K → Bool)
    (is_honest : K → Type 0) (zone : Zone) (asked : Asked) (reply : List ℕ) (old new : K)
    : Type 0 where
  pub text : (r : Reply RequestFault) × (reply ≡ reply_text zone asked.closes r)
  pub shown : is_honest new → IfRead asked.message (λ caller query.
      reply ≡ reply_text zone asked.closes
      (Shows (page_by (content old) caller query)))
  pub made : is_honest new → is_failed new ≡ false
      → IsOwnChangeOrNone zone asked.closes asked.message (content old) (content new) [] reply

-- or a text of 500 or 503 that is ready: nothing has acted, unless the store failed
pub record IsUnmade {K : Type 0} (content : K → Tables) (is_failed : K → Bool)
    (is_honest : K → Type 0) (may_leave : K → Tables → Type 0) (asked : Asked) (reply : List ℕ)
    (old new : K) : Type 0 where
  pub text : (f : KeepFault) × (reply ≡ fault_text f asked.closes)
  pub tables : is_honest new → is_failed new ≡ false → content new ≡ content old
  pub left : is_honest new → is_failed new ≡ false
      → (t : Tables) → may_leave new t → may_leave old t

-- what answering one message does to any keep
pub record IsStep {K : Type 0} (content : K → Tables) (is_failed : K → Bool)
    (is_honest : K → Type 0) (may_leave : K → Tables → Type 0)
    (zone : Zone) (asked : Asked) (reply : List ℕ) (old new : K) : Type 0 where
  pub replies : is_honest new → (settings : Settings) (h : History) → IsHistory settings h
      → content old ≡ tables_of settings h
      → Replies content is_failed may_leave settings zone h asked reply old new
  -- over any tables, of a history or not: the message's own change is made, or nothing is changed
  pub report : IsReplied content is_failed is_honest zone asked reply old new
      ⊎ IsUnmade content is_failed is_honest may_leave asked reply old new
  -- and a crash leaves no more
  pub crash : is_honest new → (t : Tables) → may_leave new t
      → may_leave old t ⊎ ((is_failed old ≡ false) × IsMade asked.message (content old) t)
  -- over sound ones 500 is answered only where the store failed, or where the new key of a
  -- command's change is taken
  pub failure : is_honest new → AreSound (content old) → is_failure reply ≡ true
      → (is_failed new ≡ true) ⊎ IsTaken (content old) asked.message
  -- nor is it answered over any tables in which the rows fit that the message takes
  pub undamaged : is_honest new → MessageRowsFit (content old) asked.message
      → is_failure reply ≡ true
      → (is_failed new ≡ true) ⊎ IsTaken (content old) asked.message
  -- and where the store has failed, each command and each read is answered so, and never that
  -- memory was refused
  pub down : is_failed new ≡ true → IsDown asked reply
  -- nothing else is answered so, but what no memory was found to read
  pub store : reply ≡ fault_text fault.Store asked.closes
      → (is_failed new ≡ true) × (may_ask asked.message ≡ true)
  pub honest : is_honest new → is_honest old
  pub stays : is_failed old ≡ true → is_failed new ≡ true
  -- what asks the keep for nothing leaves it as it was
  pub asleep : is_asking asked.message ≡ false → new ≡ old

-- the reply comes after what a buffer held; or it is a text that is ready, and the buffer
-- has what it had
abbrev pub IsAppended : Result (Unit {0}) (Bor (List ℕ)) → List ℕ → List ℕ → List ℕ → Type 0
IsAppended (Ok u) before after reply = after ≡ before ++ reply
IsAppended (Err text) before after reply = (text.now ≡ reply) × (after ≡ before)

-- the reply to a text whose frame is broken
abbrev pub broken_text : WireFault → List ℕ
broken_text f = response_bytes (status_of f) None true (error_body (word_of f))

-- what is answered ready where a keep's call failed
abbrev pub IsReported : Bool → Result (Unit {0}) KeepFault → Result (Unit {0}) (Bor (List ℕ)) → Type 0
IsReported closes (Ok u) (Ok v) = Unit {0}
IsReported closes (Err f) (Err text) = text.now ≡ fault_text f closes
IsReported closes (Ok u) (Err text) = ⊥
IsReported closes (Err f) (Ok v) = ⊥

-- a zone can be read
abbrev pub IsReadable : List ℕ → Type 0
IsReadable zone = IsPlainText zone × IsSome (read_whole zone)

-- what became of a site that was begun, without the keep that is given back where it wasn't
abbrev pub without_keep : {S K : Type 0} → Result S (KeepFault × K) → Result S KeepFault
without_keep (Ok site) = Ok site
without_keep (Err given) = Err given.0

-- why a site can't be made over a keep: Store exactly where the keep has failed, and Damaged only
-- where the zone can't be read. Where it can't, the fault is Damaged, unless memory was refused
-- before the zone was looked at
pub record IsBegun {S : Type 0} (result : Result S KeepFault) (is_honest : Type 0)
    (is_failed : Bool) (content : Tables) : Type 0 where
  pub store : IsErrOf result fault.Store ↔ (is_failed ≡ true)
  pub readable : is_honest → IsOk result → IsReadable content.settings.zone
  pub damaged : is_honest → IsErrOf result fault.Damaged → ¬ (IsReadable content.settings.zone)
  pub unreadable : is_honest → is_failed ≡ false → ¬ (IsReadable content.settings.zone)
      → IsErrOf result fault.Damaged ⊎ IsErrOf result fault.Memory
