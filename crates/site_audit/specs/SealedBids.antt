-- A bid in a list of messages.
use Rattle.std.specs.Prelude.{◌≡◌, ℕ, ◌+◌, ◌≤◌, ◌<◌, List, ◌∷◌, ◌++◌, ◌==◌, false, length, Option, Some, None, Result, Ok, Err}
use Rattle.steps.specs.Table.{Band}
use Rattle.proxy.specs.Kept.{Kept}
use Rattle.proxy.specs.Surplus.{Covers}
use Rattle.house_laws.specs.Covered.{Sealed, bid_message, with_maximum}
use Rattle.house_rows.specs.declared.command.Command.TheVariants.{Bid}
use Rattle.house_rows.specs.declared.message.Message.{Message}
use Rattle.house_rows.specs.declared.message.Message.TheVariants.{Write}
use Rattle.house_rows.specs.Limits.{most_cents}
use Rattle.site_bids.specs.Spelt.{IsSent, bid_text}
use Rattle.site_audit.specs.declared.fault.AuditFault.{AuditFault}
use Rattle.site_audit.specs.declared.fault.AuditFault.TheVariants.{Memory, Store, NotNew}
use Rattle.site_audit.specs.Places.{Heard, IsHeard, heard_message}

-- the bid of a message, if it is one
abbrev pub sealed_in : {F : Type 0} → Message F → Option Sealed
sealed_in (Write moment member (Bid item maximum)) =
    Some (record { moment = moment; member = member; item = item; maximum = maximum })
sealed_in _ = None

-- a bid may be raised to that maximum, as a member sees it: it can be sent, the maximum is a greater
-- amount, and it isn't the member's
pub record MayRaise (c y : ℕ) (b : Sealed) : Type 0 where
  pub sent : IsSent (with_maximum y b)
  pub above : b.maximum < y
  pub fits : y ≤ most_cents
  pub apart : (b.member == c) ≡ false

-- the text that raises a bid to that maximum: it is spelt so, and asks for the raised bid
pub record IsRaise (y : ℕ) (b : Sealed) (text : Heard) : Type 0 where
  pub spelt : IsHeard (bid_text (with_maximum y b)) text
  pub asks : heard_message text ≡ bid_message (with_maximum y b)

-- by what is kept of an item's bids a member leads with that maximum, and it covers what leading
-- takes
abbrev pub IsLedKept : List Band → ℕ → ℕ → Kept → Type 0
IsLedKept bands w x k = (k.leader ≡ Some w) × (k.top ≡ Some x) × Covers bands k.reserve k.second x

-- the element in that place of a list, which is counted from 1, asks for that bid
pub record IsBidAt (place : ℕ) (b : Sealed) (heards : List Heard) : Type 0 where
  pub before : List Heard
  pub here : Heard
  pub later : List Heard
  pub parts : heards ≡ before ++ here ∷ later
  pub placed : place ≡ length before + 1
  pub means : heard_message here ≡ bid_message b

-- the bid that is read of a message, if it is one; or memory was refused
abbrev pub IsBidRead : {F : Type 0} → Message F → Result (Option Sealed) AuditFault → Type 0
IsBidRead message (Ok bid) = bid ≡ sealed_in message
IsBidRead message (Err Memory) = Unit {0}
IsBidRead message (Err Store) = ⊥
IsBidRead message (Err NotNew) = ⊥

-- the bid that is found in a place, or none where the place asks for none; or memory was refused
abbrev pub IsBidFound : ℕ → List Heard → Result (Option Sealed) AuditFault → Type 0
IsBidFound place heards (Ok (Some b)) = IsBidAt place b heards
IsBidFound place heards (Ok None) = (b : Sealed) → ¬ (IsBidAt place b heards)
IsBidFound place heards (Err Memory) = Unit {0}
IsBidFound place heards (Err Store) = ⊥
IsBidFound place heards (Err NotNew) = ⊥
