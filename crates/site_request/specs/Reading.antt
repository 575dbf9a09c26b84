-- What reading a message gives.
use Rattle.std.specs.Prelude.{◌≡◌, ℕ, List, Bool, true, Option, Result, Ok, Err}
use Rattle.house_rows.specs.declared.message.Message.{Message as Meant}
use Rattle.wire.specs.Message.{Message}
use Rattle.site_request.specs.Asked.{IsAsked, MayAsk, asked_of, may_ask, or_broken}
use Rattle.site_request.specs.declared.asked.Asked.{Asked}
use Rattle.site_request.specs.declared.asked.NoMemory.{NoMemory}
use Rattle.site_request.specs.declared.fault.RequestFault.{RequestFault}

-- memory was refused for the body: it is known whether the reply ends the connection, and nothing
-- in front of the body is wrong
abbrev pub IsUnread : NoMemory → Asked → Type 0
IsUnread refused asked = (refused.closes ≡ asked.closes) × (may_ask asked.message ≡ true)

-- what a message of that caller, or of none, asks that means this, or that it is unread
abbrev pub IsReadAs : Bool → Option ℕ → Result (Meant RequestFault) RequestFault
    → Result Asked NoMemory → Type 0
IsReadAs closes caller meant (Ok asked) = asked ≡ record { closes = closes; message = or_broken caller meant }
IsReadAs closes caller meant (Err refused) = (refused.closes ≡ closes) × MayAsk meant

-- what a whole message asks, or that it is unread
abbrev pub IsRequestRead : Message → Result Asked NoMemory → Type 0
IsRequestRead m (Ok asked) = asked ≡ asked_of (Ok m)
IsRequestRead m (Err refused) = IsUnread refused (asked_of (Ok m))

-- the same of a text
abbrev pub IsRead : List ℕ → Result Asked NoMemory → Type 0
IsRead text (Ok asked) = IsAsked text asked
IsRead text (Err refused) = (asked : Asked) × IsAsked text asked × IsUnread refused asked
