-- The words and numbers by which answers give refusals, states and faults.
use Rattle.std.specs.Prelude.{ℕ, List, codes}
use Rattle.status.specs.declared.Status.{Status}
use Rattle.status.specs.declared.Status.TheVariants.{BadRequest, Forbidden, NotFound, Conflict}
use Rattle.house_rows.specs.declared.fault.KeepFault.{KeepFault}
use Rattle.house_rows.specs.declared.fault.KeepFault.TheVariants.{Memory, Store, Damaged}
use Rattle.house_rows.specs.declared.refusal.Refusal.{Refusal}
use Rattle.house_rows.specs.declared.refusal.Refusal.TheVariants.{NoCaller, HouseOnly, SellerOnly, Unknown, MomentBehind, Ended, NotOpen, OwnItem, Low, NotHigher, HasBids, NoBuyNow, LotExists, NameTaken, AlreadyAnswered, AlreadyGiven, NotParty, NotSold, Limit, Range}
use Rattle.house_rows.specs.declared.state.State.{State}
use Rattle.house_rows.specs.declared.state.State.TheVariants.{Open, Sold, Unsold, Settled}

-- the number of a refusal, and the place of it in the list of all
abbrev pub refusal_number : Refusal → ℕ
refusal_number NoCaller = 1
refusal_number HouseOnly = 2
refusal_number SellerOnly = 3
refusal_number Unknown = 4
refusal_number MomentBehind = 5
refusal_number Ended = 6
refusal_number NotOpen = 7
refusal_number OwnItem = 8
refusal_number (Low floor) = 9
refusal_number NotHigher = 10
refusal_number HasBids = 11
refusal_number NoBuyNow = 12
refusal_number LotExists = 13
refusal_number NameTaken = 14
refusal_number AlreadyAnswered = 15
refusal_number AlreadyGiven = 16
refusal_number NotParty = 17
refusal_number NotSold = 18
refusal_number Limit = 19
refusal_number Range = 20

-- its name
abbrev pub refusal_name : Refusal → List ℕ
refusal_name NoCaller = codes "NoCaller"
refusal_name HouseOnly = codes "HouseOnly"
refusal_name SellerOnly = codes "SellerOnly"
refusal_name Unknown = codes "Unknown"
refusal_name MomentBehind = codes "MomentBehind"
refusal_name Ended = codes "Ended"
refusal_name NotOpen = codes "NotOpen"
refusal_name OwnItem = codes "OwnItem"
refusal_name (Low floor) = codes "Low"
refusal_name NotHigher = codes "NotHigher"
refusal_name HasBids = codes "HasBids"
refusal_name NoBuyNow = codes "NoBuyNow"
refusal_name LotExists = codes "LotExists"
refusal_name NameTaken = codes "NameTaken"
refusal_name AlreadyAnswered = codes "AlreadyAnswered"
refusal_name AlreadyGiven = codes "AlreadyGiven"
refusal_name NotParty = codes "NotParty"
refusal_name NotSold = codes "NotSold"
refusal_name Limit = codes "Limit"
refusal_name Range = codes "Range"

-- the status of its answer
abbrev pub refusal_status : Refusal → Status
refusal_status NoCaller = Forbidden
refusal_status HouseOnly = Forbidden
refusal_status SellerOnly = Forbidden
refusal_status Unknown = NotFound
refusal_status MomentBehind = Conflict
refusal_status Ended = Conflict
refusal_status NotOpen = Conflict
refusal_status OwnItem = Forbidden
refusal_status (Low floor) = Conflict
refusal_status NotHigher = Conflict
refusal_status HasBids = Conflict
refusal_status NoBuyNow = Conflict
refusal_status LotExists = Conflict
refusal_status NameTaken = Conflict
refusal_status AlreadyAnswered = Conflict
refusal_status AlreadyGiven = Conflict
refusal_status NotParty = Forbidden
refusal_status NotSold = Conflict
refusal_status Limit = Conflict
refusal_status Range = BadRequest

-- the word for a state
abbrev pub state_name : State → List ℕ
state_name Open = codes "open"
state_name Sold = codes "sold"
state_name Unsold = codes "unsold"
state_name Settled = codes "settled"

-- the number of a fault
abbrev pub fault_number : KeepFault → ℕ
fault_number Memory = 1
fault_number Store = 2
fault_number Damaged = 3
