-- Worked rows: what bids come to by the example table, with values worked out by hand. Amounts are cents.
use Rattle.std.specs.Prelude.{◌≡◌, ℕ, List, [], Bool, true, false, Some, None}
use Rattle.steps.specs.Example.{example_table}
use Rattle.proxy.specs.declared.bid.Bid.{Bid}
use Rattle.proxy.specs.declared.bid.BidRefusal.TheVariants.{Low, NotHigher}
use Rattle.proxy.specs.Opening.{Opening}
use Rattle.proxy.specs.Kept.{Kept}
use Rattle.proxy.specs.Bids.{floor, met, one_more, price, refusal, standing_of}

-- member 2 bids 500
abbrev pub one_bid : List Bid
one_bid = one_more [] 2 500

-- then member 3 bids 1000
abbrev pub two_bids : List Bid
two_bids = one_more one_bid 3 1000

-- then member 2 bids as much
abbrev pub three_bids : List Bid
three_bids = one_more two_bids 2 1000

-- then member 3 raises by one cent
abbrev pub four_bids : List Bid
four_bids = one_more three_bids 3 1001

-- and then far above
abbrev pub five_bids : List Bid
five_bids = one_more four_bids 3 2000

-- a start with no reserve
abbrev pub from : ℕ → Opening
from start = record { start = start; reserve = None }

-- bids come to this standing and this floor
abbrev pub ComeTo : Opening → List Bid → Kept → ℕ → Type 0
ComeTo opening bids kept least = (standing_of example_table opening bids ≡ kept) × (floor example_table opening bids ≡ least)

-- the first bid leads at the start
abbrev pub FirstBidTakesTheStart : Type 0
FirstBidTakesTheStart = ComeTo (from 500) one_bid (record { start = 500; reserve = None; price = 500; leader = Some 2; top = Some 500; second = None; count = 1 }) 550

-- one cent under the floor is refused
abbrev pub LowBidIsRefused : Type 0
LowBidIsRefused = refusal example_table (from 500) one_bid 3 549 ≡ Some (Low 550)

-- whoever bids above the leader pays one step over it
abbrev pub HigherBidPaysOneStepOver : Type 0
HigherBidPaysOneStepOver = ComeTo (from 500) two_bids (record { start = 500; reserve = None; price = 550; leader = Some 3; top = Some 1000; second = Some 500; count = 2 }) 600

-- of equal maxima the earlier leads, and pays its maximum
abbrev pub EqualMaximumKeepsTheEarlierLeader : Type 0
EqualMaximumKeepsTheEarlierLeader =
    ComeTo (from 500) three_bids (record { start = 500; reserve = None; price = 1000; leader = Some 3; top = Some 1000; second = Some 1000; count = 3 }) 1050

-- a raise under one step over the second pays its maximum
abbrev pub SmallRaisePaysItsMaximum : Type 0
SmallRaisePaysItsMaximum = ComeTo (from 500) four_bids (record { start = 500; reserve = None; price = 1001; leader = Some 3; top = Some 1001; second = Some 1000; count = 4 }) 1051

-- a greater raise pays one step over the second
abbrev pub GreatRaisePaysOneStepOver : Type 0
GreatRaisePaysOneStepOver = ComeTo (from 500) five_bids (record { start = 500; reserve = None; price = 1050; leader = Some 3; top = Some 2000; second = Some 1000; count = 5 }) 1100

-- a leader's own maximum again is refused
abbrev pub SameMaximumIsRefused : Type 0
SameMaximumIsRefused = refusal example_table (from 500) five_bids 3 2000 ≡ Some NotHigher

-- where a band begins at the second's maximum, its step counts
abbrev pub StepBeginsAtItsBand : Type 0
StepBeginsAtItsBand =
    ComeTo (from 100) (one_more (one_more [] 2 9000) 3 2500) (record { start = 100; reserve = None; price = 2600; leader = Some 2; top = Some 9000; second = Some 2500; count = 2 }) 2700

-- a start of 500, and a reserve of 900
abbrev pub reserved : Opening
reserved = record { start = 500; reserve = Some 900 }

-- what bids come to where there is a reserve: whether it is met, the price, and the floor
abbrev pub IsReported : List Bid → Bool → ℕ → ℕ → Type 0
IsReported bids is_met public least =
    (met reserved bids ≡ Some is_met) × (price example_table reserved bids ≡ public) × (floor example_table reserved bids ≡ least)

-- member 2 bids 700
abbrev pub under_reserve : List Bid
under_reserve = one_more [] 2 700

-- then member 3 bids 750
abbrev pub still_under : List Bid
still_under = one_more under_reserve 3 750

-- a first bid under the reserve takes the start
abbrev pub UnmetReserveLeavesTheStart : Type 0
UnmetReserveLeavesTheStart = IsReported under_reserve false 500 550

-- and a second one the price by the bids
abbrev pub UnmetReserveLeavesThePrice : Type 0
UnmetReserveLeavesThePrice = IsReported still_under false 750 800

-- a bid that meets the reserve raises the price to it
abbrev pub MetReserveIsThePrice : Type 0
MetReserveIsThePrice = IsReported (one_more still_under 2 1000) true 900 950

-- so does a raise of a sole bidder, and however far it raises, the price stays
abbrev pub RaiseToTheReserve : Type 0
RaiseToTheReserve = IsReported (one_more under_reserve 2 900) true 900 950

abbrev pub RaiseOverTheReserve : Type 0
RaiseOverTheReserve = IsReported (one_more (one_more under_reserve 2 900) 2 5000) true 900 950
