-- The bids on items.
use Rattle.std.specs.Prelude.{if◌then◌else◌, ℕ, ◌+◌, List, [], ◌∷◌, ◌++◌, ◌==◌, length}
use Rattle.proxy.specs.declared.bid.Bid as bid
use Rattle.house_rows.specs.declared.command.Command.{Command}
use Rattle.house_rows.specs.declared.command.Command.TheVariants.{Bid}
use Rattle.house_rows.specs.History.{History, Key, put_by}

-- the bid of a command, if it is one on the item
abbrev pub bid_in : ℕ → ℕ → ℕ → Command → List bid.Bid
bid_in i number caller (Bid j maximum) = if j == i then record { member = caller; maximum = maximum; no = number } ∷ [] else []
bid_in i number caller _ = []

-- the bids on an item, each with the next number
abbrev pub bids_on : History → ℕ → List bid.Bid
bids_on [] i = []
bids_on (e ∷ h) i = bids_on h i ++ bid_in i (length (bids_on h i) + 1) e.caller e.command

-- a bid and its item
pub record BidRow : Type 0 where
  pub item : ℕ
  pub bid : bid.Bid

-- bids go by item and number
abbrev pub bid_key : BidRow → Key
bid_key row = record { first = row.item; second = row.bid.no; third = 0 }

-- a bid puts its row, with the next number of its item
abbrev pub with_bid : History → List BidRow → ℕ → Command → List BidRow
with_bid h rows caller (Bid i maximum) =
    put_by bid_key (record { item = i; bid = record { member = caller; maximum = maximum; no = length (bids_on h i) + 1 } }) rows
with_bid h rows caller _ = rows

-- all bids, by item and number
abbrev pub bid_rows : History → List BidRow
bid_rows [] = []
bid_rows (e ∷ h) = with_bid h (bid_rows h) e.caller e.command
