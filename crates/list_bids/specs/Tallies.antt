-- What each member has bid on each item, kept beside the bids.
use Rattle.std.specs.Prelude.{◌≡◌, ◌<◌, ◌≤◌, ◌+◌, [], ◌∷◌, ◌==◌, ◌&&◌, ℕ, List, Vec, Bool, true, false, filter, find, length, map, Option, Some, None}
use Rattle.std.specs.List.{AllByRecursion, list_any}
use Rattle.proxy.specs.Bids.{greatest_of}
use Rattle.house_rows.specs.Bids.{BidRow, bid_key}
use Rattle.house_rows.specs.Found.{best_of}
use Rattle.house_rows.specs.History.{Key}
use Rattle.house_rows.specs.Tables.{Tables}
use Rattle.house_rows.specs.declared.fault.KeepFault.{KeepFault}
use Rattle.house_rows.specs.declared.fault.KeepFault.TheVariants.{Damaged, Memory}
use Rattle.house_rows.specs.declared.item.OwnBest.{OwnBest}
use Rattle.list_rows.specs.Blocks.{IsBlocked, rows_of, same_key}
use Rattle.list_bids.specs.declared.tally.Tally.{Tally}

-- the key of a member and an item
abbrev pub pair_key : ℕ → ℕ → Key
pair_key member item = record { first = member; second = item; third = 0 }

abbrev pub tally_key : Tally → Key
tally_key tally = pair_key tally.member tally.item

abbrev pub is_own : ℕ → ℕ → BidRow → Bool
is_own member item b = (b.bid.member == member) && (b.item == item)

-- the greatest maximum that a member bid on an item, or 0, and how often it bid
abbrev pub best_among : List BidRow → ℕ → ℕ → OwnBest
best_among rows member item = record {
  maximum = greatest_of (map (λ (b : BidRow). b.bid.maximum) (filter (is_own member item) rows));
  mine = length (filter (is_own member item) rows);
}

-- no bid
abbrev pub no_best : OwnBest
no_best = record { maximum = 0; mine = 0 }

abbrev pub tally_best : Option Tally → OwnBest
tally_best None = no_best
tally_best (Some tally) = tally.best

abbrev pub is_tally : ℕ → ℕ → Tally → Bool
is_tally member item tally = same_key (tally_key tally) (pair_key member item)

-- what the tallies say of a member and an item
abbrev pub tally_in : List Tally → ℕ → ℕ → OwnBest
tally_in tallies member item = tally_best (find (is_tally member item) tallies)

-- bids in blocks by item, tallies in blocks by member, and the tallies say what the bids say
pub record AreTallied {Z : Type 0} (bids : List (Vec BidRow Z)) (tallies : List (Vec Tally Z)) : Type 0 where
  pub bids_blocked : IsBlocked bid_key bids
  pub tallies_blocked : IsBlocked tally_key tallies
  pub report : (member item : ℕ) → tally_in (rows_of tallies) member item ≡ best_among (rows_of bids) member item

-- the items of tallies
abbrev pub numbers_in : List Tally → List ℕ
numbers_in tallies = map (λ (tally : Tally). tally.item) tallies

-- each number is at least the least, and above the one before it
abbrev pub AreRisingFrom : ℕ → List ℕ → Type 0
AreRisingFrom least [] = Unit {0}
AreRisingFrom least (n ∷ ns) = (least ≤ n) × AreRisingFrom (n + 1) ns

-- a member's tallies, by item: each says what it has bid there, and each item on which it has bid
-- has one. A tally may be of no bid
pub record AreTallies (t : Tables) (member : ℕ) (tallies : List Tally) : Type 0 where
  pub of_member : AllByRecursion (λ tally. tally.member ≡ member) tallies
  pub rising : AreRisingFrom 0 (numbers_in tallies)
  pub report : AllByRecursion (λ tally. tally.best ≡ best_of t member tally.item) tallies
  pub complete : (item : ℕ) → 0 < (best_of t member item).mine → list_any (λ n. n == item) (numbers_in tallies) ≡ true

-- why a bid isn't placed: its number is taken, or memory was refused
abbrev pub fault_of : Bool → KeepFault
fault_of true = Damaged
fault_of false = Memory
