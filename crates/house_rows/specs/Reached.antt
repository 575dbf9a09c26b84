-- How far a list of a member's bids reaches, and what has to fit up to there.
use Rattle.std.specs.Prelude.{◌≡◌, ◌≤◌, ◌<◌, ◌^◌, ℕ, true, ◌&&◌, map, nat_le, nat_lt}
use Rattle.std.specs.List.{AllByRecursion}
use Rattle.house_rows.specs.Editions.{BandTables}
use Rattle.house_rows.specs.Fits.{BidRowFits}
use Rattle.house_rows.specs.Found.{all_items, best_of, own_bid}
use Rattle.house_rows.specs.History.{counted}
use Rattle.house_rows.specs.Keeping.{FitsBy}
use Rattle.house_rows.specs.Limits.{most_shown}
use Rattle.house_rows.specs.Tables.{Tables}

-- a member's list from a number on reaches an item: the member has bid on it, and the list shows fewer than fifty before it
pub record IsReached (t : Tables) (member from item : ℕ) : Type 0 where
  pub bid_on : nat_lt 0 (best_of t member item).mine ≡ true
  pub begun : from ≤ item
  pub few : counted (λ b. (nat_lt 0 b.mine && nat_le from b.item) && nat_lt b.item item) (map (own_bid t member) (all_items t)) < most_shown

-- an item's row fits, and so do the member's bids on it
pub record FitsAt (editions : BandTables) (t : Tables) (member item : ℕ) : Type 0 where
  pub row : AllByRecursion (λ row. row.item.terms.item ≡ item → FitsBy editions row) t.items
  pub bids : AllByRecursion (λ b. b.bid.member ≡ member → b.item ≡ item → BidRowFits b) t.bids

-- each item has a number of ours, and what a member's list reaches fits
pub record FitsSoFar (editions : BandTables) (t : Tables) (member from : ℕ) : Type 0 where
  pub numbers : AllByRecursion (λ row. row.item.terms.item < 2 ^ 32) t.items
  pub reached : (item : ℕ) → IsReached t member from item → FitsAt editions t member item
