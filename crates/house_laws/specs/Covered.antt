-- A run in which one bid of the last leader may as well be raised.
use Rattle.std.specs.Prelude.{◌≡◌, ℕ, ◌+◌, ◌-◌, ◌≤◌, ◌<◌, List, ◌∷◌, ◌++◌, false, ◌==◌, Some, None, length, map, take, drop}
use Rattle.proxy.specs.Bids.{bids_by, leader, second, top}
use Rattle.proxy.specs.Surplus.{Covers}
use Rattle.house_rows.specs.declared.command.Command.TheVariants.{Bid}
use Rattle.house_rows.specs.declared.message.Message.{Message}
use Rattle.house_rows.specs.declared.message.Message.TheVariants.{Write}
use Rattle.house_rows.specs.declared.settings.Settings.{Settings}
use Rattle.house_rows.specs.Bids.{bids_on}
use Rattle.house_rows.specs.History.{History}
use Rattle.house_rows.specs.Limits.{most_cents}
use Rattle.house_rows.specs.Listings.{Listing, bands_by, listing_at, listings}
use Rattle.house_rows.specs.Runs.{AreTwins, history_of}
use Rattle.house_rows.specs.Verdict.{verdict}

-- what a bid says: when, who, on which item, and the sealed maximum
pub record Sealed : Type 0 where
  pub moment : ℕ
  pub member : ℕ
  pub item : ℕ
  pub maximum : ℕ

-- the message of such a bid
abbrev pub bid_message : {F : Type 0} → Sealed → Message F
bid_message b = Write b.moment b.member (Bid b.item b.maximum)

-- the same bid with another maximum
abbrev pub with_maximum : ℕ → Sealed → Sealed
with_maximum y b = record { moment = b.moment; member = b.member; item = b.item; maximum = y }

-- a list with another element in a place, which is counted from 1
abbrev pub raised : {A : Type 0} → ℕ → A → List A → List A
raised place x xs = take (place - 1) xs ++ x ∷ drop place xs

-- a bid is accepted over the history before it, and is its bidder's last on its item up to the last history; there its bidder
-- leads, and its maximum covers what leading takes by the item's own band table; and an amount above it fits
pub record IsCoveredBid (settings : Settings) (y : ℕ) (b : Sealed) (before last : History) : Type 0 where
  pub accepted : verdict settings before b.moment b.member (Bid b.item b.maximum) ≡ None
  pub no_more : length (bids_by b.member (bids_on last b.item)) ≡ length (bids_by b.member (bids_on before b.item)) + 1
  pub listing : Listing
  pub listed : listing_at (listings before) b.item ≡ Some listing
  pub leads : leader (bids_on last b.item) ≡ Some b.member
  pub covers : Covers (bands_by settings listing) listing.reserve (second (bids_on last b.item)) b.maximum
  pub above : b.maximum < y
  pub fits : y ≤ most_cents

-- the element in that place of a run, which is counted from 1, means such a bid, and it isn't the member's
pub record IsCovered {A F : Type 0} (meant : A → Message F) (settings : Settings) (c place y : ℕ) (b : Sealed) (xs : List A)
    : Type 0 where
  pub before : List A
  pub here : A
  pub later : List A
  pub parts : xs ≡ before ++ here ∷ later
  pub placed : place ≡ length before + 1
  pub means : meant here ≡ bid_message b
  pub covered : IsCoveredBid settings y b (history_of settings (map meant before)) (history_of settings (map meant xs))
  pub apart : (b.member == c) ≡ false

-- after a history a member leads an item with that maximum, and it covers what leading takes by the item's own band table
pub record LeadsBy (settings : Settings) (h : History) (i w x : ℕ) : Type 0 where
  pub listing : Listing
  pub listed : listing_at (listings h) i ≡ Some listing
  pub led : leader (bids_on h i) ≡ Some w
  pub by : top (bids_on h i) ≡ x
  pub covers : Covers (bands_by settings listing) listing.reserve (second (bids_on h i)) x

-- the element in that place of a run means a bid that isn't the member's, an amount above it fits,
-- and the run in which that amount is in its place is a twin for the member; and in the end the
-- bidder leads by its maximum in the one and by that amount in the other, and both cover what
-- leading takes
pub record IsLedByBoth {A F : Type 0} (meant : A → Message F) (settings : Settings) (c place y : ℕ) (b : Sealed) (xs : List A)
    (other : A) : Type 0 where
  pub before : List A
  pub here : A
  pub later : List A
  pub parts : xs ≡ before ++ here ∷ later
  pub placed : place ≡ length before + 1
  pub means : meant here ≡ bid_message b
  pub above : b.maximum < y
  pub fits : y ≤ most_cents
  pub apart : (b.member == c) ≡ false
  pub twins : AreTwins meant settings c xs (raised place other xs)
  pub left : LeadsBy settings (history_of settings (map meant xs)) b.item b.member b.maximum
  pub right : LeadsBy settings (history_of settings (map meant (raised place other xs))) b.item b.member y
