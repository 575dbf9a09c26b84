-- What the look-ups of bids answer of the rows, and which rows they take.
use Rattle.std.specs.Prelude.{◌≡◌, ◌++◌, ℕ, List, length, take, Option, IfSome}
use Rattle.std.specs.List.{AllByRecursion}
use Rattle.sqlite_trees.specs.Tree.{Trees}
use Rattle.house_rows.specs.Bids.{BidRow}
use Rattle.house_rows.specs.Editions.{BandTables}
use Rattle.house_rows.specs.Fits.{BidRowFits}
use Rattle.house_rows.specs.Limits.{most_shown}
use Rattle.house_rows.specs.declared.item.OwnBid.{OwnBid}
use Rattle.store_rows.specs.Joined.{found_of}
use Rattle.store_rows.specs.Tables.{tables_in}
use Rattle.store_items.specs.ConsistentRows.{ItemStands}
use Rattle.store_bids.specs.OwnBids.{found_from, own_found}
use Rattle.store_bids.specs.Reached.{FitFrom}

-- of some bids those of a member on an item fit
abbrev pub OwnBidsFit : ℕ → ℕ → List BidRow → Type 0
OwnBidsFit member item bids = AllByRecursion (λ (b : BidRow). b.bid.member ≡ member → b.item ≡ item → BidRowFits b) bids

-- the items of which these tell are consistent, if they are there, also with what is sealed of them
abbrev pub ItemsAreConsistent : BandTables → Trees → List OwnBid → Type 0
ItemsAreConsistent editions db bids = AllByRecursion (λ (b : OwnBid). ItemStands editions db b.item) bids

-- what a member has bid on an item, if it has
pub record IsOwnBid (editions : BandTables) (member item : ℕ) (db : Trees) (bid : Option OwnBid) : Type 0 where
  pub value : found_of bid ≡ own_found (tables_in db) member item
  pub is_consistent : IfSome bid (λ b. ItemStands editions db b.item)

-- what is found is what was looked for
pub record AreOwnBids (editions : BandTables) (db : Trees) (found wanted : List OwnBid) : Type 0 where
  pub value : found ≡ wanted
  pub is_consistent : ItemsAreConsistent editions db found

-- the same of what was found so far and of what it becomes
pub record BecomesOwnBids (editions : BandTables) (db : Trees) (old new wanted : List OwnBid) : Type 0 where
  pub value : new ≡ wanted
  pub is_consistent : ItemsAreConsistent editions db old → ItemsAreConsistent editions db new

-- a part of a member's bids, from a number on, was looked at: with those from the next number on all comes to the same
pub record GoesOnAt (editions : BandTables) (member from : ℕ) (old : List OwnBid) (db : Trees) (next : ℕ) (new : List OwnBid) : Type 0 where
  pub value : take most_shown (new ++ found_from db member next) ≡ take most_shown (old ++ found_from db member from)
  pub is_consistent : ItemsAreConsistent editions db old → ItemsAreConsistent editions db new
  pub fit : FitFrom editions db member (length old) from → FitFrom editions db member (length new) next
