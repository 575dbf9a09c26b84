-- What was seen of an item's row and is remembered, so that the row is not looked up again.
use Rattle.std.specs.Prelude.{◌≡◌, ℕ, Option, Some, IfSome, find, option_map}
use Rattle.sqlite_trees.specs.Tree.{Trees}
use Rattle.sqlite.specs.State.{HasCleanDisk, State}
use Rattle.house_rows.specs.Changed.{is_item}
use Rattle.house_rows.specs.Editions.{BandTables}
use Rattle.house_rows.specs.Fits.{TermsFit}
use Rattle.house_rows.specs.Found.{auction_of}
use Rattle.house_rows.specs.Keeping.{IsConsistentBy, IsKeptItemBy}
use Rattle.house_rows.specs.declared.auction.Auction.{Auction}
use Rattle.store_rows.specs.ItemRows.{items_in}

-- the row of the item of a number gives this, which fits and is consistent, also with what is sealed
pub record IsThere (editions : BandTables) (item : ℕ) (seen : Auction) (db : Trees) : Type 0 where
  pub found : option_map auction_of (find (is_item item) (items_in db)) ≡ Some seen
  pub fits : TermsFit seen.terms
  pub is_consistent : IsConsistentBy editions seen.terms
  pub kept : IsKeptItemBy editions seen.terms seen.standing

-- as far as the disk was honest, what was seen last is so, if anything was seen
abbrev pub IsSeen : BandTables → Option Auction → State → Type 0
IsSeen editions seen s = HasCleanDisk s
    → IfSome seen (λ a. IsThere editions a.terms.item a s.now.trees)
