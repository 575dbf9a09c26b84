-- A member's list, by the tables that a database holds.
use Rattle.std.proofs.Common.{◌≡◌, ◌≤◌, ◌<◌, ◌^◌, ℕ, List, length, take}
use Rattle.std.specs.List.{AllByRecursion}
use Rattle.sqlite_trees.specs.Tree.{IsAscending}
use Rattle.sqlite.specs.Effect.{Database}
use Rattle.house_rows.specs.Bids.{bid_key}
use Rattle.house_rows.specs.Found.{own_bids}
use Rattle.house_rows.specs.Limits.{most_shown}
use Rattle.house_rows.specs.declared.item.OwnBid.{OwnBid}
use Rattle.house_rows.specs.Editions.{BandTables}
use Rattle.store_rows.specs.House.{IsHouse}
use Rattle.store_rows.specs.ItemRows.{items_in}
use Rattle.store_rows.specs.Rows.{bids_in}
use Rattle.store_rows.specs.Sorted.{sorted_bids}
use Rattle.store_rows.specs.Tables.{tables_in}
use Rattle.store_rows.proofs.Grouped.{firsts_rise}
use Rattle.store_rows.proofs.Sorting.{sorted_in_order}
use Rattle.store_items.proofs.ItemRising.{items_rise, number_of}
use Rattle.store_bids.specs.OwnBids.{found_from}
use Rattle.house_rows.specs.Reached.{FitsSoFar}
use Rattle.store_bids.specs.Reached.{FitFrom}
use Rattle.store_bids.proofs.OwnBidItems.{all_in_turn, fewer, full}

module _ (db : Database) (member from : ℕ) (house : IsHouse db) where
  abbrev found_first : List OwnBid
  found_first = take most_shown (found_from db.trees member from)

  pub own_full : (shown : List OwnBid) → IsAscending (λ a b. number_of a ≤ number_of b) (items_in db.trees) → shown ≡ found_first → most_shown ≤ length shown → shown ≡ own_bids (tables_in db.trees) member from
  unfolding tables_in
  own_full shown up are many =
      full (tables_in db.trees) member from (items_rise db house) (firsts_rise bid_key (sorted_bids db.trees) (sorted_in_order bid_key (bids_in db.trees))) shown up are many

  pub own_fewer : (shown : List OwnBid) → AllByRecursion (λ row. number_of row < 2 ^ 32) (items_in db.trees) → shown ≡ found_first → shown ≡ own_bids (tables_in db.trees) member from
  unfolding tables_in
  own_fewer shown ours are =
      fewer (tables_in db.trees) member from (items_rise db house) (firsts_rise bid_key (sorted_bids db.trees) (sorted_in_order bid_key (bids_in db.trees))) ours shown are

  pub own_ours : (editions : BandTables) → FitsSoFar editions (tables_in db.trees) member from → AllByRecursion (λ row. number_of row < 2 ^ 32) (items_in db.trees)
  unfolding tables_in
  own_ours editions fit = fit.numbers

  pub own_in_turn : (editions : BandTables) → FitsSoFar editions (tables_in db.trees) member from → FitFrom editions db.trees member 0 from
  unfolding tables_in
  own_in_turn editions fit =
      all_in_turn (tables_in db.trees) member from (items_rise db house) (firsts_rise bid_key (sorted_bids db.trees) (sorted_in_order bid_key (bids_in db.trees))) fit.numbers editions fit
