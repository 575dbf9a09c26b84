use Rattle.std.proofs.Common.{◌≡◌, ◌≤◌, ◌++◌, drop, false, flat_map, length, take}
use Rattle.std.specs.List.{AllByRecursion}
use Rattle.sqlite.specs.State.{HasCleanDisk, IsUnchanged, Survives}
use Rattle.sqlite.specs.Held.{state}
use Rattle.house_rows.specs.Fits.{OwnBidFits}
use Rattle.house_rows.specs.Limits.{most_shown}
use Rattle.store_rows.specs.Tables.{tables_in}
use Rattle.store_bids.specs.Listed.{ItemsAreConsistent}
use Rattle.store_bids.specs.OwnBids.{own_found}
use Rattle.store_bids.specs.Reached.{FitInTurn}
use Rattle.store_bids.proofs.bid_lists.add_own_bids.Given as goal

abbrev pub invariant-loop-number : goal.invariant-loop-number
invariant-loop-number g l =
    let old = state g.S.Store l.fn.conn in
    let now = state g.S.Store l.conn in
    let t = tables_in old.now.trees in
    let F = own_found t l.member in
    let Q = ItemsAreConsistent l.rules.editions old.now.trees in
    record {
      survives : Survives old now (λ _. ⊥);
      same : HasCleanDisk now → IsUnchanged old now;
      mode : l.fn.conn.in_transaction ≡ false → l.conn.in_transaction ≡ false;
      found : HasCleanDisk now → take most_shown (l.found.items ++ flat_map F (drop l.number-index l.numbers)) ≡ take most_shown (l.fn.found.items ++ flat_map F l.numbers);
      few : length l.found.items ≤ most_shown;
      fits : AllByRecursion OwnBidFits l.fn.found.items → AllByRecursion OwnBidFits l.found.items;
      is_consistent : HasCleanDisk now → Q l.fn.found.items → Q l.found.items;
      reached : HasCleanDisk now → FitInTurn l.rules.editions t l.member (length l.fn.found.items) l.numbers → FitInTurn l.rules.editions t l.member (length l.found.items) (drop l.number-index l.numbers);
    }
