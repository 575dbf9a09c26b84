use Rattle.std.proofs.Common.{◌≡◌, ◌≤◌, ◌-◌, ◌^◌, ◌++◌, false, length, take}
use Rattle.std.specs.List.{AllByRecursion}
use Rattle.sqlite.specs.State.{HasCleanDisk, IsUnchanged, Survives}
use Rattle.sqlite.specs.Held.{state}
use Rattle.house_rows.specs.Fits.{OwnBidFits}
use Rattle.house_rows.specs.Limits.{most_shown}
use Rattle.store_bids.specs.Listed.{ItemsAreConsistent}
use Rattle.store_bids.specs.OwnBids.{found_from}
use Rattle.store_bids.specs.Reached.{FitFrom}
use Rattle.store_bids.proofs.bid_pages.own_bids_from.Given as goal

abbrev pub invariant-bids : goal.invariant-bids
invariant-bids g l =
    let old = state g.S.Store l.fn.conn in
    let now = state g.S.Store l.conn in
    record {
      survives : Survives old now (λ _. ⊥);
      same : HasCleanDisk now → IsUnchanged old now;
      mode : l.fn.conn.in_transaction ≡ false → l.conn.in_transaction ≡ false;
      found : HasCleanDisk now → take most_shown (l.found.items ++ found_from old.now.trees l.member l.next) ≡ take most_shown (found_from old.now.trees l.member l.from);
      few : length l.found.items ≤ most_shown;
      fits : AllByRecursion OwnBidFits l.found.items;
      is_consistent : HasCleanDisk now → ItemsAreConsistent l.rules.editions old.now.trees l.found.items;
      reached : HasCleanDisk now → FitFrom l.rules.editions old.now.trees l.member 0 l.from → FitFrom l.rules.editions old.now.trees l.member (length l.found.items) l.next;
    }

abbrev pub decreases-bids : goal.decreases-bids
decreases-bids g l = 2 ^ 32 - l.next
