use Rattle.std.proofs.Common.{◌≡◌, ◌++◌, drop}
use Rattle.store_bids.specs.OwnBids.{numbers_from}
use Rattle.store_bids.proofs.bid_pages.numbers_from.Given as goal

abbrev pub invariant-loop-item : goal.invariant-loop-item
invariant-loop-item l = l.numbers.items ++ numbers_from l.least (drop l.item-index l.items) ≡ numbers_from l.from l.items
