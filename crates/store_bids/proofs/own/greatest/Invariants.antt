use Rattle.std.proofs.Common.{◌≡◌, drop, max}
use Rattle.proxy.specs.Bids.{greatest_of, maxima}
use Rattle.store_bids.proofs.own.greatest.Given as goal

abbrev pub invariant-loop-bid : goal.invariant-loop-bid
invariant-loop-bid l = max l.greatest (greatest_of (maxima (drop l.bid-index l.bids))) ≡ greatest_of (maxima l.bids)
