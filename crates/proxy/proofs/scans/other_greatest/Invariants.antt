use Rattle.std.proofs.Common.{◌≡◌, take}
use Rattle.proxy.specs.Bids.{greatest_if_any, maxima, bids_not_by}
use Rattle.proxy.proofs.scans.other_greatest.Given as goal

-- what was found is the greatest of those that were read
abbrev pub invariant-loop-bid : goal.invariant-loop-bid
invariant-loop-bid l = l.found ≡ greatest_if_any (maxima (bids_not_by l.leader (take l.bid-index l.bids)))
