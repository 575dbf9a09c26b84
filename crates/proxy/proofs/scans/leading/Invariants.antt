use Rattle.std.proofs.Common.{take}
use Rattle.proxy.proofs.Scanned.{IsLeading}
use Rattle.proxy.proofs.scans.leading.Given as goal

-- what was found leads the bids that were read
abbrev pub invariant-loop-bid : goal.invariant-loop-bid
invariant-loop-bid l = IsLeading l.found (take l.bid-index l.bids)
