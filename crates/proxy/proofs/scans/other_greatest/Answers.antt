use Rattle.std.proofs.Common.{arith}
use Rattle.std.proofs.lemmas.Bool.Decides.{nat_tests}
use Rattle.proxy.proofs.Scanned.{others_more}
use Rattle.proxy.proofs.scans.other_greatest.Goals as goal
use Rattle.proxy.proofs.scans.other_greatest.Goals.{then-bid-leader, else-bid-leader}

-- the bid joins those that were read
pub loop-bid-preserved : goal.loop-bid-preserved
loop-bid-preserved c =
    let more = others_more c.args.leader c.args.bids.now c.loop-bid.bid-index c.bid-item.result c.loop-bid-test.true in
    elim c.if-bid-leader.branch [ then-bid-leader w ↦ grind (arith, nat_tests, more, c.bid-item.is) | else-bid-leader w ↦ grind (arith, nat_tests, more, c.bid-item.is) ]
