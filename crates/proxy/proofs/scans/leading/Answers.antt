use Rattle.std.proofs.Common.{◌<◌, ◌≤◌, arith}
use Rattle.std.proofs.lemmas.Bool.Decides.{nat_tests}
use Rattle.proxy.proofs.Scanned.{leading_none, first_leads, better_leads, best_leads}
use Rattle.proxy.proofs.scans.leading.Goals as goal
use Rattle.proxy.proofs.scans.leading.Goals.{in-Some, in_default, in_default-via-in-Some+else-le, in_default-via-in_default}

pub loop-bid-init : goal.loop-bid-init
loop-bid-init c = leading_none

pub loop-bid-preserved : goal.loop-bid-preserved
loop-bid-preserved c =
    let lt = c.loop-bid-test.true in let is = c.bid-item.is in
    elim c.match-found.branch [
      | in-Some w ↦ (let le : c.bid-item.result.maximum ≤ w.in-Some.best.maximum = grind (arith, nat_tests) in
          rw w.found-is (best_leads _ _ _ _ lt is (rw w.in-Some.is at c.loop-bid.invariant) le))
      | in_default w ↦ elim w.in_default.branch [
        | in_default-via-in-Some+else-le w' ↦ (let above : w'.in-Some.best.maximum < c.bid-item.result.maximum = grind (arith, nat_tests) in
            rw w.found-is (better_leads _ _ _ _ lt is (rw w'.in-Some.is at c.loop-bid.invariant) above))
        | in_default-via-in_default w' ↦ rw w.found-is (first_leads _ _ _ lt is (rw w'.in_default.is at c.loop-bid.invariant))
      ]
    ]
