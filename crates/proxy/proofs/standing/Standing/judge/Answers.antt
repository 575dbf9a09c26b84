use Rattle.std.proofs.Common.{◌≡◌, ◌≢◌, ◌<◌, ◌≤◌, Some, IfSome, arith, rules}
use Rattle.std.proofs.lemmas.Bool.Decides.{nat_tests}
use Rattle.proxy.proofs.Judged.{not_higher, higher, met}
use Rattle.proxy.proofs.standing.Standing.judge.Goals as goal
use Rattle.proxy.proofs.standing.Standing.judge.Goals.{then-eq+else-is_some_and, else-eq+else-value-floor}

pub returns-then-is_some_and-clause-verdict : goal.returns-then-is_some_and-clause-verdict
returns-then-is_some_and-clause-verdict c = λ bids e.
    let led : c.args.self.now.leader ≡ Some c.args.member = search rules in
    let low : IfSome c.args.self.now.top (λ t. c.args.maximum ≤ t) = search rules in
    not_higher _ _ _ bids _ _ e led low

pub returns-then-self-ge-MOST_BIDS-clause-verdict : goal.returns-then-self-ge-MOST_BIDS-clause-verdict
returns-then-self-ge-MOST_BIDS-clause-verdict c = λ bids e.
    let many : 10000 ≤ c.args.self.now.count = search rules in
    elim c.if-eq.branch [
      | then-eq+else-is_some_and w ↦ (let led : c.args.self.now.leader ≡ Some c.args.member = search rules in
          let high : IfSome c.args.self.now.top (λ t. t < c.args.maximum) = search rules in
          grind (arith, nat_tests, higher _ _ _ bids _ _ e led high))
      | else-eq+else-value-floor w ↦ (let ne : c.args.self.now.leader ≢ Some c.args.member = search rules in
          let ge : w.floor-floor.result ≤ c.args.maximum = search rules in
          grind (arith, nat_tests, met _ _ _ bids _ _ _ e ne (w.floor-floor.ensures.by_bids bids e) ge))
    ]

pub returns-clause-verdict : goal.returns-clause-verdict
returns-clause-verdict c = λ bids e.
    let few : c.args.self.now.count < 10000 = search rules in
    elim c.if-eq.branch [
      | then-eq+else-is_some_and w ↦ (let led : c.args.self.now.leader ≡ Some c.args.member = search rules in
          let high : IfSome c.args.self.now.top (λ t. t < c.args.maximum) = search rules in
          grind (arith, nat_tests, higher _ _ _ bids _ _ e led high))
      | else-eq+else-value-floor w ↦ (let ne : c.args.self.now.leader ≢ Some c.args.member = search rules in
          let ge : w.floor-floor.result ≤ c.args.maximum = search rules in
          grind (arith, nat_tests, met _ _ _ bids _ _ _ e ne (w.floor-floor.ensures.by_bids bids e) ge))
    ]
