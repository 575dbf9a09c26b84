use Rattle.std.proofs.Common.{◌≡◌, ◌<◌, ◌≤◌, Some, arith, sym, ap, ◌∙◌, ◌+◌}
use Rattle.std.proofs.lemmas.Bool.Decides.{nat_tests}
use Rattle.proxy.specs.Kept.{Kept, opening_of}
use Rattle.proxy.specs.Led.{kept_led}
use Rattle.proxy.proofs.Leads.{none_leads, no_top}
use Rattle.proxy.proofs.Placed.{opened_from, raised_from, overtaken_from, held_from}
use Rattle.proxy.proofs.standing.Standing.with.Goals as goal
use Rattle.proxy.proofs.standing.Standing.with.Goals.{in_default-via-in-Some-Some+else-leader-member, in_default-via-in-Some+in_default, in_default-via-in_default}

pub returns-then-lt : goal.returns-then-lt
returns-then-lt c = λ bids e.
    let lt : c.in-Some-Some.top < c.args.maximum = grind (arith, nat_tests) in
    c.with_leader.ensures ∙ ap (λ (k : Kept). kept_led c.args.bands.now (opening_of k) c.args.member c.args.maximum (Some c.in-Some-Some.top) (c.self.inside.count + 1)) (sym c.self.view_is) ∙ overtaken_from _ _ _ bids _ _ _ _ (c.self.view_is ∙ e) c.in-Some-Some.is-0 c.if-leader-member.true c.in-Some-Some.is-1 lt

pub returns-else-lt : goal.returns-else-lt
returns-else-lt c = λ bids e.
    let le : c.args.maximum ≤ c.in-Some-Some.top = grind (arith, nat_tests) in
    c.with_leader-else-lt.ensures ∙ ap (λ (k : Kept). kept_led c.args.bands.now (opening_of k) c.in-Some-Some.leader c.in-Some-Some.top (Some c.greatest_with-second.result) (c.self.inside.count + 1)) (sym c.self.view_is) ∙ held_from _ _ _ bids _ _ _ _ _ (c.self.view_is ∙ e) c.in-Some-Some.is-0 c.if-leader-member.true c.in-Some-Some.is-1 le c.greatest_with-second.ensures

pub returns-in_default : goal.returns-in_default
returns-in_default c = λ bids e.
    let kept = c.self.view_is ∙ e in
    elim c.in_default.branch [
      | in_default-via-in-Some-Some+else-leader-member w ↦ (let led = w.in-Some-Some.is-0 ∙ ap Some w.if-leader-member.false in
          let now : c.args.self.now.leader ≡ Some c.args.member = ap (λ (s : Kept). s.leader) (sym c.self.view_is) ∙ led in
          let is : c.args.self.now.top ≡ Some w.in-Some-Some.top = ap (λ (s : Kept). s.top) (sym c.self.view_is) ∙ w.in-Some-Some.is-1 in
          c.with_leader-in_default.ensures ∙ ap (λ (k : Kept). kept_led c.args.bands.now (opening_of k) c.args.member c.args.maximum c.self.inside.second (c.self.inside.count + 1)) (sym c.self.view_is) ∙ raised_from _ _ _ bids _ _ _ kept led w.in-Some-Some.is-1 (rw is at (c.requires.raised now)))
      | in_default-via-in-Some+in_default w ↦ c.with_leader-in_default.ensures ∙ ap (λ (k : Kept). kept_led c.args.bands.now (opening_of k) c.args.member c.args.maximum c.self.inside.second (c.self.inside.count + 1)) (sym c.self.view_is) ∙ opened_from _ _ _ bids _ _ kept (no_top bids (sym (ap (λ (s : Kept). s.top) kept) ∙ w.in_default.is-1))
      | in_default-via-in_default w ↦ c.with_leader-in_default.ensures ∙ ap (λ (k : Kept). kept_led c.args.bands.now (opening_of k) c.args.member c.args.maximum c.self.inside.second (c.self.inside.count + 1)) (sym c.self.view_is) ∙ opened_from _ _ _ bids _ _ kept (none_leads bids (sym (ap (λ (s : Kept). s.leader) kept) ∙ w.in_default.is-0))
    ]
