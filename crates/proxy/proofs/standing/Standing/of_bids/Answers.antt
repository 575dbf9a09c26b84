use Rattle.std.proofs.Common.{ap, length, sym, ◌∙◌}
use Rattle.proxy.specs.Kept.{Kept, opening_of}
use Rattle.proxy.specs.Led.{kept_led}
use Rattle.proxy.proofs.Placed.{scanned}
use Rattle.proxy.proofs.standing.Standing.of_bids.Goals as goal

pub returns-in-Some : goal.returns-in-Some
returns-in-Some c =
    c.with_leader.ensures ∙ ap (λ (k : Kept). kept_led c.args.bands.now (opening_of k) c.in-Some.best.member c.in-Some.best.maximum c.other_greatest-second.result (length c.args.bids.now)) (c.open.ensures c.args.bands.now) ∙ scanned _ _ _ _ _ _ (sym c.in-Some.ensures.leader) (sym c.in-Some.ensures.top) c.other_greatest-second.ensures
