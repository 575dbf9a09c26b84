use Rattle.std.proofs.Common.{◌++◌}
use Rattle.std.proofs.KnownBytes.{Appends-trans}
use Rattle.auction_runs.proofs.Replays.{front_begins, then_begins}
use Rattle.auction_runs.proofs.line.give_parts.Goals as goal

pub returns-in_err-give_all-2-clause-part : goal.returns-in_err-give_all-2-clause-part
returns-in_err-give_all-2-clause-part g c =
    front_begins _ _ (c.args.first.now ++ c.args.second.now) c.args.third.now
    (then_begins _ _ _ c.args.first.now c.args.second.now c.in_ok-give_all.ensures.whole
    c.give_all-2.ensures.part)

pub returns-clause-part : goal.returns-clause-part
returns-clause-part g c = then_begins _ _ _ (c.args.first.now ++ c.args.second.now) c.args.third.now
    (Appends-trans _ _ _ c.args.first.now c.args.second.now c.in_ok-give_all.ensures.whole
    c.in_ok-give_all-2.ensures.whole) c.give_all-3.ensures.part
