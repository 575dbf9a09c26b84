use Rattle.std.proofs.Common.{[], ◌∷◌}
use Rattle.auction_runs.proofs.Replays.{all_begins, then_begins}
use Rattle.auction_runs.proofs.replay.give_record.Goals as goal

pub returns-in_err-give_all-2-clause-part : goal.returns-in_err-give_all-2-clause-part
returns-in_err-give_all-2-clause-part g c =
    then_begins _ _ _ c.args.text.now (10 ∷ []) c.in_ok-give_all.ensures.whole
    c.give_all-2.ensures.part

pub returns-clause-part : goal.returns-clause-part
returns-clause-part g c = then_begins _ _ _ c.args.text.now (10 ∷ [])
    c.in_ok-give_all.ensures.whole
    (all_begins _ _ _ (10 ∷ []) c.in_ok-give_all-2.ensures.whole c.flush.ensures.bytes)
