use Rattle.auction_runs.proofs.Tabled.{untabled}
use Rattle.auction_runs.proofs.bands.set.Goals as goal

pub returns-clause-fault : goal.returns-clause-fault
returns-clause-fault g c =
    untabled g.K.Keep.content g.K.Keep.is_failed g.K.Keep.is_honest g.K.Keep.may_leave
    g.K.Ends.is_ended g.K.Ends.is_left c.args.moment c.args.command.now c.args.keep
    c.set_bands-edition.new.keep c.end-ended.result.1 c.outcome_after_end.result
    c.set_bands-edition.result c.end-ended.result.0 c.outcome_after_end.ensures.fault
    c.outcome_after_end.ensures.first c.set_bands-edition.ensures.fault
    c.set_bands-edition.ensures.done c.end-ended.ensures.ended c.end-ended.ensures.left
    c.end-ended.ensures.sound
