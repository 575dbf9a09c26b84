use Rattle.auction_runs.proofs.Stated.{unmade}
use Rattle.auction_runs.proofs.statement.make_statement.Goals as goal

pub returns-clause-fault : goal.returns-clause-fault
returns-clause-fault g c =
    let read = c.read_statement-made.ensures in
    unmade g.K.Keep g.K.Ends.is_ended g.K.Ends.is_left c.args.asked c.args.keep
    c.read_statement-made.new.keep c.end-ended.result.1 c.outcome_after_end.result
    c.read_statement-made.result c.end-ended.result.0 c.outcome_after_end.ensures.fault
    c.outcome_after_end.ensures.first read.fault read.shown read.read c.end-ended.ensures.ended
    c.end-ended.ensures.left c.end-ended.ensures.sound
