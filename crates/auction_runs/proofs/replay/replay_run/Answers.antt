use Rattle.auction_runs.proofs.Outcomes.{both_faults, reported_by}
use Rattle.auction_runs.proofs.Waits.{with_waits}
use Rattle.auction_runs.proofs.replay.replay_run.Goals as goal

pub returns-clause-reported : goal.returns-clause-reported
returns-clause-reported g c =
    let run = c.finish_run.ensures in
    reported_by g.E.Sink _ _ _ _ c.reply_all.result run.done run.fault run.quiet run.told
    (both_faults _ _ c.reply_all.result (with_waits (g.R.Source.has_failed c.reply_all.new.source)
    (g.W.Sink.has_failed c.reply_all.new.sink) c.reply_all.result c.reply_all.ensures.fault
    c.reply_all.ensures.waits) c.reply_all.ensures.cause)
