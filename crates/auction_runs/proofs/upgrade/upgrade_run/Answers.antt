use Rattle.auction_runs.proofs.Outcomes.{either_end, end_faults, reported_by, where_done}
use Rattle.auction_runs.proofs.upgrade.upgrade_run.Goals as goal

pub returns-clause-done : goal.returns-clause-done
returns-clause-done g c =
    λ e. where_done c.finish.result (c.finish_run-status.ensures.done.0 e) c.finish.ensures.report

pub returns-clause-ended : goal.returns-clause-ended
returns-clause-ended g c = λ e.
    where_done c.end-ended.result.0 (where_done c.finish.result (c.finish_run-status.ensures.done.0 e)
    c.finish.ensures.ended) c.end-ended.ensures.ended

pub returns-clause-over : goal.returns-clause-over
returns-clause-over g c = either_end c.end-ended.result.0 c.end-ended.ensures.ended c.end-ended.ensures.left

pub returns-clause-reported : goal.returns-clause-reported
returns-clause-reported g c =
    let run = c.finish_run-status.ensures in
    reported_by g.E.Sink _ _ _ _ c.finish.result run.done run.fault run.quiet run.told
    (end_faults g.K.Ends.is_ended g.K.Ends.is_left c.args.keep c.end-ended.result.1
    (g.W.Write.contents c.args.output.now) (g.W.Write.contents c.finish.new.output) c.finish.result
    c.end-ended.result.0 c.finish.ensures.fault c.end-ended.ensures.ended c.end-ended.ensures.left
    c.end-ended.ensures.sound)
