use Rattle.auction_runs.proofs.Outcomes.{reported_by}
use Rattle.auction_runs.proofs.Stated.{unstated}
use Rattle.auction_runs.proofs.statement.statement_run.Goals as goal

pub returns-clause-reported : goal.returns-clause-reported
returns-clause-reported g c =
    let run = c.finish_run-status.ensures in
    reported_by g.E.Sink _ _ _ _ c.write_made.result run.done run.fault run.quiet run.told
    (unstated g.K.Keep (λ last. g.K.Ends.is_ended last c.make_statement-made.result.1)
    (λ last. g.K.Ends.is_left last c.make_statement-made.result.1) c.args.asked
    (g.W.Sink.has_failed c.write_made.new.sink) (g.W.Sink.taken c.args.sink.now)
    (g.W.Sink.taken c.write_made.new.sink) c.args.keep c.make_statement-made.result.0
    c.write_made.result c.write_made.ensures.fault c.make_statement-made.ensures.fault
    c.make_statement-made.ensures.made c.write_made.ensures.part)
