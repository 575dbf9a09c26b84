use Rattle.auction_runs.specs.Lines.{IsTold}
use Rattle.auction_runs.proofs.Rows.{end_told, first_told, none_told}
use Rattle.auction_runs.proofs.import.finish.Goals as goal

pub returns-in-Ok-clause-end_told : goal.returns-in-Ok-clause-end_told
returns-in-Ok-clause-end_told g c = λ done. none_told _ c.args.ended c.in-Ok.ensures.ended

pub returns-in-Err-clause-told : goal.returns-in-Err-clause-told
returns-in-Err-clause-told g c =
    first_told (IsTold g.E.Sink c.args.errors.now c.finish_run.new.errors) c.outcome_after_end.result
    c.args.listed c.in-Err.fault c.in-Err.is c.outcome_after_end.ensures.first
    c.finish_run.ensures.told

pub returns-in-Err-clause-end_told : goal.returns-in-Err-clause-end_told
returns-in-Err-clause-end_told g c =
    end_told (IsTold g.E.Sink c.args.errors.now c.finish_run.new.errors) c.args.listed c.args.ended
    c.in-Err.fault c.in-Err.ensures.fault c.finish_run.ensures.told
