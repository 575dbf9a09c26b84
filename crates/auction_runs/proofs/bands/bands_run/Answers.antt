use Rattle.house_rows.specs.declared.command.Command.TheVariants as command
use Rattle.auction_runs.proofs.Outcomes.{both_of, reported_by}
use Rattle.auction_runs.proofs.Tabled.{untold}
use Rattle.auction_runs.proofs.bands.bands_run.Goals as goal

pub returns-clause-set : goal.returns-clause-set
returns-clause-set g c = λ e.
    let found = both_of c.set-edition.result.0 c.write_outcome.result (c.finish_run-status.ensures.done.0 e)
    c.write_outcome.ensures.set c.write_outcome.ensures.report c.set-edition.ensures.set in
    record { edition = found.0; set = found.2; printed = found.1 }

pub returns-clause-reported : goal.returns-clause-reported
returns-clause-reported g c =
    let run = c.finish_run-status.ensures in
    reported_by g.E.Sink _ _ _ _ c.write_outcome.result run.done run.fault run.quiet run.told
    (untold g.K.Keep.content g.K.Keep.is_failed g.K.Keep.is_honest g.K.Keep.may_leave
    (λ last. g.K.Ends.is_ended last c.set-edition.result.1)
    (λ last. g.K.Ends.is_left last c.set-edition.result.1) c.args.moment
    (command.SetBands c.args.bands) (g.W.Write.contents c.args.output.now)
    (g.W.Write.contents c.write_outcome.new.output) c.args.keep c.set-edition.result.0
    c.write_outcome.result
    c.write_outcome.ensures.fault c.set-edition.ensures.fault c.set-edition.ensures.set)
