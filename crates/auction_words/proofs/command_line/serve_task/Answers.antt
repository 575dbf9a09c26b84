use Rattle.auction_words.specs.Tasks.{rows_in}
use Rattle.auction_words.proofs.AskedLemmas.{on_err, only_serve}
use Rattle.auction_words.proofs.command_line.serve_task.Goals as goal

pub returns-in_err-port-clause-refused : goal.returns-in_err-port-clause-refused
returns-in_err-port-clause-refused c = on_err c.from_residual-in_err-port.result _ (only_serve (rows_in c.args.words.now)
    (λ file asked asks within. c.in_err-port.ensures.missing asked.port asks.2 within.0))

pub returns-in_err-count-clause-refused : goal.returns-in_err-count-clause-refused
returns-in_err-count-clause-refused c = on_err c.from_residual-in_err-count.result _ (only_serve (rows_in c.args.words.now)
    (λ file asked asks within. c.in_err-count.ensures.missing asked.count asks.3 within.1))
