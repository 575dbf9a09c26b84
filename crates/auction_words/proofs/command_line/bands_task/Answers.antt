use Rattle.std.proofs.Common.{arith}
use Rattle.auction_words.specs.Tasks.{rows_in}
use Rattle.auction_words.proofs.AskedLemmas.{on_err, only_bands}
use Rattle.auction_words.proofs.command_line.bands_task.Goals as goal

pub returns-in_err-moment-clause-refused : goal.returns-in_err-moment-clause-refused
returns-in_err-moment-clause-refused c = on_err c.from_residual-in_err-moment.result _ (only_bands (rows_in c.args.words.now)
    (λ file asked asks within. c.in_err-moment.ensures.missing asked.moment asks.3 (omega arith, within)))
