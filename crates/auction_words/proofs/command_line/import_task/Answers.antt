use Rattle.std.proofs.Common.{arith}
use Rattle.auction_words.specs.Tasks.{rows_in}
use Rattle.auction_words.proofs.AskedLemmas.{on_err, only_import}
use Rattle.auction_words.proofs.command_line.import_task.Goals as goal

pub returns-in_err-member-clause-refused : goal.returns-in_err-member-clause-refused
returns-in_err-member-clause-refused c = on_err c.from_residual-in_err-member.result _ (only_import (rows_in c.args.words.now)
    (λ file asked asks within. c.in_err-member.ensures.refused asked.member asks.3 within.0))

pub returns-in_err-number-clause-refused : goal.returns-in_err-number-clause-refused
returns-in_err-number-clause-refused c = on_err c.from_residual-in_err-number.result _ (only_import (rows_in c.args.words.now)
    (λ file asked asks within. c.in_err-number.ensures.missing asked.moment asks.4 (omega arith, within.1)))
