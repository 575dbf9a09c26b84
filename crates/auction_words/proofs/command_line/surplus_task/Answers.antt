use Rattle.std.proofs.Common.{arith}
use Rattle.auction_words.specs.Tasks.{rows_in}
use Rattle.auction_words.proofs.AskedLemmas.{on_err, only_surplus}
use Rattle.auction_words.proofs.command_line.surplus_task.Goals as goal

pub returns-in_err-number-clause-refused : goal.returns-in_err-number-clause-refused
returns-in_err-number-clause-refused c = on_err c.from_residual-in_err-number.result _ (only_surplus (rows_in c.args.words.now)
    (λ begun asked asks within. c.in_err-number.ensures.missing asked.place asks.2 within.1))

pub returns-in_err-number-2-clause-refused : goal.returns-in_err-number-2-clause-refused
returns-in_err-number-2-clause-refused c = on_err c.from_residual-in_err-number-2.result _ (only_surplus (rows_in c.args.words.now)
    (λ begun asked asks within. c.in_err-number-2.ensures.missing asked.maximum asks.3 (omega arith, within.2)))

pub returns-in_err-member-clause-refused : goal.returns-in_err-member-clause-refused
returns-in_err-member-clause-refused c = on_err c.from_residual-in_err-member.result _ (only_surplus (rows_in c.args.words.now)
    (λ begun asked asks within. c.in_err-member.ensures.refused asked.member asks.4 within.3))
