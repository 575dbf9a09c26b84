use Rattle.auction_words.specs.Tasks.{rows_in}
use Rattle.auction_words.proofs.AskedLemmas.{on_err, only_audit}
use Rattle.auction_words.proofs.command_line.audit_task.Goals as goal

pub returns-in_err-member-clause-refused : goal.returns-in_err-member-clause-refused
returns-in_err-member-clause-refused c = on_err c.from_residual-in_err-member.result _ (only_audit (rows_in c.args.words.now)
    (λ begun asked asks within. c.in_err-member.ensures.refused asked.member asks.3 within.1))
