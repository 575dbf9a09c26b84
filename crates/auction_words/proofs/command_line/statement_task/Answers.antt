use Rattle.std.proofs.Common.{codes, refl}
use Rattle.clap.specs.Matches.{found_of}
use Rattle.auction_words.specs.Tasks.{rows_in}
use Rattle.auction_words.proofs.AskedLemmas.{flag_read, on_err, only_statement}
use Rattle.auction_words.proofs.command_line.statement_task.Goals as goal

pub returns-in_err-member-clause-refused : goal.returns-in_err-member-clause-refused
returns-in_err-member-clause-refused c = on_err c.from_residual-in_err-member.result _ (only_statement (rows_in c.args.words.now)
    (λ file asked asks within. c.in_err-member.ensures.refused asked.member asks.2 within))

pub returns-clause-asked : goal.returns-clause-asked
returns-clause-asked c = (
  refl,
  c.in_ok-file.ensures.value,
  c.in_ok-member.ensures.asked,
  c.in_ok-text.ensures.value,
  c.in_ok-text-2.ensures.value,
  flag_read (found_of c.args.words.now) (codes "csv") c.get_flag.result c.get_flag.ensures.none
      c.get_flag.ensures.value c.get_flag.ensures.other,
)
