use Rattle.std.proofs.Common.{◌∙◌, arith}
use Rattle.clap.specs.Matches.{found_of}
use Rattle.clap.proofs.WalkLemmas.{first_value-rows}
use Rattle.auction_words.proofs.AskedLemmas.{on_err}
use Rattle.auction_words.proofs.command_line.house_words.Goals as goal

pub returns-in_err-rate-clause-refused : goal.returns-in_err-rate-clause-refused
returns-in_err-rate-clause-refused c = on_err c.from_residual.result _
    (λ house asked within. c.in_err-rate.ensures.missing house.rate asked.rate (omega arith, within))

pub returns-in_ok-text-in-Some-clause-asked : goal.returns-in_ok-text-in-Some-clause-asked
returns-in_ok-text-in-Some-clause-asked c = record {
  bands = c.get_str.ensures ∙ first_value-rows (found_of c.args.words.now) _;
  rate = rw c.in-Some.ensures.value c.in_ok-rate.ensures.value;
  zone = c.in_ok-text-in-Some.ensures.value;
}
