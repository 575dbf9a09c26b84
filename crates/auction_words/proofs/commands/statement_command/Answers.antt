use Rattle.std.proofs.Common.{refl}
use Rattle.auction_words.proofs.CommandLemmas.{last_argument, with_argument}
use Rattle.auction_words.proofs.commands.statement_command.Goals as goal

pub returns : goal.returns
returns c =
    let with_file = with_argument c.in_ok-arg.ensures c.subcommand.ensures c.house_file.ensures refl in
    let with_member = with_argument c.in_ok-arg-2.ensures with_file c.required_option.ensures refl in
    let with_from = with_argument c.in_ok-arg-3.ensures with_member c.required_option-2.ensures refl in
    let with_to = with_argument c.in_ok-arg-4.ensures with_from c.required_option-3.ensures refl in
    last_argument c.arg-5.result _ _ c.arg-5.ensures with_to c.flag.ensures refl
