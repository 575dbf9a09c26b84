use Rattle.std.proofs.Common.{refl}
use Rattle.auction_words.proofs.CommandLemmas.{last_argument, with_argument}
use Rattle.auction_words.proofs.commands.serve_command.Goals as goal

pub returns : goal.returns
returns c =
    let with_file = with_argument c.in_ok-arg.ensures c.subcommand.ensures c.house_file.ensures refl in
    let with_port = with_argument c.in_ok-arg-2.ensures with_file c.required_option.ensures refl in
    last_argument c.arg-3.result _ _ c.arg-3.ensures with_port c.required_option-2.ensures refl
