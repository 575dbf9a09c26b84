use Rattle.std.proofs.Common.{◌≡◌, refl, rules, codes}
use Rattle.clap.specs.Words.{rule_of}
use Rattle.auction_words.specs.CommandLine.{required_rule}
use Rattle.auction_words.proofs.CommandLemmas.{last_argument, with_argument}
use Rattle.auction_words.proofs.commands.import_command.Goals as goal

pub returns : goal.returns
returns c =
    let moment : rule_of c.long_help.result ≡ required_rule (codes "moment") = search rules in
    let with_file = with_argument c.in_ok-arg.ensures c.subcommand.ensures c.house_file.ensures refl in
    let with_lots = with_argument c.in_ok-arg-2.ensures with_file c.file.ensures refl in
    let with_member = with_argument c.in_ok-arg-3.ensures with_lots c.required_option.ensures refl in
    last_argument c.arg-4.result _ _ c.arg-4.ensures with_member moment refl
