use Rattle.std.proofs.Common.{◌≡◌, refl, rules, codes}
use Rattle.clap.specs.Words.{rule_of}
use Rattle.auction_words.specs.CommandLine.{required_rule}
use Rattle.auction_words.proofs.CommandLemmas.{last_argument, with_argument}
use Rattle.auction_words.proofs.commands.init_command.Goals as goal

pub returns : goal.returns
returns c =
    let bands : rule_of c.required.result ≡ required_rule (codes "bands") = search rules in
    let rate : rule_of c.required-2.result ≡ required_rule (codes "rate") = search rules in
    let zone : rule_of c.required-3.result ≡ required_rule (codes "zone") = search rules in
    let with_file = with_argument c.in_ok-arg.ensures c.subcommand.ensures c.file.ensures refl in
    let with_bands = with_argument c.in_ok-arg-2.ensures with_file bands refl in
    let with_rate = with_argument c.in_ok-arg-3.ensures with_bands rate refl in
    last_argument c.arg-4.result _ _ c.arg-4.ensures with_rate zone refl
