use Rattle.std.proofs.Common.{◌∙◌, ap, fold, refl}
use Rattle.std.proofs.lemmas.Result.{IfOk-weaker}
use Rattle.clap.specs.Words.{App, with_rule}
use Rattle.auction_words.specs.CommandLine.{setup_rules}
use Rattle.auction_words.proofs.CommandLemmas.{with_argument}
use Rattle.auction_words.proofs.commands.replay_command.Goals as goal

pub returns : goal.returns
returns c =
    let with_preset = with_argument c.in_ok-arg.ensures c.subcommand.ensures c.flag.ensures refl in
    let with_record = with_argument c.in_ok-command.ensures with_preset c.flag-2.ensures refl in
    IfOk-weaker c.with_setup.result _ _ (λ command set_up. ap (λ (app : App). app.top) (set_up ∙ ap (λ (app : App). fold with_rule app setup_rules) with_record)) c.with_setup.ensures
