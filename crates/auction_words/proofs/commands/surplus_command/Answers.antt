use Rattle.std.proofs.Common.{◌∙◌, ap, fold, refl}
use Rattle.std.proofs.lemmas.Result.{IfOk-weaker}
use Rattle.clap.specs.Words.{App, with_rule}
use Rattle.auction_words.specs.CommandLine.{setup_rules}
use Rattle.auction_words.proofs.CommandLemmas.{with_argument}
use Rattle.auction_words.proofs.commands.surplus_command.Goals as goal

pub returns : goal.returns
returns c =
    let with_list = with_argument c.in_ok-arg.ensures c.subcommand.ensures c.file.ensures refl in
    let with_place = with_argument c.in_ok-arg-2.ensures with_list c.required_option.ensures refl in
    let with_maximum = with_argument c.in_ok-arg-3.ensures with_place c.required_option-2.ensures refl in
    let with_member = with_argument c.in_ok-arg-4.ensures with_maximum c.looker.ensures refl in
    let with_house = with_argument c.in_ok-command.ensures with_member c.in_ok-begun_house.ensures.rule refl in
    IfOk-weaker c.with_setup.result _ _ (λ command set_up. ap (λ (app : App). app.top) (set_up ∙ ap (λ (app : App). fold with_rule app setup_rules) with_house)) c.with_setup.ensures
