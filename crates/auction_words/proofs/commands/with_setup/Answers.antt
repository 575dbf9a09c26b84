use Rattle.std.proofs.Common.{◌≡◌, refl, rules, codes}
use Rattle.std.proofs.lemmas.Result.{IfOk-weaker}
use Rattle.clap.specs.Words.{rule_of}
use Rattle.auction_words.specs.CommandLine.{default_rule}
use Rattle.auction_words.proofs.CommandLemmas.{with_argument}
use Rattle.auction_words.proofs.commands.with_setup.Goals as goal

pub returns : goal.returns
returns c =
    let rate : rule_of c.default_value.result ≡ default_rule (codes "rate") (codes "1000") = search rules in
    let zone : rule_of c.default_value-2.result ≡ default_rule (codes "zone") (codes "UTC0") = search rules in
    let with_bands = with_argument c.in_ok-arg.ensures refl c.band_table.ensures refl in
    let with_rate = with_argument c.in_ok-arg-2.ensures with_bands rate refl in
    IfOk-weaker c.arg-3.result _ _ (λ command adds. with_argument adds with_rate zone refl) c.arg-3.ensures
