use Rattle.std.proofs.Common.{◌∙◌, ap, sym}
use Rattle.std.specs.Prelude.{option_map}
use Rattle.clap.specs.Matches.{found_of}
use Rattle.clap.proofs.WalkLemmas.{first_value-rows}
use Rattle.auction_words.proofs.values.text.Goals as goal

pub returns-in-Some-clause-value : goal.returns-in-Some-clause-value
returns-in-Some-clause-value c =
    let is = first_value-rows (found_of c.args.words.now) c.args.name.now in
    sym is ∙ sym c.get_str.ensures ∙ ap (option_map (λ t. t.now)) c.in-Some.is

pub returns-in-None-clause-missing : goal.returns-in-None-clause-missing
returns-in-None-clause-missing c =
    let is = first_value-rows (found_of c.args.words.now) c.args.name.now in
    sym is ∙ sym c.get_str.ensures ∙ ap (option_map (λ t. t.now)) c.in-None.is
