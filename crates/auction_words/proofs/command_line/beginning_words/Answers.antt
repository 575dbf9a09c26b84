use Rattle.std.proofs.Common.{◌≡◌, ◌∙◌, ap, List, None, codes, sym}
use Rattle.std.specs.Prelude.{option_map}
use Rattle.clap.specs.Matches.{found_of}
use Rattle.clap.specs.Walk.{Row, first_of}
use Rattle.clap.proofs.WalkLemmas.{first_value-rows}
use Rattle.auction_words.specs.Tasks.{NamesNoBeginning, NamesNoHouse, rows_in}
use Rattle.auction_words.specs.declared.command_line.Beginning.TheVariants.{House, New}
use Rattle.auction_words.proofs.command_line.beginning_words.Goals as goal

-- without a file only a house that is set up is left
no_beginning : (rows : List Row) → first_of (codes "house") rows ≡ None → NamesNoHouse rows → NamesNoBeginning rows
no_beginning rows none no_house (House file) begins within = cc
no_beginning rows none no_house (New house) begins within = no_house house begins.1 within

pub returns-in-Some-clause-asked : goal.returns-in-Some-clause-asked
returns-in-Some-clause-asked c =
    let is = first_value-rows (found_of c.args.words.now) (codes "house") in
    sym is ∙ sym c.get_str.ensures ∙ ap (option_map (λ t. t.now)) c.in-Some.is

pub returns-in-Ok-clause-asked : goal.returns-in-Ok-clause-asked
returns-in-Ok-clause-asked c =
    let is = first_value-rows (found_of c.args.words.now) (codes "house") in
    (sym is ∙ sym c.get_str.ensures ∙ ap (option_map (λ t. t.now)) c.in-None.is, c.in-Ok.ensures.asked)

pub returns-in-Err-clause-refused : goal.returns-in-Err-clause-refused
returns-in-Err-clause-refused c =
    let is = first_value-rows (found_of c.args.words.now) (codes "house") in
    no_beginning (rows_in c.args.words.now) (sym is ∙ sym c.get_str.ensures ∙ ap (option_map (λ t. t.now)) c.in-None.is)
    c.in-Err.ensures.refused
