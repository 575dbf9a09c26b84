use Rattle.std.proofs.Common.{◌≡◌, ◌∙◌, [], ap, refl, rules, tests, true}
use Rattle.std.proofs.lemmas.Result.{IfOk-weaker}
use Rattle.clap.proofs.SimpleLemmas.{is_nil}
use Rattle.clap.specs.Walk.{is_free_arg}
use Rattle.clap.specs.Words.{Rule}
use Rattle.clap.specs.declared.builder.arg.Arg.{Arg}
use Rattle.auction_words.proofs.arguments.begun_house.Goals as goal

-- an argument with no rule on another one excludes none
free_conflicts : (a : Arg) → is_free_arg a ≡ true → a.conflicts.items ≡ []
free_conflicts a e = is_nil a.conflicts.items (search (rules, tests))

pub returns-clause-conflicts : goal.returns-clause-conflicts
returns-clause-conflicts c =
    let none = free_conflicts c.option.result (ap (λ (r : Rule). r.is_free) c.option.ensures) in
    let explained = ap (λ (a : Arg). a.conflicts.items) c.long_help.ensures ∙ none in
    IfOk-weaker c.conflicts_with-3.result _ _ (λ arg adds. rw (adds.1, c.in_ok-conflicts_with-2.ensures.1, c.in_ok-conflicts_with.ensures.1, explained) refl) c.conflicts_with-3.ensures
