use Rattle.std.proofs.Common.{◌≡◌, ◌∙◌, ap, Err, IfErr, IfOk, IfSome, List, Ok, Option, Result, subst, true}
use Rattle.std.specs.Result.{IsErrAnd}
use Rattle.std.proofs.lemmas.Result.{IfErr-weaker}
use Rattle.clap.specs.Simple.{App, HasMatchesOf, is_simple, subcommand_of, subcommand_rows_of}
use Rattle.clap.specs.Takes.{takes}
use Rattle.clap.specs.Values.{kind_of}
use Rattle.clap.specs.Walk.{Row, Text}
use Rattle.clap.specs.declared.error.Error.{Error}
use Rattle.clap.specs.declared.error.kind.ErrorKind.TheVariants.{OutOfMemory}
use Rattle.clap.specs.declared.parser.matches.ArgMatches.{ArgMatches}
use Rattle.auction_words.specs.CommandLine.{house_app}
use Rattle.auction_words.specs.Tasks.{IsAskedBy, IsMemoryIfAsked}
use Rattle.auction_words.proofs.HouseAppLemmas.{house_is_simple}
use Rattle.auction_words.proofs.command_line.read_task.Goals as goal

-- the subcommand that a parse met is the one that the words name
met_is : (app : App) (words : List Text) (m : ArgMatches) → app ≡ house_app → HasMatchesOf app words m
    → subcommand_rows_of m ≡ subcommand_of house_app words
met_is app words m same matches =
    (matches (ap is_simple same ∙ house_is_simple)).1 ∙ ap (λ (a : App). subcommand_of a words) same

-- a parse refuses words that it takes only where it is out of memory
refused : {X : Type 0} (r : Result X Error) (fault : Error) (app : App) (words : List Text) → IsErrAnd r (λ error. error ≡ fault)
    → app ≡ house_app → (takes app words ≡ true → kind_of fault ≡ OutOfMemory)
    → IfErr r (λ error. takes house_app words ≡ true → IsMemoryIfAsked (subcommand_of house_app words) error)
refused (Ok x) fault app words is same passes = tt
refused (Err error) fault app words is same passes = λ taken task asked within.
    ap kind_of is ∙ passes (ap (λ (a : App). takes a words) same ∙ taken)

pub returns-in_err-matches-clause-refused : goal.returns-in_err-matches-clause-refused
returns-in_err-matches-clause-refused c =
    refused c.from_residual-in_err-matches.result c.in_err-matches.field-0.0 _ _
    c.from_residual-in_err-matches.ensures.1 c.in_ok-command.ensures c.in_err-matches.ensures.passes

pub returns-clause-asked : goal.returns-clause-asked
returns-clause-asked c =
    let met = met_is _ _ c.in_ok-matches.matches c.in_ok-command.ensures c.in_ok-matches.ensures.matches in
    let P : Option (Text × List Row) → Type 0 = λ p. IfOk c.task_in.result (λ task. IfSome task (IsAskedBy p)) in
    subst P met c.task_in.ensures.asked

pub returns-clause-refused : goal.returns-clause-refused
returns-clause-refused c =
    let met = met_is _ _ c.in_ok-matches.matches c.in_ok-command.ensures c.in_ok-matches.ensures.matches in
    IfErr-weaker c.task_in.result _ _
    (λ error told taken. subst (λ (p : Option (Text × List Row)). IsMemoryIfAsked p error) met told)
    c.task_in.ensures.refused
