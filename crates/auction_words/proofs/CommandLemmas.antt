-- What a command is with one more argument or subcommand.
use Rattle.std.proofs.Common.{◌≡◌, ◌∙◌, true, false, ap, ap₂, rules, tests}
use Rattle.std.specs.Prelude.{IfOk, Result}
use Rattle.std.proofs.lemmas.Result.{IfOk-weaker}
use Rattle.clap.specs.Words.{AddsArg, AddsSubcommand, App, Rule, Shape, app_of, rule_of, shape_of, with_rule, with_subcommand}
use Rattle.clap.specs.Walk.{is_simple_arg}
use Rattle.clap.specs.declared.builder.arg.Arg.{Arg}
use Rattle.clap.specs.declared.builder.command.Command.{Command}
use Rattle.clap.proofs.SimpleLemmas.{plain_fields}

-- a simple argument isn't global
simple_is_local : (a : Arg) → is_simple_arg a ≡ true → a.global ≡ false
simple_is_local a e = search (rules, tests)

-- one more argument
pub with_argument : {old new : Command} {a : Arg} {app : App} {rule : Rule} → AddsArg old a new → app_of old ≡ app → rule_of a ≡ rule → rule.is_simple ≡ true → app_of new ≡ with_rule app rule
with_argument {a = a} adds app_is rule_is simple =
    adds.shape (simple_is_local a (ap (λ (r : Rule). r.is_simple) rule_is ∙ simple)) ∙ ap₂ with_rule app_is rule_is

-- one more subcommand
pub with_leaf : {old sub new : Command} {app : App} {shape : Shape} → AddsSubcommand old sub new → app_of old ≡ app → shape_of sub ≡ shape → shape.is_plain ≡ true → app_of new ≡ with_subcommand app shape
with_leaf {sub = sub} adds app_is shape_is plain =
    adds.shape (plain_fields sub (ap (λ (s : Shape). s.is_plain) shape_is ∙ plain)).globals ∙ ap₂ with_subcommand app_is shape_is

module _ {E : Type 0} where
  -- the last argument of a command that is returned
  pub last_argument : (result : Result Command E) (old : Command) (a : Arg) {app : App} {rule : Rule} → IfOk result (λ new. AddsArg old a new) → app_of old ≡ app → rule_of a ≡ rule → rule.is_simple ≡ true
      → IfOk result (λ new. shape_of new ≡ (with_rule app rule).top)
  last_argument result old a adds app_is rule_is simple =
      IfOk-weaker result _ _ (λ new h. ap (λ (a : App). a.top) (with_argument h app_is rule_is simple)) adds
