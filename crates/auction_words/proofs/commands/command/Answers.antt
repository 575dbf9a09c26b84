use Rattle.std.proofs.Common.{◌≡◌, ◌∙◌, ap, codes, refl, true}
use Rattle.std.proofs.lemmas.Result.{IfOk-weaker}
use Rattle.clap.specs.Simple.{app_of_fields, on_top}
use Rattle.clap.specs.Words.{Shape, app_of, new_app}
use Rattle.auction_words.proofs.CommandLemmas.{with_leaf}
use Rattle.auction_words.proofs.commands.command.Goals as goal

abbrev with_version : Shape → Shape
with_version shape = record shape { has_version = true }

abbrev with_subcommand_required : Shape → Shape
with_subcommand_required shape = record shape { subcommand_required = true }

pub returns : goal.returns
returns c =
    let versioned : app_of c.version.result ≡ on_top with_version (new_app (codes "auction")) = ap app_of_fields c.version.ensures ∙ ap (on_top with_version) c.new.ensures.app in
    let explained : app_of c.after_long_help.result ≡ app_of c.version.result = ap app_of_fields c.after_long_help.ensures ∙ ap app_of_fields c.about.ensures in
    let top : app_of c.subcommand_required.result ≡ on_top with_subcommand_required (on_top with_version (new_app (codes "auction"))) = ap app_of_fields c.subcommand_required.ensures ∙ ap (on_top with_subcommand_required) (explained ∙ versioned) in
    let with_init = with_leaf c.in_ok-subcommand.ensures top c.in_ok-init_command.ensures refl in
    let with_serve = with_leaf c.in_ok-subcommand-2.ensures with_init c.in_ok-serve_command.ensures refl in
    let with_replay = with_leaf c.in_ok-subcommand-3.ensures with_serve c.in_ok-replay_command.ensures refl in
    let with_import = with_leaf c.in_ok-subcommand-4.ensures with_replay c.in_ok-import_command.ensures refl in
    let with_statement = with_leaf c.in_ok-subcommand-5.ensures with_import c.in_ok-statement_command.ensures refl in
    let with_bands = with_leaf c.in_ok-subcommand-6.ensures with_statement c.in_ok-bands_command.ensures refl in
    let with_upgrade = with_leaf c.in_ok-subcommand-7.ensures with_bands c.in_ok-upgrade_command.ensures refl in
    let with_audit = with_leaf c.in_ok-subcommand-8.ensures with_upgrade c.in_ok-audit_command.ensures refl in
    IfOk-weaker c.subcommand-9.result _ _ (λ command adds. with_leaf adds with_audit c.in_ok-surplus_command.ensures refl) c.subcommand-9.ensures
