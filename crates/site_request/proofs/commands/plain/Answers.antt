use Rattle.std.proofs.Common.{refl, ap, ◌∙◌, Ok, codes}
use Rattle.json.specs.Print.{escape_byte}
use Rattle.site_bodies.proofs.Alone.{whole_lone}
use Rattle.house_rows.specs.declared.command.Command.TheVariants as command
use Rattle.site_request.specs.declared.field.Field.TheVariants as field
use Rattle.site_request.specs.declared.command_path.CommandPath.TheVariants as command_path
use Rattle.site_request.specs.Commands.{bid_in, command_of, fields_in, object_at, or_no_object}
use Rattle.site_request.specs.Fields.{◌>>=◌, number_at, or_wrong}
use Rattle.site_request.proofs.commands.plain.Goals as goal

pub lone_whole-requires-clause-plain : goal.lone_whole-requires-clause-plain
unfolding escape_byte
lone_whole-requires-clause-plain c = refl

pub returns-in-Some-clause-report : goal.returns-in-Some-clause-report
unfolding bid_in command_of fields_in number_at object_at
returns-in-Some-clause-report c =
    ap (λ o. command_of o c.args.bytes.now) c.in-Bid.is
    ∙ ap (λ o. or_no_object o >>= fields_in (command_path.Bid c.in-Bid.item)) c.in-Some.ensures
    ∙ ap (λ o. or_wrong field.Maximum o >>= (λ maximum. Ok (command.Bid c.in-Bid.item maximum))) (whole_lone
    (codes "maximum") c.in-Some.maximum)
