-- The text of an order asks for what its body says.
use Rattle.std.proofs.Common.{◌≡◌, ℕ, ◌<◌, ◌≤◌, ◌^◌, List, false, refl, sym, ap, ◌∙◌, arith, decimal, length, Some, Ok}
use Rattle.std.specs.Prelude.{option_and_then}
use Rattle.std.proofs.lemmas.Bool.{le-leb}
use Rattle.std.proofs.lemmas.Fmt.{digits_decimal}
use Rattle.house_rows.specs.Limits.{last_moment}
use Rattle.house_rows.specs.declared.command.Command.{Command}
use Rattle.house_rows.specs.declared.message.Message.TheVariants.{Write}
use Rattle.site_digits.specs.Digits.{count_in}
use Rattle.site_request.specs.Commands.{command_of}
use Rattle.site_request.specs.declared.command_path.CommandPath.TheVariants as command_path
use Rattle.site_request.specs.Routes.{route_of}
use Rattle.site_request.specs.declared.route.Route.TheVariants as route
use Rattle.wire.specs.Fields.{ends_connection}
use Rattle.wire.specs.Frame.{message_of as framed_of}
use Rattle.wire.specs.Message.{Message as Framed}
use Rattle.site_request.specs.Asked.{IsAsked, asked_of, asks_of, called, message_of, ordered}
use Rattle.site_request.specs.Heads.{caller_in, moment_in, numbered, up_to_last}
use Rattle.office.proofs.ReadNumbers.{count_read, digits_own}
use Rattle.office.proofs.OrderFrames.{goes_on, member_field, moment_field, order_frame}
use Rattle.office.proofs.OrderHeads.{order_bytes, order_head}
use Rattle.office.proofs.OrderRoutes.{items_route}

by_parts : (m : Framed) (member moment : ℕ) (c : Command) → caller_in m ≡ Some member → moment_in m ≡ Some moment
    → route_of m.method m.target ≡ Ok (route.Post command_path.List) → command_of command_path.List m.body ≡ Ok c
    → ends_connection m.minor m.fields ≡ false
    → asked_of (Ok m) ≡ record { closes = false; message = Write moment member c }
unfolding asked_of message_of asks_of called ordered
by_parts m member moment c caller at_moment routed body stays = rw (stays, caller, routed, at_moment, body) refl

abbrev parsed : ℕ → ℕ → List ℕ → Framed
parsed member moment body =
    framed_of (order_head (decimal member) (decimal moment) (decimal (length body))) body

caller_is : (member moment : ℕ) (body : List ℕ) → member < 10 ^ 10
    → caller_in (parsed member moment body) ≡ Some member
unfolding caller_in numbered
caller_is member moment body small =
    ap (option_and_then count_in)
    (member_field (decimal member) (decimal moment) (decimal (length body))
    (digits_decimal digits_own member (omega arith)))
    ∙ count_read member small

moment_is : (member moment : ℕ) (body : List ℕ) → moment ≤ last_moment
    → moment_in (parsed member moment body) ≡ Some moment
unfolding moment_in numbered
moment_is member moment body small =
    ap (λ field. option_and_then up_to_last (option_and_then count_in field))
    (moment_field (decimal member) (decimal moment) (decimal (length body))
    (digits_decimal digits_own moment (omega arith)))
    ∙ ap (option_and_then up_to_last) (count_read moment (omega arith))
    ∙ rw (le-leb moment last_moment small) refl

pub order_asks : (member moment : ℕ) (body : List ℕ) (c : Command) → member < 10 ^ 10 → moment ≤ last_moment
    → length body ≤ 16384 → command_of command_path.List body ≡ Ok c
    → IsAsked (order_bytes (decimal member) (decimal moment) (decimal (length body)) body)
    (record { closes = false; message = Write moment member c })
order_asks member moment body c fm ft few is =
    let m = parsed member moment body in (
      Ok m,
      order_frame member moment body (omega arith) (omega arith) few,
      sym (by_parts m member moment c (caller_is member moment body fm) (moment_is member moment body ft)
          items_route is (goes_on (decimal member) (decimal moment) (decimal (length body)))),
    )
