-- A message is its caller's, whatever it asks and whatever is wrong with it.
use Rattle.std.proofs.Common.{◌≡◌, ℕ, refl, Option, Some, None, Result, Ok, Err}
use Rattle.std.specs.Prelude.{IfOk}
use Rattle.house_rows.specs.declared.command.Command.{Command}
use Rattle.house_rows.specs.declared.message.Message.{Message}
use Rattle.house_rows.specs.declared.message.Message.TheVariants.{Write, Read}
use Rattle.house_rows.specs.declared.query.Query.{Query}
use Rattle.site_request.specs.Commands.{command_of}
use Rattle.site_request.specs.Fields.{◌>>=◌}
use Rattle.site_request.specs.Routes.{route_of}
use Rattle.site_request.specs.declared.route.Route.{Route}
use Rattle.site_request.specs.declared.route.Route.TheVariants as route
use Rattle.wire.specs.Message.{Message as Framed}
use Rattle.site_request.specs.Asked.{asks_of, called, caller_of, commanded, message_of, or_broken, ordered, routed}
use Rattle.site_request.specs.Days.{period_of}
use Rattle.site_request.specs.Faults.{or_fault}
use Rattle.site_request.specs.Heads.{caller_in, moment_in}
use Rattle.site_request.specs.declared.fault.RequestFault.{RequestFault}
use Rattle.site_request.specs.declared.fault.RequestFault.TheVariants as fault

-- what is asked is that caller's
abbrev IsOf : Option ℕ → Result (Message RequestFault) RequestFault → Type 0
IsOf caller asked = IfOk asked (λ message. caller_of message ≡ caller)

order_is_of : (caller : ℕ) (moment : Result ℕ RequestFault) (command : Result Command RequestFault)
    → IsOf (Some caller) (moment >>= (λ t. command >>= (λ k. Ok (Write t caller k))))
order_is_of caller (Ok t) (Ok k) = refl
order_is_of caller (Ok t) (Err f) = tt
order_is_of caller (Err f) command = tt

read_is_of : (caller : ℕ) (query : Result Query RequestFault) → IsOf (Some caller) (query >>= (λ q. Ok (Read caller q)))
read_is_of caller (Ok q) = refl
read_is_of caller (Err f) = tt

called_is_of : (caller : ℕ) (r : Route) (m : Framed) → IsOf (Some caller) (called caller r m)
unfolding called ordered
called_is_of caller (route.Post path) m =
    order_is_of caller (or_fault fault.Moment (moment_in m)) (commanded (command_of path m.body))
called_is_of caller (route.Read query) m = refl
called_is_of caller (route.Statement from to) m = read_is_of caller (period_of from to)

asked_is_of : (caller : Option ℕ) (found : Result Route RequestFault) (m : Framed)
    → IsOf caller (found >>= (λ r. or_fault fault.Member caller >>= (λ c. called c r m)))
asked_is_of None (Ok r) m = tt
asked_is_of (Some c) (Ok r) m = called_is_of c r m
asked_is_of caller (Err f) m = tt

by_asked : (caller : Option ℕ) (asked : Result (Message RequestFault) RequestFault) → IsOf caller asked
    → caller_of (or_broken caller asked) ≡ caller
by_asked caller (Ok message) is = is
by_asked caller (Err f) is = refl

pub message_is_of : (m : Framed) → caller_of (message_of m) ≡ caller_in m
unfolding message_of asks_of
message_is_of m =
    let caller = caller_in m in
    by_asked caller (asks_of caller m) (asked_is_of caller (routed (route_of m.method m.target)) m)
