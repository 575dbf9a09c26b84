-- What a message asks. Start here. Faults are judged in the order of the lines below.
use Rattle.std.specs.Prelude.{◌≡◌, ℕ, List, Bool, true, Option, Some, None, Result, Ok, Err}
use Rattle.house_rows.specs.declared.command.Command.{Command}
use Rattle.house_rows.specs.declared.message.Message.{Message}
use Rattle.house_rows.specs.declared.message.Message.TheVariants.{Write, Read, Broken}
use Rattle.site_request.specs.Commands.{command_of}
use Rattle.site_request.specs.Fields.{◌>>=◌}
use Rattle.site_request.specs.declared.unread.Wrong.{Wrong}
use Rattle.site_request.specs.declared.unread.Wrong.TheVariants as wrong
use Rattle.site_request.specs.declared.command_path.CommandPath.{CommandPath}
use Rattle.site_request.specs.Routes.{route_of}
use Rattle.site_request.specs.declared.unrouted.RouteFault.{RouteFault}
use Rattle.site_request.specs.declared.unrouted.RouteFault.TheVariants as unrouted
use Rattle.site_request.specs.declared.route.Route.{Route}
use Rattle.site_request.specs.declared.route.Route.TheVariants as route
use Rattle.wire.specs.Fields.{ends_connection}
use Rattle.wire.specs.Frame.{IsFrame}
use Rattle.wire.specs.Message.{Message as Framed}
use Rattle.wire.specs.declared.fault.WireFault.{WireFault}
use Rattle.site_request.specs.Days.{period_of}
use Rattle.site_request.specs.Faults.{is_of_body, or_fault}
use Rattle.site_request.specs.Heads.{caller_in, moment_in}
use Rattle.site_request.specs.declared.asked.Asked.{Asked}
use Rattle.site_request.specs.declared.fault.RequestFault.{RequestFault}
use Rattle.site_request.specs.declared.fault.RequestFault.TheVariants as fault

-- a text as one message, or the first fault of its frame
abbrev pub Frame : Type 0
Frame = Result Framed WireFault

-- the fault of a message that has no route
abbrev pub routed : Result Route RouteFault → Result Route RequestFault
routed (Ok r) = Ok r
routed (Err unrouted.Path) = Err fault.Path
routed (Err (unrouted.Method methods)) = Err (fault.Method methods)

-- the fault of a body that is wrong
abbrev pub commanded : Result Command Wrong → Result Command RequestFault
commanded (Ok command) = Ok command
commanded (Err wrong.NoObject) = Err fault.Json
commanded (Err (wrong.Field f)) = Err (fault.Field f)

-- a command: its moment is judged, then its body
unfoldable pub ordered : ℕ → CommandPath → Framed → Result (Message RequestFault) RequestFault
ordered caller path m = do
  moment ← or_fault fault.Moment (moment_in m)
  command ← commanded (command_of path m.body)
  Ok (Write moment caller command)

-- what a caller asks by a route
unfoldable pub called : ℕ → Route → Framed → Result (Message RequestFault) RequestFault
called caller (route.Post path) m = ordered caller path m
called caller (route.Read query) m = Ok (Read caller query)
called caller (route.Statement from to) m = do
  query ← period_of from to
  Ok (Read caller query)

-- what a message of that caller, or of none, asks: its path and method are judged, then the caller, then the rest
unfoldable pub asks_of : Option ℕ → Framed → Result (Message RequestFault) RequestFault
asks_of caller m = do
  r ← routed (route_of m.method m.target)
  c ← or_fault fault.Member caller
  called c r m

-- a message that asks for nothing is still its caller's
abbrev pub or_broken : Option ℕ → Result (Message RequestFault) RequestFault → Message RequestFault
or_broken caller (Ok message) = message
or_broken caller (Err f) = Broken caller f

-- whether a message may ask for something, as far as can be said without its body
abbrev pub may_ask : Message RequestFault → Bool
may_ask (Write moment caller command) = true
may_ask (Read caller query) = true
may_ask (Broken caller f) = is_of_body f

-- the same of a message of anybody
abbrev pub MayAsk : Result (Message RequestFault) RequestFault → Type 0
MayAsk meant = may_ask (or_broken None meant) ≡ true

-- what a whole message asks
unfoldable pub message_of : Framed → Message RequestFault
message_of m = or_broken (caller_in m) (asks_of (caller_in m) m)

-- what a text asks, by its frame
unfoldable pub asked_of : Frame → Asked
asked_of (Err f) = record { closes = true; message = Broken None (fault.Frame f) }
asked_of (Ok m) = record { closes = ends_connection m.minor m.fields; message = message_of m }

-- a text asks this
abbrev pub IsAsked : List ℕ → Asked → Type 0
IsAsked text asked = (frame : Frame) × IsFrame text frame × (asked ≡ asked_of frame)

-- whose a message is, if it is anybody's
abbrev pub caller_of : Message RequestFault → Option ℕ
caller_of (Write moment caller command) = Some caller
caller_of (Read caller query) = Some caller
caller_of (Broken caller f) = caller
