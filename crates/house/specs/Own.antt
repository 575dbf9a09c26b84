-- Whether a change is a command's own: the command, its caller and its moment are read from the change as far as it names them.
use Rattle.std.specs.Prelude.{◌≡◌, ℕ, Option, Some, None, IfSome}
use Rattle.house_rows.specs.declared.change.Change.{Change}
use Rattle.house_rows.specs.declared.change.Change.TheVariants as change
use Rattle.house_rows.specs.declared.command.Command.{Command}
use Rattle.house_rows.specs.declared.command.Command.TheVariants as command

-- the command whose change it is
abbrev pub command_of : Change → Command
command_of (change.Register moment name) = command.Register name.now
command_of (change.AddCategory moment name) = command.AddCategory name.now
command_of (change.List moment item) =
    command.List item.category item.lot.now item.title.now item.text.now item.start item.buy_now item.end item.reserve
command_of (change.Bid moment item placed standing) = command.Bid item placed.maximum
command_of (change.Buy moment item buyer price) = command.Buy item
command_of (change.Close moment) = command.Close
command_of (change.Settle moment item) = command.Settle item
command_of (change.Watch member item) = command.Watch item
command_of (change.Unwatch member item) = command.Unwatch item
command_of (change.Ask item asker number text) = command.Ask item text.now
command_of (change.Answer moment item asker number text) = command.Answer item asker number text.now
command_of (change.Feedback moment item from to rating text) = command.Feedback item (Some rating) text.now
command_of (change.SetBands moment bands) = command.SetBands bands.now

-- who called, where the change names it: neither one of the house nor the answer to a question does
abbrev pub caller_of : Change → Option ℕ
caller_of (change.Register moment name) = None
caller_of (change.AddCategory moment name) = None
caller_of (change.List moment item) = Some item.seller
caller_of (change.Bid moment item placed standing) = Some placed.member
caller_of (change.Buy moment item buyer price) = Some buyer
caller_of (change.Close moment) = None
caller_of (change.Settle moment item) = None
caller_of (change.Watch member item) = Some member
caller_of (change.Unwatch member item) = Some member
caller_of (change.Ask item asker number text) = Some asker
caller_of (change.Answer moment item asker number text) = None
caller_of (change.Feedback moment item from to rating text) = Some from
caller_of (change.SetBands moment bands) = None

-- when, where the change names it: it does where it moves the clock
abbrev pub moment_of : Change → Option ℕ
moment_of (change.Register moment name) = Some moment
moment_of (change.AddCategory moment name) = Some moment
moment_of (change.List moment item) = Some moment
moment_of (change.Bid moment item placed standing) = Some moment
moment_of (change.Buy moment item buyer price) = Some moment
moment_of (change.Close moment) = Some moment
moment_of (change.Settle moment item) = Some moment
moment_of (change.Watch member item) = None
moment_of (change.Unwatch member item) = None
moment_of (change.Ask item asker number text) = None
moment_of (change.Answer moment item asker number text) = Some moment
moment_of (change.Feedback moment item from to rating text) = Some moment
moment_of (change.SetBands moment bands) = Some moment

-- the change is the command's
pub record IsOf (moment caller : ℕ) (command : Command) (change : Change) : Type 0 where
  pub same_command : command_of change ≡ command
  pub same_caller : IfSome (caller_of change) (λ member. member ≡ caller)
  pub same_moment : IfSome (moment_of change) (λ at. at ≡ moment)
