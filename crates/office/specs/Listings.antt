-- What the order of a lot asks for.
use Rattle.std.specs.Prelude.{◌≡◌, ◌<◌, ◌≤◌, ◌^◌, false, IfSome, None}
use Rattle.std.specs.Str.{IsUtf8}
use Rattle.house_rows.specs.Limits.{last_moment}
use Rattle.house_rows.specs.declared.command.Command.{Command}
use Rattle.house_rows.specs.declared.command.Command.TheVariants as command
use Rattle.house_rows.specs.declared.message.Message.TheVariants.{Write}
use Rattle.site_request.specs.Asked.{IsAsked}
use Rattle.site_request.specs.declared.asked.Asked.{Asked}
use Rattle.site_digits.specs.Digits.{most_digits}
use Rattle.office.specs.declared.lot.Lot.{Lot}
use Rattle.office.specs.declared.lister.Lister.{Lister}
use Rattle.office.specs.Orders.{order_text}

-- a member and a moment that a message can name
pub record CanList (by : Lister) : Type 0 where
  pub member : by.member < 10 ^ most_digits
  pub moment : by.moment ≤ last_moment

-- a lot of texts, and of numbers of 64 bits
pub record IsListable (lot : Lot) : Type 0 where
  pub category : lot.category < 2 ^ 64
  pub code : IsUtf8 lot.lot.now
  pub title : IsUtf8 lot.title.now
  pub text : IsUtf8 lot.text.now
  pub start : lot.start < 2 ^ 64
  pub buy_now : IfSome lot.buy_now (λ n. n < 2 ^ 64)
  pub end : lot.end < 2 ^ 64

-- the listing of a lot
abbrev pub listing_of : Lot → Command
listing_of lot =
    command.List lot.category lot.lot.now lot.title.now lot.text.now lot.start lot.buy_now lot.end None

-- that a member lists a lot at a moment, and goes on with the connection
abbrev pub listing_by : Lister → Lot → Asked
listing_by by lot = record { closes = false; message = Write by.moment by.member (listing_of lot) }

-- what the order of a lot asks: its listing, where a message can name the member and the moment
pub record IsOrderOf (by : Lister) (lot : Lot) (asked : Asked) : Type 0 where
  pub by_text : IsAsked (order_text by lot) asked
  pub listing : CanList by → asked ≡ listing_by by lot
