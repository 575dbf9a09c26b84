-- The command that a path means with a body. Start here: its fields are judged in the order in
-- which they are written.
use Rattle.std.specs.Prelude.{ℕ, List, Bool, true, false, if◌then◌else◌, Option, Some, None, Result, Ok, Err}
use Rattle.serde_json.specs.Data.{Members, no_members}
use Rattle.house_rows.specs.declared.command.Command.{Command}
use Rattle.house_rows.specs.declared.command.Command.TheVariants as command
use Rattle.site_bodies.specs.Members.{body_of}
use Rattle.site_request.specs.Fields.{◌>>=◌, integer_at, number_at, optional_at, rating_of, rows_at, text_at}
use Rattle.site_request.specs.declared.unread.Wrong.{Wrong}
use Rattle.site_request.specs.declared.unread.Wrong.TheVariants.{NoObject}
use Rattle.site_request.specs.declared.field.Field.TheVariants as field
use Rattle.site_request.specs.declared.command_path.CommandPath.{CommandPath}
use Rattle.site_request.specs.declared.command_path.CommandPath.TheVariants as command_path

unfoldable pub register_in : Members → Result Command Wrong
register_in ms = do
  name ← text_at field.Name ms
  Ok (command.Register name)

unfoldable pub category_in : Members → Result Command Wrong
category_in ms = do
  name ← text_at field.Name ms
  Ok (command.AddCategory name)

unfoldable pub listing_in : Members → Result Command Wrong
listing_in ms = do
  category ← number_at field.Category ms
  lot ← text_at field.Lot ms
  title ← text_at field.Title ms
  text ← text_at field.Text ms
  start ← number_at field.Start ms
  buy_now ← optional_at field.BuyNow ms
  end ← number_at field.End ms
  reserve ← optional_at field.Reserve ms
  Ok (command.List category lot title text start buy_now end reserve)

unfoldable pub bid_in : ℕ → Members → Result Command Wrong
bid_in item ms = do
  maximum ← number_at field.Maximum ms
  Ok (command.Bid item maximum)

unfoldable pub question_in : ℕ → Members → Result Command Wrong
question_in item ms = do
  text ← text_at field.Text ms
  Ok (command.Ask item text)

unfoldable pub answer_in : ℕ → ℕ → ℕ → Members → Result Command Wrong
answer_in item asker number ms = do
  text ← text_at field.Text ms
  Ok (command.Answer item asker number text)

-- a number that is no rating reaches the command, whose verdict says so
unfoldable pub feedback_in : ℕ → Members → Result Command Wrong
feedback_in item ms = do
  rating ← integer_at field.Rating ms
  text ← text_at field.Text ms
  Ok (command.Feedback item (rating_of rating) text)

unfoldable pub table_in : Members → Result Command Wrong
table_in ms = do
  bands ← rows_at field.Bands ms
  Ok (command.SetBands bands)

-- the command of a path, by the object of its body
unfoldable pub fields_in : CommandPath → Members → Result Command Wrong
fields_in command_path.Register ms = register_in ms
fields_in command_path.AddCategory ms = category_in ms
fields_in command_path.List ms = listing_in ms
fields_in (command_path.Bid item) ms = bid_in item ms
fields_in (command_path.Buy item) ms = Ok (command.Buy item)
fields_in command_path.Close ms = Ok command.Close
fields_in (command_path.Settle item) ms = Ok (command.Settle item)
fields_in (command_path.Watch item) ms = Ok (command.Watch item)
fields_in (command_path.Unwatch item) ms = Ok (command.Unwatch item)
fields_in (command_path.Ask item) ms = question_in item ms
fields_in (command_path.Answer item asker number) ms = answer_in item asker number ms
fields_in (command_path.Feedback item) ms = feedback_in item ms
fields_in command_path.SetBands ms = table_in ms

-- whether the command of a path has fields
abbrev pub has_fields : CommandPath → Bool
has_fields (command_path.Buy item) = false
has_fields command_path.Close = false
has_fields (command_path.Settle item) = false
has_fields (command_path.Watch item) = false
has_fields (command_path.Unwatch item) = false
has_fields _ = true

-- the object of a body
abbrev pub or_no_object : Option Members → Result Members Wrong
or_no_object None = Err NoObject
or_no_object (Some ms) = Ok ms

unfoldable pub object_at : List ℕ → Result Members Wrong
object_at body = or_no_object (body_of body)

-- the command that a path means with a body; where it has no fields, nobody looks at the body
unfoldable pub command_of : CommandPath → List ℕ → Result Command Wrong
command_of order body = if has_fields order then object_at body >>= fields_in order else fields_in order no_members

-- the command of a path whose one field is a text
abbrev pub text_in : CommandPath → List ℕ → Option Command
text_in command_path.Register text = Some (command.Register text)
text_in command_path.AddCategory text = Some (command.AddCategory text)
text_in (command_path.Ask item) text = Some (command.Ask item text)
text_in (command_path.Answer item asker number) text = Some (command.Answer item asker number text)
text_in _ text = None
