-- What is at the front of a stream, and what a text is as one message. Start here.
use Rattle.std.specs.Prelude.{◌≡◌, ◌⊎◌, ℕ, ◌+◌, List, [], ◌∷◌, not, length, map, take, drop, Result, Ok, Err, nat_lt, if◌then◌else◌, codes}
use Rattle.httparse.specs.Grammar.{RequestHead, print_request}
use Rattle.httparse.specs.Spans.{name_and_value}
use Rattle.wire.specs.Fields.{Pair, has_host, has_transfer, length_by, values_of}
use Rattle.wire.specs.Head.{BeginsHead, NoHead}
use Rattle.wire.specs.Message.{Message}
use Rattle.wire.specs.declared.fault.WireFault.{WireFault}
use Rattle.wire.specs.declared.fault.WireFault.TheVariants as fault

-- the fields of a head
abbrev pub fields_of : RequestHead → List Pair
fields_of h = map name_and_value h.fields

-- the length of the body that the fields announce, or the first rule of the head that fails
unfoldable pub announced : ℕ → List Pair → Result ℕ WireFault
announced minor fields =
    if not (has_host minor fields) then Err fault.Host else (
    if has_transfer fields then Err fault.Transfer else
    length_by (values_of (codes "content-length") fields))

-- the message of a head and a body
abbrev pub message_of : RequestHead → List ℕ → Message
message_of h body = record {
  method = h.method;
  target = h.target;
  minor = h.minor;
  fields = fields_of h;
  body = body;
  length = length (print_request h) + length body;
}

-- a message of a body of that length and what comes after it, or the fault
abbrev pub with_body : RequestHead → List ℕ → Result ℕ WireFault → Result (Message × List ℕ) WireFault
with_body h after (Ok n) = if nat_lt (length after) n then Err fault.End else Ok (message_of h (take n after), drop n after)
with_body h after (Err e) = Err e

-- a head and the bytes after it: the message and what comes after it, or the first fault
abbrev pub judged : RequestHead → List ℕ → Result (Message × List ℕ) WireFault
judged h after = with_body h after (announced h.minor (fields_of h))

-- what is at the front of bytes that nothing follows: a message and the rest, or the first fault
unfoldable pub IsFront : List ℕ → Result (Message × List ℕ) WireFault → Type 0
IsFront bytes front =
    ((h : RequestHead) × (after : List ℕ) × BeginsHead bytes h after × (front ≡ judged h after))
    ⊎ (NoHead bytes × (front ≡ Err fault.Head))

-- the bytes begin with the whole message, and then have rest
abbrev pub IsMessageAt : List ℕ → Message → List ℕ → Type 0
IsMessageAt bytes message rest = IsFront bytes (Ok (message, rest))

-- nothing may come after the one message of a text
abbrev pub alone : Result (Message × List ℕ) WireFault → Result Message WireFault
alone (Ok (message, [])) = Ok message
alone (Ok (message, b ∷ rest)) = Err fault.Excess
alone (Err e) = Err e

-- what a text is as one message
abbrev pub IsFrame : List ℕ → Result Message WireFault → Type 0
IsFrame text frame = (front : Result (Message × List ℕ) WireFault) × IsFront text front × (frame ≡ alone front)
