-- What the bytes of a stream say so far.
use Rattle.std.specs.Prelude.{◌≡◌, ℕ, ◌<◌, ◌≤◌, List, ◌++◌, length, drop, Result, Ok, Err}
use Rattle.httparse.specs.Grammar.{RequestHead, HasNoRequest, MayBecomeRequest, print_request}
use Rattle.wire.specs.Frame.{IsFront, IsMessageAt, fields_of}
use Rattle.wire.specs.Head.{BeginsHead, NeverHead, most_bytes}
use Rattle.wire.specs.Known.{IsKnown}
use Rattle.wire.specs.Message.{Message}
use Rattle.wire.specs.declared.fault.WireFault.{WireFault}
use Rattle.wire.specs.declared.fault.WireFault.TheVariants as fault
use Rattle.wire.specs.declared.front.Missing.{Missing}
use Rattle.wire.specs.declared.front.Missing.TheVariants as missing
use Rattle.wire.specs.declared.head.Head.{Head}
use Rattle.wire.specs.declared.head.Head.TheVariants.{Found, More, Never}
use Rattle.wire.specs.declared.head.Parts.{Parts}

-- the bytes have no head yet, of however many fields, and more bytes may make one of them
pub record EndsInHead (bytes : List ℕ) : Type 0 where
  pub none : HasNoRequest bytes
  pub few : length bytes < most_bytes
  pub unfinished : MayBecomeRequest bytes

-- the bytes end inside the body of a head that breaks no rule
abbrev pub EndsInBody : List ℕ → Type 0
EndsInBody bytes = IsFront bytes (Err fault.End) × (length bytes < 24576)

-- whatever follows, the front has that fault
abbrev pub IsKnownFault : List ℕ → WireFault → Type 0
IsKnownFault bytes f = (more : List ℕ) → IsFront (bytes ++ more) (Err f)

-- these are the parts of the head h
pub record ArePartsOf (h : RequestHead) (parts : Parts) : Type 0 where
  pub method : parts.method.now ≡ h.method
  pub target : parts.target.now ≡ h.target
  pub minor : parts.minor ≡ h.minor
  pub known : IsKnown (fields_of h) parts.known
  pub len : parts.len ≡ length (print_request h)

-- the result of the search for a head
abbrev pub IsFound : List ℕ → Head → Type 0
IsFound bytes (Found parts) =
    (h : RequestHead) × ArePartsOf h parts × BeginsHead bytes h (drop parts.len bytes) × (parts.len ≤ length bytes)
IsFound bytes More = EndsInHead bytes
IsFound bytes Never = NeverHead bytes

-- a message at the front, or what is missing for one
abbrev pub IsFrontSoFar : List ℕ → Result Message Missing → Type 0
IsFrontSoFar bytes (Ok m) = IsMessageAt bytes m (drop m.length bytes) × (m.length ≤ length bytes)
IsFrontSoFar bytes (Err missing.Head) = EndsInHead bytes
IsFrontSoFar bytes (Err missing.Body) = EndsInBody bytes
IsFrontSoFar bytes (Err (missing.Fault f)) = IsKnownFault bytes f
