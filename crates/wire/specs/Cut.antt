-- The messages of a stream.
use Rattle.std.specs.Prelude.{◌≡◌, ◌≢◌, ℕ, ◌-◌, ◌<◌, List, [], ◌∷◌, MatchBool, Err}
use Rattle.wire.specs.Fields.{ends_connection}
use Rattle.wire.specs.Frame.{IsFront, IsMessageAt}
use Rattle.wire.specs.Message.{Message}
use Rattle.wire.specs.declared.fault.WireFault.{WireFault}

-- why no further message is taken off a stream
pub data Stop : Type 0 where
  -- the last message ends the connection
  closed : Stop
  -- as many messages as were asked for have come
  limit : Stop
  -- nothing is left
  clean : Stop
  -- what is left begins with no whole message, for this fault
  broken : WireFault → Stop

-- no message is taken off what is left, where so many more may come
abbrev pub IsRest : List ℕ → ℕ → Stop → Type 0
IsRest rest most closed = ⊥
IsRest rest most limit = most ≡ 0
IsRest rest most clean = (0 < most) × (rest ≡ [])
IsRest rest most (broken f) = (0 < most) × (rest ≢ []) × IsFront rest (Err f)

-- the stream is these whole messages, at most so many, and then the rest, and stops there for that cause
abbrev pub Cut : List ℕ → ℕ → List Message → List ℕ → Stop → Type 0
Cut stream most [] rest stop = (stream ≡ rest) × IsRest rest most stop
Cut stream most (m ∷ messages) rest stop =
    (0 < most) × (after : List ℕ) × IsMessageAt stream m after
    × MatchBool (ends_connection m.minor m.fields)
    ((messages ≡ []) × (rest ≡ after) × (stop ≡ closed))
    (Cut after (most - 1) messages rest stop)
