-- What a look at the bytes held says of a stream.
use Rattle.std.specs.Prelude.{◌≡◌, ◌≢◌, ◌⊎◌, ℕ, ◌≤◌, List, [], length, drop, Bool, true, false, Err}
use Rattle.wire.specs.Frame.{IsFront, IsMessageAt}
use Rattle.wire.specs.Front.{EndsInBody, EndsInHead, IsKnownFault}
use Rattle.wire.specs.declared.fault.WireFault.{WireFault}
use Rattle.wire.specs.declared.look.Look.{Look}
use Rattle.wire.specs.declared.look.Look.TheVariants as look

-- the front has that fault: at the end of the input as it is, and before it whatever follows
abbrev pub IsFaultOf : List ℕ → Bool → WireFault → Type 0
IsFaultOf held true f = IsFront held (Err f)
IsFaultOf held false f = IsKnownFault held f

-- a message is at the front, or more bytes may make one, or none ever will; at a clean end nothing
-- is held, at a fault something is
abbrev pub IsLook : List ℕ → Bool → Look → Type 0
IsLook held ended (look.Whole m) = IsMessageAt held m (drop m.length held) × (m.length ≤ length held)
IsLook held ended look.More = (ended ≡ false) × (EndsInHead held ⊎ EndsInBody held)
IsLook held ended look.Clean = (ended ≡ true) × (held ≡ [])
IsLook held ended (look.Fault f) = (held ≢ []) × IsFaultOf held ended f
