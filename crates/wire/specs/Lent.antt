-- What an inbox has once its free room was written.
use Rattle.std.specs.Prelude.{ℕ, List, length}
use Rattle.std.specs.Borrow.{Lends, MutBor, Fml, Array, u8}
use Rattle.std.specs.List.{refill}
use Rattle.wire.specs.Held.{Held}
use Rattle.wire.specs.contracts.inbox.Inbox.{the_row}

-- the inbox holds the same, and its room is what was last written through r
abbrev pub LendsRoom : MutBor Held → MutBor (List ℕ) → Fml
LendsRoom inbox r = Lends the_row (Array u8 0) inbox r (λ written. record { held = inbox.now.held; room = refill (length r.now) r.now written })
