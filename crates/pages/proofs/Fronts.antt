-- A buffer to which something was appended begins with what it had.
use Rattle.std.proofs.Common.{◌≡◌, ◌++◌, ℕ, List}
use Rattle.pages.specs.Showing.{BeginsWith}

pub begins : (old new rest : List ℕ) → new ≡ old ++ rest → BeginsWith old new
begins old new rest parts = record { rest = rest; parts = parts }
