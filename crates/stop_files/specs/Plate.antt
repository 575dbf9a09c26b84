-- What a clause reads of a file that stops at a call.
use Rattle.std.specs.Prelude.{◌≡◌, ◌-◌, ◌||◌, ◌==◌, ℕ, Bool, false, List}
use Rattle.stop_files.specs.declared.plate.Plate.{Plate}

-- the bytes that a read finds
abbrev pub seen_on : Plate → List ℕ
seen_on p = p.seen.items

-- the bytes that outlast a stop
abbrev pub synced_on : Plate → List ℕ
synced_on p = p.synced.items

-- the calls that are answered before one is refused
abbrev pub calls_left : Plate → ℕ
calls_left p = p.left

-- whether a call was refused
abbrev pub has_stopped : Plate → Bool
has_stopped p = p.stopped

-- these bytes are there, all of them synced, and no call will be refused
pub record IsFresh (bytes : List ℕ) (p : Plate) : Type 0 where
  pub seen : seen_on p ≡ bytes
  pub synced : synced_on p ≡ bytes
  pub left : calls_left p ≡ 18446744073709551615
  pub stopped : has_stopped p ≡ false

-- one call less, and a stop where there was none left
pub record Spends (old new : Plate) : Type 0 where
  pub left : calls_left new ≡ calls_left old - 1
  pub stopped : has_stopped new ≡ (has_stopped old || (calls_left old == 0))

-- the bytes are as they were
pub record KeepsBytes (old new : Plate) : Type 0 where
  pub seen : seen_on new ≡ seen_on old
  pub synced : synced_on new ≡ synced_on old
