-- What a stop leaves of a file.
use Rattle.std.specs.Prelude.{◌≡◌, ◌<◌, ◌/◌, ◌%◌, ◌==◌, ℕ, List, length, slice_index, slice_index_or, if◌then◌else◌}
use Rattle.stop_files.specs.declared.plate.Loss.{Loss}
use Rattle.stop_files.specs.declared.plate.Loss.TheVariants.{Nothing, All, Even, Odd}

-- the byte at a place, where every other sector of 512 bytes is lost: what was synced, or junk where nothing was
abbrev pub byte_left : ℕ → List ℕ → List ℕ → ℕ → ℕ
byte_left lost seen synced i = if (i / 512) % 2 == lost then slice_index_or synced i 165 else slice_index seen i

-- what was written, without every other sector
pub record IsTorn (lost : ℕ) (seen synced left : List ℕ) : Type 0 where
  pub long : length left ≡ length seen
  pub each : (i : ℕ) → i < length seen → slice_index left i ≡ byte_left lost seen synced i

-- what was written, without what is lost
abbrev pub IsLeft : Loss → List ℕ → List ℕ → List ℕ → Type 0
IsLeft Nothing seen synced left = left ≡ seen
IsLeft All seen synced left = left ≡ synced
IsLeft Even seen synced left = IsTorn 0 seen synced left
IsLeft Odd seen synced left = IsTorn 1 seen synced left
