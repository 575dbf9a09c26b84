-- Bytes that stand for themselves in a string of JSON.
use Rattle.std.specs.Prelude.{◌≢◌, ◌≤◌, ℕ}

-- no control character below 0x20, no quote and no backslash
abbrev pub IsPlainByte : ℕ → Type 0
IsPlainByte byte = (32 ≤ byte) × (byte ≢ 34) × (byte ≢ 92)
