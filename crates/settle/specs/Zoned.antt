-- The civil day of a moment in a time zone.
use Rattle.std.specs.Prelude.{◌≤◌, ◌≢◌, ℕ, ℤ, pos, ◌+ℤ◌, ◌*ℤ◌, List, All}
use Rattle.std.specs.Int.{int_div_euclid}
use Rattle.jiff.specs.Words.{offset_at, nanos_of_seconds, plain_zone}
use Rattle.jiff.specs.Placed.{IsPosixZone}
use Rattle.settle.specs.declared.zone.Zone.{Zone}

-- a byte of a text without control characters
abbrev pub IsPlainByte : ℕ → Type 0
IsPlainByte b = (32 ≤ b) × (b ≢ 127)

-- no character below U+0020 is in the text, and no U+007F
abbrev pub IsPlainText : List ℕ → Type 0
IsPlainText text = All IsPlainByte text

-- the zone is the one whose POSIX rule the text is
abbrev pub IsZoneOf : List ℕ → Zone → Type 0
IsZoneOf text zone = IsPosixZone text (plain_zone zone.rule)

-- the instant of a moment, in nanoseconds since 1970-01-01T00:00:00Z
abbrev pub instant_of : ℕ → ℤ
instant_of moment = pos moment *ℤ pos 1_000_000_000

-- what a clock in the zone shows at the moment, in nanoseconds since 1970-01-01T00:00:00 on it
abbrev pub clock_at : Zone → ℕ → ℤ
clock_at zone moment =
    instant_of moment +ℤ nanos_of_seconds (offset_at (plain_zone zone.rule) (instant_of moment))

-- the number of the civil day in the zone at the moment; negative before 1970
unfoldable pub day_at : Zone → ℕ → ℤ
day_at zone moment = int_div_euclid (clock_at zone moment) (pos 86_400_000_000_000)
