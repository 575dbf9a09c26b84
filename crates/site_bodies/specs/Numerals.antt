-- What a number of JSON is, as far as fields ask.
use Rattle.std.specs.Prelude.{◌≡◌, ◌<◌, ◌-◌, ℕ, ℤ, negsuc, pos, ◌^◌, nat_lt, if◌then◌else◌, Option, Some, None}
use Rattle.serde_json.specs.Data.{Num, unsigned, negative, float}
use Rattle.site_bodies.specs.declared.numeral.Numeric.{Numeric}
use Rattle.site_bodies.specs.declared.numeral.Numeric.TheVariants.{Whole, Below, Float}

abbrev pub kind_of : Num → Numeric
kind_of (unsigned n) = Whole n
kind_of (negative z) = Below z
kind_of (float x) = Float

abbrev pub whole_of : Option Numeric → Option ℕ
whole_of None = None
whole_of (Some (Whole n)) = Some n
whole_of (Some (Below z)) = None
whole_of (Some Float) = None

-- a number from 0 on, if it fits 64 bits with a sign
abbrev pub signed : ℕ → Option ℤ
signed n = if nat_lt n (2 ^ 63) then Some (pos n) else None

-- a number of that size below zero
abbrev pub IsMinus : ℕ → ℤ → Type 0
IsMinus n z = (0 < n) × (n < 2 ^ 63) × (z ≡ negsuc (n - 1))

abbrev pub integer_of : Option Numeric → Option ℤ
integer_of None = None
integer_of (Some (Whole n)) = signed n
integer_of (Some (Below z)) = Some z
integer_of (Some Float) = None
