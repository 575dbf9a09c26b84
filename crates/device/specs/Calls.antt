-- The calls that a device in memory takes before it fails.
use Rattle.std.specs.Prelude.{ℕ, ◌-◌, Option, None, Some}

-- one call less, where they are counted
abbrev pub one_less : Option ℕ → Option ℕ
one_less None = None
one_less (Some calls) = Some (calls - 1)
