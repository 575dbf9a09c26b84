-- How far SQL counts.
use Rattle.std.specs.Prelude.{ℕ, ◌^◌, pos, List, Option, option_map, slice_get}
use Rattle.sqlite_value.specs.declared.value.Value.{Value}
use Rattle.sqlite_value.specs.declared.value.Value.TheVariants.{Int}
use Rattle.sqlite_value.specs.Order.{Row, column}

abbrev pub most_counted : ℕ
most_counted = 9223372036854775807

-- a count, which has up to 63 bits; what is none is more than any
abbrev pub count_in : Value → ℕ
count_in (Int (pos n)) = n
count_in _ = 2 ^ 64

-- the count that an answer shows first
abbrev pub first_number : List Row → Option ℕ
first_number rows = option_map (λ r. count_in (column r 0)) (slice_get rows 0)
