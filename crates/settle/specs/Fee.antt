-- What the seller pays of a price.
use Rattle.std.specs.Prelude.{ℕ, ◌*◌, ◌/◌}

-- so many ten-thousandths of the price, rounded down
abbrev pub fee_of : ℕ → ℕ → ℕ
fee_of price rate = price * rate / 10000
