-- What is kept where somebody leads. Amounts are cents.
use Rattle.std.specs.Prelude.{ℕ, List, Option, Some}
use Rattle.steps.specs.Table.{Band}
use Rattle.proxy.specs.Opening.{Opening}
use Rattle.proxy.specs.Kept.{Kept}
use Rattle.proxy.specs.Bids.{price_from}

-- from what the seller asks, the leader, its greatest maximum, that of all others, and the count
abbrev pub kept_led : List Band → Opening → ℕ → ℕ → Option ℕ → ℕ → Kept
kept_led bands opening leader top second count = record {
  start = opening.start;
  reserve = opening.reserve;
  price = price_from bands opening top second;
  leader = Some leader;
  top = Some top;
  second = second;
  count = count;
}
