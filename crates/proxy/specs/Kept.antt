-- What is kept of an item's bids. Amounts are cents.
use Rattle.std.specs.Prelude.{ℕ, Option}
use Rattle.proxy.specs.Opening.{Opening}

pub record Kept : Type 0 where
  -- the price that the seller asks to begin with
  pub start : ℕ
  -- the least for which the seller sells, which is sealed
  pub reserve : Option ℕ
  pub price : ℕ
  pub leader : Option ℕ
  -- the leader's greatest maximum
  pub top : Option ℕ
  -- the greatest maximum of all others
  pub second : Option ℕ
  -- how many bids were accepted
  pub count : ℕ

-- what the seller asked for
abbrev pub opening_of : Kept → Opening
opening_of kept = record { start = kept.start; reserve = kept.reserve }
