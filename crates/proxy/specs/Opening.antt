-- What the seller of an item asks for as bidding begins. Amounts are cents.
use Rattle.std.specs.Prelude.{ℕ, Option}

pub record Opening : Type 0 where
  -- the price that bidding begins with
  pub start : ℕ
  -- the least for which the item is sold, which is sealed
  pub reserve : Option ℕ
