-- What was dealt on an item: its bids and its purchase, without their moments.
use Rattle.std.specs.Prelude.{if◌then◌else◌, ℕ, List, [], ◌∷◌, ◌++◌, ◌==◌}
use Rattle.house_rows.specs.declared.command.Command.{Command}
use Rattle.house_rows.specs.declared.command.Command.TheVariants.{Bid, Buy}
use Rattle.house_rows.specs.History.{History}

-- a bid, by its member and its maximum, or a purchase, by its buyer
pub data Deal : Type 0 where
  Offer : ℕ → ℕ → Deal
  Purchase : ℕ → Deal

abbrev pub deal_in : ℕ → ℕ → Command → List Deal
deal_in i caller (Bid j maximum) = if j == i then Offer caller maximum ∷ [] else []
deal_in i caller (Buy j) = if j == i then Purchase caller ∷ [] else []
deal_in i caller _ = []

-- the deals on an item, in order
abbrev pub deals_on : History → ℕ → List Deal
deals_on [] i = []
deals_on (e ∷ h) i = deals_on h i ++ deal_in i e.caller e.command
