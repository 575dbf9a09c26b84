-- What is true of the tables that are kept in memory.
use Rattle.std.specs.Prelude.{◌≡◌, List, true, IfSome}
use Rattle.std.specs.List.{AllByRecursion, list_any}
use Rattle.house_rows.specs.Bids.{BidRow}
use Rattle.house_rows.specs.Keeping.{AreSound}
use Rattle.house_rows.specs.Tables.{ItemRow, Tables}
use Rattle.list_bids.specs.Tallies.{is_own}

-- where a member leads, it has bid on the item
abbrev pub IsLed : List BidRow → ItemRow → Type 0
IsLed bids row = IfSome row.standing.leader (λ member. list_any (is_own member row.item.terms.item) bids ≡ true)

pub record IsKept (t : Tables) : Type 0 where
  pub sound : AreSound t
  pub led : AllByRecursion (IsLed t.bids) t.items
