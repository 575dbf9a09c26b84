-- The reserves that a member has sealed.
use Rattle.std.specs.Prelude.{ℕ, if◌then◌else◌, List, Option, None, nat_le}
use Rattle.sqlite_value.specs.Order.{Row, column}
use Rattle.house_rows.specs.Pages.{reserve_reported}
use Rattle.house_rows.specs.declared.item.OwnReserve.{OwnReserve}
use Rattle.store_rows.specs.ItemRows.{amount_of, terms_by}
use Rattle.store_rows.specs.Rows.{number_in}
use Rattle.store_rows.specs.declared.reserve.ReserveRow.{ReserveRow}

-- the reserve of the item that a query shows, if it has one and its number is not below another
abbrev pub reserve_in : List ReserveRow → ℕ → Row → Option ℕ
reserve_in reserves from r =
    if nat_le from (number_in (column r 0)) then amount_of reserves (number_in (column r 0)) else None

-- the same with whether it is met
abbrev pub reserve_shown : List ReserveRow → ℕ → Row → List OwnReserve
reserve_shown reserves from r = reserve_reported (terms_by reserves r) (reserve_in reserves from r)
