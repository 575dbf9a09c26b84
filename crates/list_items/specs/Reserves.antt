-- The reserves of a member on what it sells, one at most of an item.
use Rattle.std.specs.Prelude.{if◌then◌else◌, ℕ, ◌==◌, ◌&&◌, nat_le, Option, None, option_map}
use Rattle.house_rows.specs.declared.item.OwnReserve.{OwnReserve}
use Rattle.house_rows.specs.Pages.{met_in}
use Rattle.house_rows.specs.Tables.{ItemRow}

-- the reserve on an item, where the member sells it and its number is not below another
abbrev pub reserve_with : ℕ → ℕ → ItemRow → Option OwnReserve
reserve_with member from row =
    if (row.item.terms.seller == member) && nat_le from row.item.terms.item
    then option_map (λ amount. record { item = row.item.terms.item; met = met_in row.item.terms; reserve = amount }) row.standing.reserve
    else None
