-- Sales, one at most of an item.
use Rattle.std.specs.Prelude.{if◌then◌else◌, ℕ, Bool, false, Option, Some, None, unwrap_or}
use Rattle.settle.specs.Statement.{is_party}
use Rattle.settle.specs.declared.sale.Sold.{Sold}
use Rattle.house_rows.specs.declared.item.Terms.{Terms}
use Rattle.house_rows.specs.Tables.{ItemRow}
use Rattle.house_rows.specs.Verdict.{was_sold}

-- the sale of an item, if it was sold
abbrev pub sale_if_sold : Terms → Option Sold
sale_if_sold terms =
    if was_sold terms.state
    then Some (record { item = terms.item; seller = terms.seller; buyer = unwrap_or terms.leader 0; closed = unwrap_or terms.closed 0; price = terms.price })
    else None

abbrev pub is_party_to : ℕ → Option Sold → Bool
is_party_to member None = false
is_party_to member (Some sale) = is_party member sale

-- whether an item was sold, and the member sold or bought it
abbrev pub is_sold_with : ℕ → ItemRow → Bool
is_sold_with member row = is_party_to member (sale_if_sold row.item.terms)

-- the sale, where the member is a party to it
abbrev pub sale_with : ℕ → Option Sold → Option Sold
sale_with member None = None
sale_with member (Some sale) = if is_party member sale then Some sale else None

-- the sale of a row that may be there
abbrev pub sale_of_row : ℕ → Option ItemRow → Option Sold
sale_of_row member None = None
sale_of_row member (Some row) = sale_with member (sale_if_sold row.item.terms)
