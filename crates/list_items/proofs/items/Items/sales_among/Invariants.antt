use Rattle.std.proofs.Common.{◌≡◌, take}
use Rattle.std.specs.List.{filter_map}
use Rattle.house_rows.specs.Tables.{ItemRow}
use Rattle.list_items.specs.Indexed.{number_of}
use Rattle.list_items.specs.Rising.{rows_at}
use Rattle.list_items.specs.Sales.{sale_if_sold, sale_with}
use Rattle.list_items.proofs.items.Items.sales_among.Given as goal

-- the sales of the items so far were found
abbrev pub invariant-loop-number : goal.invariant-loop-number
invariant-loop-number l = l.found.items ≡ filter_map (λ (row : ItemRow). sale_with l.member (sale_if_sold row.item.terms)) (rows_at number_of (take l.number-index l.numbers) l.self)
