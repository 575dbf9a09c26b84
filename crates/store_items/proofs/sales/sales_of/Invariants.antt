use Rattle.std.proofs.Common.{◌≡◌, ◌++◌, drop, flat_map}
use Rattle.house_rows.specs.Pages.{sale_of}
use Rattle.store_items.proofs.sales.sales_of.Given as goal

abbrev pub invariant-loop-terms : goal.invariant-loop-terms
invariant-loop-terms l = l.sales.items ++ flat_map sale_of (drop l.terms-index l.items) ≡ flat_map sale_of l.items
