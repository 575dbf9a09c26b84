use Rattle.std.proofs.Common.{◌≡◌, map, take}
use Rattle.std.specs.List.{AllByRecursion}
use Rattle.house_rows.specs.Fits.{ItemFits}
use Rattle.house_rows.specs.Keeping.{IsConsistentBy, IsKeptRowBy}
use Rattle.store_rows.specs.ItemRows.{item_by, row_by}
use Rattle.store_items.proofs.reads.item_list.Given as goal

abbrev pub invariant-loop-row : goal.invariant-loop-row
invariant-loop-row l = record {
  values : l.all.items ≡ map (item_by l.rules.reserves) (take l.row-index l.rows);
  fits : AllByRecursion ItemFits l.all.items;
  is_consistent : AllByRecursion (λ it. IsConsistentBy l.rules.editions it.terms) l.all.items;
  kept : AllByRecursion (IsKeptRowBy l.rules.editions) (map (row_by l.rules.reserves) (take l.row-index l.rows));
}
