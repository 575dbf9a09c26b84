use Rattle.std.proofs.Common.{◌≡◌, map, take}
use Rattle.std.specs.List.{AllByRecursion}
use Rattle.house_rows.specs.Fits.{TermsFit}
use Rattle.house_rows.specs.Keeping.{IsConsistentBy}
use Rattle.store_rows.specs.ItemRows.{terms_by}
use Rattle.store_items.specs.Standing.{IsShownKept}
use Rattle.store_items.proofs.reads.terms_list.Given as goal

abbrev pub invariant-loop-row : goal.invariant-loop-row
invariant-loop-row l = record {
  values : l.all.items ≡ map (terms_by l.rules.reserves) (take l.row-index l.rows);
  fits : AllByRecursion TermsFit l.all.items;
  is_consistent : AllByRecursion (λ it. IsConsistentBy l.rules.editions it) l.all.items;
  kept : AllByRecursion (IsShownKept l.rules.editions l.rules.reserves) (take l.row-index l.rows);
}
