use Rattle.std.proofs.Common.{◌≡◌, map, take}
use Rattle.std.specs.List.{AllByRecursion}
use Rattle.store_rows.proofs.stored.all_of.Given as goal

abbrev pub invariant-loop-row : goal.invariant-loop-row
invariant-loop-row g l = record { values : l.all.items ≡ map g.T.Stored.report (take l.row-index l.rows); fits : AllByRecursion g.T.Stored.fits l.all.items }
