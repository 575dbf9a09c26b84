use Rattle.std.proofs.Common.{◌≡◌, take, map}
use Rattle.house_rows.specs.Tables.{ItemRow}
use Rattle.list_items.proofs.items.Items.all.Given as goal

-- the items so far were copied
abbrev pub invariant-loop-row : goal.invariant-loop-row
invariant-loop-row l = l.found.items ≡ map (λ (row : ItemRow). row.item) (take l.row-index l.self)
