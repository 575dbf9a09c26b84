use Rattle.std.proofs.Common.{◌≡◌, take}
use Rattle.tree_order.specs.Rows.{renumbered_row}
use Rattle.tree_order.proofs.rows.renumbered_row.Given as goal

-- the columns so far
abbrev pub invariant-loop-at : goal.invariant-loop-at
invariant-loop-at l = l.new ≡ renumbered_row l.numbers.outer.items (take l.at l.row)
