use Rattle.std.proofs.Common.{◌≡◌, ◌≤◌, true, drop, length, map}
use Rattle.tree_order.specs.Rows.{renumbered_row, is_table, in_order}
use Rattle.tree_order.proofs.rows.renumbered_rows.Given as goal

-- those from here on are in order
abbrev pub invariant-loop-left : goal.invariant-loop-left
invariant-loop-left l = record {
  within : l.left ≤ length l.rows.items;
  table : is_table l.rows.items ≡ true;
  sorted : l.all.items ≡ in_order (map (renumbered_row l.numbers.outer.items) (drop l.left l.rows.items));
}

abbrev pub decreases-loop-left : goal.decreases-loop-left
decreases-loop-left l = l.left
