use Rattle.std.proofs.Common.{◌≡◌, drop}
use Rattle.tree_order.specs.Rows.{is_table}
use Rattle.tree_order.proofs.rows.is_table.Given as goal

-- what is left is a table if all is
abbrev pub invariant-loop-at : goal.invariant-loop-at
invariant-loop-at l = is_table l.rows ≡ is_table (drop l.at l.rows)
