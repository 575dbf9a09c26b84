use Rattle.std.specs.Prelude.{IsSome}
use Rattle.test_tree_order.proofs.print_rows.Given as goal

abbrev pub invariant-loop : goal.invariant-loop
invariant-loop g l = IsSome ((g.S.Store.view l.store).cursors 0)
