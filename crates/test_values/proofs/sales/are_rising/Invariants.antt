use Rattle.std.proofs.Common.{ℕ, ◌<◌, ◌≤◌, get_or}
use Rattle.settle.specs.declared.sale.Sold.{Sold}
use Rattle.test_values.proofs.sales.are_rising.Given as goal

abbrev pub invariant-loop-sale : goal.invariant-loop-sale
invariant-loop-sale l = record {
  below : (j : ℕ) (d : Sold) → j < l.sale-index → (get_or l.sales j d).item ≤ l.last;
  rising : (i j : ℕ) (d : Sold) → i < j → j < l.sale-index → (get_or l.sales i d).item < (get_or l.sales j d).item;
}
