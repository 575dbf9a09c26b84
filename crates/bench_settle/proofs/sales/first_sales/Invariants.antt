use Rattle.std.proofs.Common.{◌≡◌, ◌<◌, ◌+◌, ℕ, All, get_or, length}
use Rattle.settle.specs.Statement.{IsSale}
use Rattle.settle.specs.declared.sale.Sold.{Sold}
use Rattle.bench_settle.proofs.sales.first_sales.Given as goal

abbrev pub invariant-loop-before : goal.invariant-loop-before
invariant-loop-before l = record {
  count : length l.sales.items ≡ l.before;
  items : (k : ℕ) (d : Sold) → k < l.before → (get_or l.sales.items k d).item ≡ k + 1;
  sales : All IsSale l.sales.items;
}
