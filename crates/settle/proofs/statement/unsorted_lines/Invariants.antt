use Rattle.std.proofs.Common.{◌≡◌, take, All}
use Rattle.settle.specs.Lines.{IsSplit}
use Rattle.settle.specs.Statement.{lines_of}
use Rattle.settle.proofs.statement.unsorted_lines.Given as goal

abbrev pub invariant-loop-sale : goal.invariant-loop-sale
invariant-loop-sale l = record {
  lines : l.rows.items ≡ lines_of (take l.sale-index l.sales) l.member l.from l.to l.zone l.rate;
  split : All IsSplit l.rows.items;
}
