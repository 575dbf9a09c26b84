use Rattle.std.proofs.Common.{◌∙◌, ap, arith, length}
use Rattle.std.proofs.lemmas.List.Sorted.{All-permutation, length_permutation}
use Rattle.settle.proofs.LineLemmas.{length-lines, lines_apart, lines_numbered}
use Rattle.settle.proofs.OrderLemmas.{in_order-permutation}
use Rattle.settle.specs.Lines.{IsSplit}
use Rattle.settle.specs.Statement.{in_order, rows_of}
use Rattle.settle.proofs.statement.sorted_lines.Goals as goal

pub sort-requires-clause-items : goal.sort-requires-clause-items
sort-requires-clause-items c =
    rw c.in_ok-rows.ensures.lines (lines_apart c.args.sales.now c.args.member c.args.from c.args.to c.args.zone.now c.args.rate c.requires.items)

pub sort-requires-clause-numbers : goal.sort-requires-clause-numbers
sort-requires-clause-numbers c =
    rw c.in_ok-rows.ensures.lines (lines_numbered c.args.sales.now c.args.member c.args.from c.args.to c.args.zone.now c.args.rate c.requires.sales)

pub returns-clause-rows : goal.returns-clause-rows
unfolding rows_of
returns-clause-rows c = c.in_ok-sort.ensures ∙ ap in_order c.in_ok-rows.ensures.lines

pub returns-clause-few : goal.returns-clause-few
returns-clause-few c =
    let same = length_permutation _ _ (in_order-permutation c.in_ok-rows.rows.items) in
    let lines = length-lines c.args.sales.now c.args.member c.args.from c.args.to c.args.zone.now c.args.rate in
    rw c.in_ok-sort.ensures (omega (arith, same, ap length c.in_ok-rows.ensures.lines, lines, c.requires.few))

pub returns-clause-split : goal.returns-clause-split
returns-clause-split c =
    rw c.in_ok-sort.ensures (All-permutation IsSplit _ _ (in_order-permutation c.in_ok-rows.rows.items) c.in_ok-rows.ensures.split)
