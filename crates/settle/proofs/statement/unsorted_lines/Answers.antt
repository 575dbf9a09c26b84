use Rattle.std.proofs.Common.{append-nil, sym, rules}
use Rattle.std.proofs.lemmas.List.Elements.{All-push}
use Rattle.settle.proofs.LineLemmas.{lines_more, no_lines}
use Rattle.settle.specs.Lines.{IsSplit}
use Rattle.settle.proofs.statement.unsorted_lines.Goals as goal
use Rattle.settle.proofs.statement.unsorted_lines.Goals.{in-Some+in_ok-push, in_default}

pub loop-sale-init : goal.loop-sale-init
loop-sale-init c = record {
  lines = rw c.new-rows.ensures.items (sym (no_lines c.args.member c.args.from c.args.to c.args.zone.now c.args.rate));
  split = search rules;
}

pub loop-sale-preserved : goal.loop-sale-preserved
loop-sale-preserved c =
    let more = lines_more c.args.sales.now c.loop-sale.sale-index c.sale-item.result c.args.member c.args.from c.args.to c.args.zone.now c.args.rate c.of.result c.loop-sale-test.true
    (rw c.sale-item.is at c.of.ensures.line) in
    elim c.match-of.branch [
      | in-Some+in_ok-push w ↦ record {
        lines = rw (w.rows-is, w.in_ok-push.ensures.items, c.loop-sale.invariant.lines) (sym (rw w.in-Some.is at more));
        split = rw (w.rows-is, w.in_ok-push.ensures.items) (All-push IsSplit c.loop-sale.rows.items w.in-Some.line c.loop-sale.invariant.split w.in-Some.ensures.split);
      }
      | in_default w ↦ record {
        lines = rw (w.rows-is, c.loop-sale.invariant.lines) (sym (rw (w.in_default.is, append-nil) at more));
        split = rw w.rows-is c.loop-sale.invariant.split;
      }
    ]
