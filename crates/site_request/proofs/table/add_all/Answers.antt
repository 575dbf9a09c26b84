use Rattle.std.proofs.Common.{◌<◌, ◌∙◌, sym, map, length, arith}
use Rattle.std.proofs.lemmas.List.{at_drop_more}
use Rattle.site_request.specs.Table.{added}
use Rattle.site_request.proofs.table.add_all.Goals as goal

pub loop-pattern-preserved : goal.loop-pattern-preserved
loop-pattern-preserved c =
    let lt : c.loop-pattern.pattern-index < length c.args.table.now = omega arith in
    let step = at_drop_more (λ xs. added (map (λ p. (p.0.now, p.1)) xs) c.loop-pattern.router) c.args.table.now c.loop-pattern.pattern-index _ lt in
    rw c.in_ok-add.ensures (sym step ∙ c.loop-pattern.invariant)
