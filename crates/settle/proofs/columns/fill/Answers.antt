use Rattle.std.proofs.Common.{refl, append_assoc}
use Rattle.std.proofs.lemmas.List.{replicate_more}
use Rattle.settle.proofs.columns.fill.Goals as goal

pub loop-preserved : goal.loop-preserved
loop-preserved c =
    rw (c.in_ok-push.ensures.items, c.loop.invariant, append_assoc c.args.line.now.items, replicate_more) refl
