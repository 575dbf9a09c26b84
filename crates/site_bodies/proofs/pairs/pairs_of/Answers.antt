use Rattle.std.proofs.Common.{arith}
use Rattle.site_bodies.proofs.Paired.{join_none, no_pair, pair_step, pairs_end}
use Rattle.site_bodies.proofs.pairs.pairs_of.Goals as goal

pub loop-value-init : goal.loop-value-init
loop-value-init c = rw c.new-pairs.ensures.items (join_none _)

pub loop-value-preserved : goal.loop-value-preserved
loop-value-preserved c = rw c.in_ok-push.ensures.items
    (pair_step c.args.first.now c.args.second.now c.args.values.now c.loop-value.value-index c.value-item.result c.in-Some.pair c.loop-value.pairs.items
    (omega arith) c.value-item.is c.in-Some.ensures c.loop-value.invariant)

pub returns-in_default : goal.returns-in_default
returns-in_default c = no_pair c.args.first.now c.args.second.now c.args.values.now c.loop-value.value-index c.value-item.result c.loop-value.pairs.items
    (omega arith) c.value-item.is c.in_default.ensures c.loop-value.invariant

pub returns : goal.returns
returns c = pairs_end c.args.first.now c.args.second.now c.args.values.now c.loop-value.value-index c.loop-value.pairs.items (omega arith) c.loop-value.invariant
