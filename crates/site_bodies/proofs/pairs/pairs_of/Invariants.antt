use Rattle.std.proofs.Common.{◌≡◌, drop}
use Rattle.serde_json.specs.View.{items_view}
use Rattle.site_bodies.specs.Pairs.{pairs_in}
use Rattle.site_bodies.proofs.Paired.{joined}
use Rattle.site_bodies.proofs.pairs.pairs_of.Given as goal

-- the pairs so far are before those of what is left
abbrev pub invariant-loop-value : goal.invariant-loop-value
invariant-loop-value l =
    joined l.pairs.items (pairs_in l.first l.second (items_view (drop l.value-index l.values))) ≡ pairs_in l.first l.second (items_view l.values)
