-- nothing but spaces was passed
use Rattle.std.proofs.Common.{◌-◌, ◌≤◌, [], drop, length}
use Rattle.site_bodies.specs.Passes.{Passes}
use Rattle.site_bodies.proofs.flat.after_spaces.Given as goal

abbrev pub invariant-loop-end : goal.invariant-loop-end
invariant-loop-end l = Passes l.bytes [] (drop l.end l.bytes) × (l.end ≤ length l.bytes)

abbrev pub decreases-loop-end : goal.decreases-loop-end
decreases-loop-end l = length l.bytes - l.end
