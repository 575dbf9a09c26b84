-- the members so far were read off the front
use Rattle.std.proofs.Common.{◌≡◌, length, take}
use Rattle.site_bodies.proofs.Walked.{Walked}
use Rattle.site_bodies.proofs.flat.flat_object.Given as goal

abbrev pub invariant-loop-place : goal.invariant-loop-place
invariant-loop-place l = (length l.slots ≡ 8) × Walked l.bytes (take l.place l.slots) l.rest
