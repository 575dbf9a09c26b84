-- each byte so far stands for itself, and is ASCII
use Rattle.std.proofs.Common.{◌-◌, ◌≡◌, ◌≤◌, length, take}
use Rattle.std.specs.Str.{IsAscii}
use Rattle.json.specs.Print.{escape}
use Rattle.site_bodies.proofs.flat.name_length.Given as goal

abbrev pub invariant-loop-end : goal.invariant-loop-end
invariant-loop-end l = (l.end ≤ length l.bytes) × (escape (take l.end l.bytes) ≡ take l.end l.bytes) × IsAscii (take l.end l.bytes)

abbrev pub decreases-loop-end : goal.decreases-loop-end
decreases-loop-end l = length l.bytes - l.end
