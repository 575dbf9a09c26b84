-- nothing after the end has the name
use Rattle.std.proofs.Common.{◌≡◌, ◌≤◌, length, take}
use Rattle.serde_json.specs.Data.{no_members}
use Rattle.serde_json.specs.Find.{get_member}
use Rattle.site_bodies.specs.Slots.{put_all}
use Rattle.site_bodies.proofs.flat.last.Given as goal

abbrev pub invariant-loop-end : goal.invariant-loop-end
invariant-loop-end l = (l.end ≤ length l.slots)
    × (get_member l.name (put_all (take l.end l.slots) no_members) ≡ get_member l.name (put_all l.slots no_members))

abbrev pub decreases-loop-end : goal.decreases-loop-end
decreases-loop-end l = l.end
