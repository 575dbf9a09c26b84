use Rattle.std.proofs.Common.{◌≡◌, drop}
use Rattle.json.specs.Value.{members_view}
use Rattle.site_bodies.specs.Members.{all_readable}
use Rattle.site_bodies.proofs.judged.seen_members.Given as goal

abbrev pub invariant-loop-member : goal.invariant-loop-member
invariant-loop-member l = all_readable (members_view (drop l.member-index l.members)) ≡ all_readable
    (members_view l.members)
