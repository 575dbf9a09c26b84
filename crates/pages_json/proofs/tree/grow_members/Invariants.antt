use Rattle.std.proofs.Common.{◌≡◌, map, take}
use Rattle.serde_json.specs.View.{members_view}
use Rattle.pages_json.specs.Fields.{member_of}
use Rattle.pages_json.specs.Words.{put_all}
use Rattle.pages_json.proofs.tree.grow_members.Given as goal

-- those so far are put
abbrev pub invariant-loop-field : goal.invariant-loop-field
invariant-loop-field l =
    members_view l.members.entries ≡ put_all (map member_of (take l.field-index l.fields)) (members_view l.fn.members.entries)
