use Rattle.std.proofs.Common.{◌≡◌, ◌++◌, drop, map}
use Rattle.std.specs.Io.{StartsWith}
use Rattle.pages_json.specs.Words.{members_text}
use Rattle.pages_json.specs.Fields.{member_of}
use Rattle.pages_json.proofs.object.put_members.Given as goal

-- what is written and what is left are all
abbrev pub invariant-loop-field : goal.invariant-loop-field
invariant-loop-field l = record {
  text : l.out.items ++ members_text (map member_of (drop l.field-index l.fields)) ≡ l.fn.out.items ++ members_text (map member_of l.fields);
  front : StartsWith l.out.items l.fn.out.items;
}
