use Rattle.std.proofs.Common.{◌≡◌, ◌++◌, drop}
use Rattle.std.specs.Io.{StartsWith}
use Rattle.pages_json.specs.Words.{entries_text}
use Rattle.pages_json.proofs.entry.put_entries.Given as goal

-- what is written and what is left are all
abbrev pub invariant-loop-entry : goal.invariant-loop-entry
invariant-loop-entry g l = record {
  text : l.out.items ++ entries_text (g.F.Shows.tree l.form) (drop l.entry-index l.entries) ≡ l.fn.out.items ++ entries_text (g.F.Shows.tree l.form) l.entries;
  front : StartsWith l.out.items l.fn.out.items;
}
