use Rattle.std.proofs.Common.{◌≡◌, take}
use Rattle.std.specs.Prelude.{◌==◌, ◌&&◌, nat_le}
use Rattle.house_rows.specs.Limits.{most_shown}
use Rattle.list_rows.specs.Blocks.{rows_of}
use Rattle.list_talk.proofs.Gathered.{gathered}
use Rattle.list_talk.proofs.feedback.FeedbackTable.given_to.Given as goal

-- the feedback on the items so far was found, up to fifty in all
abbrev pub invariant-loop-concern : goal.invariant-loop-concern
invariant-loop-concern l = l.found.items ≡ take most_shown (gathered (λ f. f.item) (λ c. c.item) (λ f. (f.to == l.member) && nat_le l.from f.item) (rows_of l.self-inside.blocks.items) (take l.concern-index l.concerns))
