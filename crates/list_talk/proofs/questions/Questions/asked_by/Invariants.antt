use Rattle.std.proofs.Common.{◌≡◌, take}
use Rattle.std.specs.Prelude.{◌==◌, ◌&&◌, nat_le}
use Rattle.house_rows.specs.Limits.{most_shown}
use Rattle.list_rows.specs.Blocks.{rows_of}
use Rattle.list_talk.proofs.Gathered.{gathered}
use Rattle.list_talk.proofs.questions.Questions.asked_by.Given as goal

-- the questions on the items so far were found, up to fifty in all
abbrev pub invariant-loop-concern : goal.invariant-loop-concern
invariant-loop-concern l = l.found.items ≡ take most_shown (gathered (λ q. q.item) (λ c. c.item) (λ q. (q.asker == l.member) && nat_le l.from q.item) (rows_of l.self-inside.blocks.items) (take l.concern-index l.concerns))
