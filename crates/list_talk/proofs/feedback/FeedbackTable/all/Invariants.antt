use Rattle.std.proofs.Common.{◌≡◌, take, filter, true}
use Rattle.list_rows.specs.Blocks.{rows_of}
use Rattle.list_talk.proofs.feedback.FeedbackTable.all.Given as goal

-- the rows of the blocks so far were copied
abbrev pub invariant-loop-block : goal.invariant-loop-block
invariant-loop-block l = l.found.items ≡ filter (λ _. true) (rows_of (take l.block-index l.block-items))
