use Rattle.std.proofs.Common.{◌≡◌, take, filter}
use Rattle.std.specs.Prelude.{is_some}
use Rattle.list_rows.specs.Blocks.{rows_of}
use Rattle.list_talk.proofs.questions.Questions.all_published.Given as goal

-- the rows of the blocks so far were copied
abbrev pub invariant-loop-block : goal.invariant-loop-block
invariant-loop-block l = l.found.items ≡ filter (λ q. is_some q.answer) (rows_of (take l.block-index l.block-items))
