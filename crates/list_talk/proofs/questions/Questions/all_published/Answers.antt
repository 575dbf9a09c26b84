use Rattle.std.proofs.Common.{rules, tests}
use Rattle.std.specs.Prelude.{is_some}
use Rattle.house_rows.specs.declared.talk.Question.{Question}
use Rattle.list_talk.proofs.Gathered.{passed_more}
use Rattle.list_talk.proofs.questions.Questions.all_published.Goals as goal

pub loop-block-preserved : goal.loop-block-preserved
loop-block-preserved c = passed_more (λ (q : Question). is_some q.answer) c.deref-block-items.result.now c.loop-block.block-index c.block-item.result c.loop-block.found.items c.push_passing.new.found.items
    c.loop-block-test.true c.block-item.is c.loop-block.invariant (rw c.deref.ensures.value at (c.in_ok-push_passing.ensures.ok (λ q. is_some q.answer) (λ row answer given. search (rules, tests))))
