use Rattle.std.proofs.Common.{◌∙◌, true, rules}
use Rattle.house_rows.specs.declared.talk.Feedback.{Feedback}
use Rattle.list_rows.proofs.Growing.{filter_every}
use Rattle.list_talk.proofs.Gathered.{passed_all, passed_more}
use Rattle.list_talk.proofs.feedback.FeedbackTable.all.Goals as goal

pub loop-block-preserved : goal.loop-block-preserved
loop-block-preserved c = passed_more (λ (_ : Feedback). true) c.deref-block-items.result.now c.loop-block.block-index c.block-item.result c.loop-block.found.items c.push_passing.new.found.items
    c.loop-block-test.true c.block-item.is c.loop-block.invariant (rw c.deref.ensures.value at (c.in_ok-push_passing.ensures.ok (λ _. true) (λ row answer given. search rules)))

pub returns-clause-value : goal.returns-clause-value
returns-clause-value c = passed_all (λ (_ : Feedback). true) c.deref-block-items.result.now c.loop-block.block-index c.loop-block.found.items c.loop-block-test.false c.loop-block.invariant
    ∙ rw (c.deref-block-items.ensures.value, c.self.view_is) (filter_every c.args.self.now)
