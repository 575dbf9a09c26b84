use Rattle.std.proofs.Common.{◌∙◌, sym, ap, rules, tests}
use Rattle.std.specs.Prelude.{not, is_some}
use Rattle.std.proofs.lemmas.List.{take_all}
use Rattle.house_rows.specs.Changed.{question_key}
use Rattle.list_rows.specs.Blocks.{rows_of}
use Rattle.list_rows.proofs.Blocked.{rows_rise}
use Rattle.list_talk.proofs.Waiting.{waiting_all, waiting_among, waiting_less, waiting_more}
use Rattle.list_talk.proofs.questions.Questions.waiting_on.Goals as goal
use Rattle.list_talk.proofs.questions.Questions.waiting_on.Goals.{then-passes+in_ok-push_passing, else-passes}

pub loop-number-preserved : goal.loop-number-preserved
loop-number-preserved g c = (
  c.loop-number.invariant.0,
  λ test known.
      let so_far = c.loop-number.invariant.1 test known in
      elim c.if-passes.branch [
        | then-passes+in_ok-push_passing w ↦ rw w.found-is (waiting_more test (rows_of c.self.inside.blocks.items) c.args.items.now c.loop-number.number-index c.from-item.result c.loop-number.found.items _ c.loop-number-test.true c.from-item.ensures so_far
            (sym (known _ _ c.passes.ensures) ∙ w.if-passes.true)
            (rw (w.block-rows.ensures, w.deref.ensures.value) at (w.in_ok-push_passing.ensures.ok (λ q. not (is_some q.answer)) (λ row answer given. search (rules, tests)))))
        | else-passes w ↦ rw w.found-is (waiting_less test (rows_of c.self.inside.blocks.items) c.args.items.now c.loop-number.number-index c.from-item.result c.loop-number.found.items c.loop-number-test.true c.from-item.ensures so_far
            (sym (known _ _ c.passes.ensures) ∙ w.if-passes.false))
      ],
)

pub returns-clause-value : goal.returns-clause-value
returns-clause-value g c = λ test known complete.
    c.loop-number.invariant.1 test known
    ∙ ap (waiting_among test (rows_of c.self.inside.blocks.items)) (take_all c.loop-number.number-index c.args.items.now c.loop-number-test.false)
    ∙ rw c.self.view_is (waiting_all test c.args.self.now c.args.items.now (rw c.self.view_is at (rows_rise question_key 0 c.self.inside.blocks.items c.self.invariant.blocked)) c.requires.rising complete)
