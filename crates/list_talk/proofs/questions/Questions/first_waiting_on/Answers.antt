use Rattle.std.proofs.Common.{◌∙◌, sym, ap, rules, take, tests}
use Rattle.std.specs.Prelude.{not, is_some}
use Rattle.std.proofs.lemmas.List.{take_all}
use Rattle.house_rows.specs.Changed.{question_key}
use Rattle.house_rows.specs.Limits.{most_shown}
use Rattle.house_rows.specs.declared.talk.Question.{Question}
use Rattle.list_rows.specs.Blocks.{rows_of}
use Rattle.list_rows.proofs.Blocked.{rows_rise}
use Rattle.list_rows.proofs.Growing.{front_short}
use Rattle.list_talk.proofs.Gathered.{gathered_full}
use Rattle.list_talk.proofs.Waiting.{first_less, first_more, is_waiting, waiting_all, waiting_among}
use Rattle.list_talk.proofs.questions.Questions.first_waiting_on.Goals as goal
use Rattle.list_talk.proofs.questions.Questions.first_waiting_on.Goals.{then-passes+in_ok-push_shown, else-passes}

pub loop-number-preserved : goal.loop-number-preserved
loop-number-preserved g c = (
  c.loop-number.invariant.0,
  elim c.if-passes.branch [
    | then-passes+in_ok-push_shown w ↦ rw w.found-is (front_short most_shown _ _ (w.in_ok-push_shown.ensures.ok (λ q. not (is_some q.answer)) (λ row answer given. search (rules, tests))))
    | else-passes w ↦ rw w.found-is c.loop-number.invariant.1
  ],
  λ test known.
      let so_far = c.loop-number.invariant.2 test known in
      elim c.if-passes.branch [
        | then-passes+in_ok-push_shown w ↦ rw w.found-is (first_more most_shown test (rows_of c.self.inside.blocks.items) c.args.items.now c.loop-number.number-index c.from-item.result c.loop-number.found.items _ c.loop-number-test.true c.from-item.ensures so_far
            (sym (known _ _ c.passes.ensures) ∙ w.if-passes.true)
            (rw (w.block-rows.ensures, w.deref.ensures.value) at (w.in_ok-push_shown.ensures.ok (λ q. not (is_some q.answer)) (λ row answer given. search (rules, tests)))))
        | else-passes w ↦ rw w.found-is (first_less most_shown test (rows_of c.self.inside.blocks.items) c.args.items.now c.loop-number.number-index c.from-item.result c.loop-number.found.items c.loop-number-test.true c.from-item.ensures so_far
            (sym (known _ _ c.passes.ensures) ∙ w.if-passes.false))
      ],
)

pub returns-clause-value : goal.returns-clause-value
returns-clause-value g c = λ test known complete.
    c.loop-number.invariant.2 test known
    ∙ ap (λ items. take most_shown (waiting_among test (rows_of c.self.inside.blocks.items) items)) (take_all c.loop-number.number-index c.args.items.now c.loop-number-test.false)
    ∙ ap (take most_shown) (rw c.self.view_is (waiting_all test c.args.self.now c.args.items.now (rw c.self.view_is at (rows_rise question_key 0 c.self.inside.blocks.items c.self.invariant.blocked)) c.requires.rising complete))

pub returns-then-len-ge-MOST_SHOWN-clause-value : goal.returns-then-len-ge-MOST_SHOWN-clause-value
returns-then-len-ge-MOST_SHOWN-clause-value g c = λ test known complete.
    gathered_full (λ (q : Question). q.item) (λ item. item) (is_waiting test) (rows_of c.self.inside.blocks.items) c.args.items.now c.loop-number.number-index most_shown c.loop-number.found.items (c.loop-number.invariant.2 test known) (search rules)
    ∙ ap (take most_shown) (rw c.self.view_is (waiting_all test c.args.self.now c.args.items.now (rw c.self.view_is at (rows_rise question_key 0 c.self.inside.blocks.items c.self.invariant.blocked)) c.requires.rising complete))
