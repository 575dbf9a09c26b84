use Rattle.std.proofs.Common.{◌++◌, ◌∷◌, [], get_or, refl, sym, ◌∙◌, ap}
use Rattle.std.proofs.lemmas.List.{take_all}
use Rattle.house_rows.specs.Keeping.{AreInTurn}
use Rattle.list_items.specs.Indexed.{number_of}
use Rattle.list_items.proofs.Fronts.{sold_all, sold_at, sold_more, sold_none}
use Rattle.list_items.proofs.items.Items.sales_among.Goals as goal
use Rattle.list_items.proofs.items.Items.sales_among.Goals.{in-Some+in_ok-push, in_default}

pub loop-number-preserved : goal.loop-number-preserved
loop-number-preserved c =
    elim c.match-sale_with.branch [
      | in-Some+in_ok-push w ↦ rw (w.found-is, w.in_ok-push.ensures.ok) (ap (λ sales. sales ++ w.in-Some.sale ∷ []) c.loop-number.invariant
          ∙ sym (sold_more c.args.member c.args.self.now c.args.numbers.now c.loop-number.number-index (get_or c.args.numbers.now c.loop-number.number-index 0) w.in-Some.sale c.loop-number-test.true refl w.in-Some.ensures))
      | in_default w ↦ rw w.found-is (c.loop-number.invariant ∙ sym (sold_none c.args.member c.args.self.now c.args.numbers.now c.loop-number.number-index (get_or c.args.numbers.now c.loop-number.number-index 0) c.loop-number-test.true refl w.in_default.ensures))
    ]

pub returns-clause-value : goal.returns-clause-value
returns-clause-value c = λ t same.
    let in_turn : AreInTurn number_of 1 c.args.self.now = rw c.self.view_is at c.self.invariant.in_turn in
    c.loop-number.invariant ∙ ap (sold_at c.args.member c.args.self.now) (take_all c.loop-number.number-index c.args.numbers.now c.loop-number-test.false)
    ∙ sold_all c.args.member t c.args.self.now c.args.numbers.now same in_turn c.requires.rising c.requires.complete
