use Rattle.std.proofs.Common.{◌≡◌, ◌+◌, ◌≤◌, ◌<◌, length, take, true, false, sym, ◌∙◌, ap, arith}
use Rattle.std.proofs.lemmas.List.{take_all}
use Rattle.house_rows.specs.Keeping.{AreInTurn}
use Rattle.house_rows.specs.declared.item.Item.{Item}
use Rattle.house_rows.specs.Tables.{ItemRow}
use Rattle.list_items.specs.Indexed.{number_of}
use Rattle.list_items.proofs.Fronts.{page_full, page_more, passed_all, passed_at, passed_less, passed_more, passed_none}
use Rattle.list_items.proofs.items.Items.first_passing.Goals as goal
use Rattle.list_items.proofs.items.Items.first_passing.Goals.{in-Some+then-passes+in_ok-push_copy, in-Some+else-passes, in_default}

pub loop-number-preserved : goal.loop-number-preserved
loop-number-preserved g c = (
  c.loop-number.invariant.0,
  λ test given.
      let report : ItemRow → Item = λ (row : ItemRow). row.item in
      let so_far = c.loop-number.invariant.1 test given in
      elim c.match-item.branch [
        | in-Some+then-passes+in_ok-push_copy w ↦ (
            let room : length c.loop-number.found.items < c.args.most = omega (arith, c.if-len-most.false, c.len.ensures, c.loop-number.found.ok.0) in
            let passes : test w.in-Some.item.now ≡ true = sym (given _ w.passes.result w.passes.ensures) ∙ w.if-passes.true in
            rw (w.found-is, w.in_ok-push_copy.ensures.ok) (page_more c.args.most (passed_at report test number_of c.args.self.now (take c.loop-number.number-index c.args.numbers.now)) (passed_at report test number_of c.args.self.now (take (c.loop-number.number-index + 1) c.args.numbers.now)) c.loop-number.found.items w.in-Some.item.now so_far
            (passed_more report test number_of c.args.self.now c.args.numbers.now c.loop-number.number-index c.from.result w.in-Some.item.now c.loop-number-test.true c.from.ensures w.in-Some.ensures passes) room))
        | in-Some+else-passes w ↦ (
            let fails : test w.in-Some.item.now ≡ false = sym (given _ w.passes.result w.passes.ensures) ∙ w.if-passes.false in
            rw w.found-is (so_far ∙ ap (take c.args.most) (sym (passed_less report test number_of c.args.self.now c.args.numbers.now c.loop-number.number-index c.from.result w.in-Some.item.now c.loop-number-test.true c.from.ensures w.in-Some.ensures fails))))
        | in_default w ↦ rw w.found-is (so_far ∙ ap (take c.args.most) (sym (passed_none report test number_of c.args.self.now c.args.numbers.now c.loop-number.number-index c.from.result c.loop-number-test.true c.from.ensures w.in_default.ensures)))
      ],
)

pub returns-then-len-most-clause-value : goal.returns-then-len-most-clause-value
returns-then-len-most-clause-value g c = λ test given has.
    let report : ItemRow → Item = λ (row : ItemRow). row.item in
    let in_turn : AreInTurn number_of 1 c.args.self.now = rw c.self.view_is at c.self.invariant.in_turn in
    let full : c.args.most ≤ length c.loop-number.found.items = omega (arith, c.if-len-most.true, c.len.ensures, c.loop-number.found.ok.0) in
    page_full report test number_of c.args.self.now c.args.numbers.now c.loop-number.number-index c.args.most c.loop-number.found.items (c.loop-number.invariant.1 test given) full
    ∙ ap (take c.args.most) (passed_all report test number_of c.args.self.now c.args.numbers.now in_turn c.requires.rising has)

pub returns-clause-value : goal.returns-clause-value
returns-clause-value g c = λ test given has.
    let report : ItemRow → Item = λ (row : ItemRow). row.item in
    let in_turn : AreInTurn number_of 1 c.args.self.now = rw c.self.view_is at c.self.invariant.in_turn in
    c.loop-number.invariant.1 test given
    ∙ ap (λ ks. take c.args.most (passed_at report test number_of c.args.self.now ks)) (take_all c.loop-number.number-index c.args.numbers.now c.loop-number-test.false)
    ∙ ap (take c.args.most) (passed_all report test number_of c.args.self.now c.args.numbers.now in_turn c.requires.rising has)
