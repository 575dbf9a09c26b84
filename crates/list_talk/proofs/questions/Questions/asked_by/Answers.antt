use Rattle.std.proofs.Common.{◌∙◌, Bool, take, ap, arith, rules, tests}
use Rattle.std.specs.Prelude.{◌==◌, ◌&&◌, nat_le}
use Rattle.std.proofs.lemmas.Bool.Decides.{nat_tests}
use Rattle.std.proofs.lemmas.List.{take_all}
use Rattle.house_rows.specs.declared.talk.Question.{Question}
use Rattle.house_rows.specs.Limits.{most_shown}
use Rattle.house_rows.specs.Changed.{question_key}
use Rattle.list_rows.specs.Blocks.{rows_of}
use Rattle.list_rows.proofs.Blocked.{rows_rise}
use Rattle.list_rows.proofs.Growing.{front_short}
use Rattle.list_talk.specs.declared.concerns.Concern.{Concern}
use Rattle.list_talk.proofs.Askers.{asked_from, by_asker}
use Rattle.list_talk.proofs.Gathered.{gathered, gathered_full, gathered_shown}
use Rattle.list_talk.proofs.Noting.{own_gathered}
use Rattle.list_talk.proofs.questions.Questions.asked_by.Goals as goal

pub of_asker-rows-requires : goal.of_asker-rows-requires
of_asker-rows-requires c = rw (c.block.ensures, c.deref.ensures.value) (by_asker c.from.result (rows_of c.self.inside.blocks.items) (rows_rise question_key 0 c.self.inside.blocks.items c.self.invariant.blocked))

pub push_shown-requires-clause-room : goal.push_shown-requires-clause-room
push_shown-requires-clause-room c = front_short most_shown _ _ c.loop-concern.invariant

pub loop-concern-preserved : goal.loop-concern-preserved
loop-concern-preserved c =
    let test : Question → Bool = λ q. (q.asker == c.args.member) && nat_le c.args.from q.item in
    gathered_shown (λ (q : Question). q.item) (λ (d : Concern). d.item) test (rows_of c.self.inside.blocks.items) c.of-concerns.result.now c.loop-concern.concern-index _ c.from.result most_shown
    c.loop-concern.found.items c.push_shown.new.found.items c.loop-concern-test.true c.from.ensures c.loop-concern.invariant
    (rw (c.of_asker-rows.ensures, c.block.ensures, c.deref.ensures.value, asked_from c.args.member c.args.from c.from.result (rows_of c.self.inside.blocks.items)) at (c.in_ok-push_shown.ensures.ok (λ q. nat_le c.args.from q.item) (λ row answer given. search (rules, tests))))

pub returns-clause-value : goal.returns-clause-value
returns-clause-value c =
    let test : Question → Bool = λ q. (q.asker == c.args.member) && nat_le c.args.from q.item in
    c.loop-concern.invariant
    ∙ ap (λ cs. take most_shown (gathered (λ (q : Question). q.item) (λ (d : Concern). d.item) test (rows_of c.self.inside.blocks.items) cs)) (take_all _ _ c.loop-concern-test.false ∙ c.of-concerns.ensures.items)
    ∙ ap (take most_shown) (rw (← c.self.view_is) (own_gathered question_key (λ (q : Question). q.asker) test c.args.member c.args.from c.self.inside.asked (rows_of c.self.inside.blocks.items)
    (rows_rise question_key 0 c.self.inside.blocks.items c.self.invariant.blocked) c.of-concerns.ensures.rising (λ q passes. (grind (arith, nat_tests, passes), grind (arith, nat_tests, passes))) c.self.invariant.noted))

pub returns-then-len-ge-MOST_SHOWN-clause-value : goal.returns-then-len-ge-MOST_SHOWN-clause-value
returns-then-len-ge-MOST_SHOWN-clause-value c =
    let test : Question → Bool = λ q. (q.asker == c.args.member) && nat_le c.args.from q.item in
    gathered_full (λ (q : Question). q.item) (λ (d : Concern). d.item) test (rows_of c.self.inside.blocks.items) c.of-concerns.result.now c.loop-concern.concern-index most_shown c.loop-concern.found.items c.loop-concern.invariant (search rules)
    ∙ ap (λ cs. take most_shown (gathered (λ (q : Question). q.item) (λ (d : Concern). d.item) test (rows_of c.self.inside.blocks.items) cs)) c.of-concerns.ensures.items
    ∙ ap (take most_shown) (rw (← c.self.view_is) (own_gathered question_key (λ (q : Question). q.asker) test c.args.member c.args.from c.self.inside.asked (rows_of c.self.inside.blocks.items)
    (rows_rise question_key 0 c.self.inside.blocks.items c.self.invariant.blocked) c.of-concerns.ensures.rising (λ q passes. (grind (arith, nat_tests, passes), grind (arith, nat_tests, passes))) c.self.invariant.noted))
