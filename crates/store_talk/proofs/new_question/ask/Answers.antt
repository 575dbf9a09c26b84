use Rattle.std.proofs.Common.{◌≡◌, ◌∙◌, is_some, true, false, rules, sym, arith}
use Rattle.sqlite.specs.Held.{state}
use Rattle.house_rows.specs.declared.change.Change.TheVariants.{Ask}
use Rattle.store_rows.specs.Tables.{tables_in}
use Rattle.store_talk.proofs.SortedTalk.{found_sorted}
use Rattle.store_rows.proofs.Keys.{none_there, on_ok, some_there}
use Rattle.store_rows.proofs.CommitSteps.{survives_change}
use Rattle.store_talk.proofs.new_question.ask.Goals as goal

pub returns-in_err-question_at-clause-damaged : goal.returns-in_err-question_at-clause-damaged
unfolding tables_in
returns-in_err-question_at-clause-damaged g c clean free is =
    let house = (c.requires.rests (omega (arith, c.in_err-question_at.ensures.finds.read.crash.clean))).house in
    let same = found_sorted (state g.S.Store c.args.conn.now).now house c.args.item c.args.asker c.args.number (omega (arith, c.ranges.item)) (omega (arith, c.ranges.asker)) (omega (arith, c.ranges.number)) in
    c.in_err-question_at.ensures.finds.damaged clean (rw (sym same ∙ free) tt) (search rules)

pub returns-then-is_some-clause-damaged : goal.returns-then-is_some-clause-damaged
unfolding tables_in
returns-then-is_some-clause-damaged g c clean free is =
    let there : is_some c.in_ok-question_at.field-0 ≡ true = search rules in
    let house = (c.requires.rests (omega (arith, c.in_ok-question_at.ensures.finds.read.crash.clean))).house in
    let same = found_sorted (state g.S.Store c.args.conn.now).now house c.args.item c.args.asker c.args.number (omega (arith, c.ranges.item)) (omega (arith, c.ranges.asker)) (omega (arith, c.ranges.number)) in
    some_there c.in_ok-question_at.field-0 _ there (c.in_ok-question_at.ensures.finds.value clean) (sym same ∙ free)

pub returns-clause-taken : goal.returns-clause-taken
unfolding tables_in
returns-clause-taken g c clean =
    let there : is_some c.in_ok-question_at.field-0 ≡ false = search rules in
    let house = (c.requires.rests (omega (arith, c.in_ok-question_at.ensures.finds.read.crash.clean, c.commit_ask.ensures.commit.crash.clean))).house in
    let same = found_sorted (state g.S.Store c.args.conn.now).now house c.args.item c.args.asker c.args.number (omega (arith, c.ranges.item)) (omega (arith, c.ranges.asker)) (omega (arith, c.ranges.number)) in
    on_ok c.commit_ask.result (same ∙ none_there c.in_ok-question_at.field-0 _ there (c.in_ok-question_at.ensures.finds.value (omega (arith, c.commit_ask.ensures.commit.crash.clean))))

pub returns-clause-commit : goal.returns-clause-commit
returns-clause-commit g c =
    record {
      ok = search rules;
      err = search rules;
      only = search rules;
      mode = search rules;
      crash = survives_change (state g.S.Store c.args.conn.now) (state g.S.Store c.question_at.new.conn) (state g.S.Store c.commit_ask.new.conn) (Ask c.args.item c.args.asker c.args.number c.args.text)
          c.in_ok-question_at.ensures.finds.read.same c.in_ok-question_at.ensures.finds.read.crash c.commit_ask.ensures.commit.crash;
    }
