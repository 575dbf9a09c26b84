use Rattle.std.proofs.Common.{◌≡◌, ◌<◌, ◌^◌, ◌∙◌, ap, arith, rules, map, subst, sym}
use Rattle.std.specs.List.{AllByRecursion}
use Rattle.sqlite.specs.Held.{state}
use Rattle.house_rows.specs.Fits.{QuestionFits}
use Rattle.store_rows.specs.Rows.{question_of}
use Rattle.store_rows.proofs.Both.{ok_both}
use Rattle.store_talk.proofs.QuestionMeaning.{waiting_on_is}
use Rattle.store_talk.proofs.QuestionPages.{waiting_finite, waiting_kept, waiting_shown}
use Rattle.store_talk.proofs.question_pages.first_waiting_on.Goals as goal

pub first_rows-requires-clause-plain : goal.first_rows-requires-clause-plain
first_rows-requires-clause-plain g c = λ b. (waiting_on_is b).2

pub first_rows-requires-clause-finite : goal.first_rows-requires-clause-finite
first_rows-requires-clause-finite g c = waiting_finite

pub returns-clause-finds : goal.returns-clause-finds
returns-clause-finds g c =
    let low : c.args.item < 2 ^ 32 = omega (arith, c.ranges.item) in
    let old = state g.S.Store c.args.conn.now in
    let new = state g.S.Store c.first_rows.new.conn in
    let rows = c.in_ok-rows.rows.items in
    let same : c.deref.result.now ≡ rows = search rules in
    record {
      value = λ clean. (
          let first = rw c.params-to_sql.ensures at (c.in_ok-rows.ensures.rows clean) in
          ok_both c.all_of.result c.all_of.ensures.value c.all_of.ensures.fits (λ all e fits.
          let report = e ∙ ap (map question_of) same in
          report ∙ waiting_shown c.args.item low old new (c.first_rows.ensures.house clean) rows first (subst (AllByRecursion QuestionFits) report fits)));
      damaged = λ clean fits. (
          let first = rw c.params-to_sql.ensures at (c.in_ok-rows.ensures.rows clean) in
          let fit = waiting_kept c.args.item low old new (c.first_rows.ensures.house clean) rows first fits in
          c.all_of.ensures.damaged (subst (AllByRecursion QuestionFits) (sym (ap (map question_of) same)) fit));
      read = search rules;
    }
