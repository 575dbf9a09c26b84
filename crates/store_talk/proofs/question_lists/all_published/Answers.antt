use Rattle.std.proofs.Common.{◌≡◌, ◌∙◌, ap, sym, subst, rules, map, [], ◌∷◌}
use Rattle.std.specs.Prelude.{is_some}
use Rattle.std.specs.List.{AllByRecursion}
use Rattle.sqlite.specs.Held.{state}
use Rattle.house_rows.specs.Fits.{QuestionFits}
use Rattle.store_rows.specs.Rows.{question_of}
use Rattle.store_rows.proofs.Both.{ok_both}
use Rattle.store_talk.proofs.QuestionMeaning.{all_published_is, all_published_text, was_answered}
use Rattle.store_talk.proofs.QuestionLists.{answered_test, questions_kept, questions_shown}
use Rattle.store_talk.proofs.question_lists.all_published.Goals as goal

pub rows_shown-requires-clause-plain : goal.rows_shown-requires-clause-plain
rows_shown-requires-clause-plain g c = λ b. (all_published_is b).2

pub returns-clause-finds : goal.returns-clause-finds
returns-clause-finds g c =
    let old = state g.S.Store c.args.conn.now in
    let new = state g.S.Store c.rows_shown.new.conn in
    let items = c.in_ok-rows.rows.items in
    let same : c.deref.result.now ≡ items = search rules in
    record {
      value = λ clean. (
          ok_both c.all_of.result c.all_of.ensures.value c.all_of.ensures.fits (λ all e fits.
          let report = e ∙ ap (map question_of) same in
          report ∙ questions_shown (was_answered ∷ []) [] all_published_text all_published_is old new items (c.rows_shown.ensures.house clean) (c.in_ok-rows.ensures.rows clean)
          (λ q. is_some q.answer) answered_test (subst (AllByRecursion QuestionFits) report fits)));
      damaged = λ clean fits. (
          c.all_of.ensures.damaged (subst (AllByRecursion QuestionFits) (sym (ap (map question_of) same))
          (questions_kept (was_answered ∷ []) [] all_published_text all_published_is old new items (c.rows_shown.ensures.house clean) (c.in_ok-rows.ensures.rows clean) (λ q. is_some q.answer) answered_test fits)));
      read = search rules;
    }
