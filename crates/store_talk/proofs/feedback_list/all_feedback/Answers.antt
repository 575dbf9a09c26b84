use Rattle.std.proofs.Common.{◌≡◌, ◌∙◌, ap, sym, subst, rules, map, true, refl, []}
use Rattle.std.specs.List.{AllByRecursion}
use Rattle.sqlite.specs.Held.{state}
use Rattle.house_rows.specs.Fits.{FeedbackFits}
use Rattle.store_rows.specs.Rows.{feedback_of}
use Rattle.store_rows.proofs.Both.{ok_both}
use Rattle.store_talk.proofs.FeedbackLists.{all_feedback_is, all_feedback_text, everything_passes, feedback_fit, feedback_shown}
use Rattle.store_talk.proofs.feedback_list.all_feedback.Goals as goal

pub rows_shown-requires-clause-plain : goal.rows_shown-requires-clause-plain
rows_shown-requires-clause-plain g c = λ b. (all_feedback_is b).2

pub returns-clause-finds : goal.returns-clause-finds
returns-clause-finds g c =
    let old = state g.S.Store c.args.conn.now in
    let new = state g.S.Store c.rows_shown.new.conn in
    let items = c.in_ok-rows.rows.items in
    let same : c.deref.result.now ≡ items = search rules in
    record {
      value = λ clean. ok_both c.all_of.result c.all_of.ensures.value c.all_of.ensures.fits (λ all e fits.
          let report = e ∙ ap (map feedback_of) same in
          report ∙ feedback_shown [] [] all_feedback_text all_feedback_is old new items (c.rows_shown.ensures.house clean) (c.in_ok-rows.ensures.rows clean)
          (λ f. true) (λ r is. refl) (subst (AllByRecursion FeedbackFits) report fits) ∙ everything_passes _);
      damaged = λ clean fits. c.all_of.ensures.damaged (subst (AllByRecursion FeedbackFits) (sym (ap (map feedback_of) same))
          (feedback_fit [] [] all_feedback_text all_feedback_is old new items (c.rows_shown.ensures.house clean) (c.in_ok-rows.ensures.rows clean) fits));
      read = search rules;
    }
