use Rattle.std.proofs.Common.{◌≡◌, ◌==◌, ◌∙◌, ◌<◌, ◌^◌, ap, arith, rules, map, subst, sym}
use Rattle.sqlite.specs.Held.{state}
use Rattle.sqlite.specs.State.{HasCleanDisk}
use Rattle.std.specs.List.{AllByRecursion}
use Rattle.house_rows.specs.declared.talk.Feedback.{Feedback}
use Rattle.store_rows.specs.Rows.{feedback_in, feedback_of}
use Rattle.house_rows.specs.Fits.{FeedbackFits}
use Rattle.store_rows.proofs.ShownRows.{kept_where}
use Rattle.store_rows.proofs.StateLemmas.{ok_then}
use Rattle.store_talk.proofs.TalkMeaning.{feedback_to_is}
use Rattle.store_talk.proofs.TalkReads.{feedback_to_answer}
use Rattle.store_talk.proofs.feedback.feedback_rows.Goals as goal

pub rows_shown-requires-clause-plain : goal.rows_shown-requires-clause-plain
rows_shown-requires-clause-plain g c = λ b. (feedback_to_is b).2

pub returns-clause-finds : goal.returns-clause-finds
returns-clause-finds g c =
    let low : c.args.member < 2 ^ 32 = omega (arith, c.ranges.member) in
    let old = state g.S.Store c.args.conn.now in
    let new = state g.S.Store c.rows_shown.new.conn in
    let rows = c.in_ok-rows.rows.items in
    let same : c.deref.result.now ≡ rows = search rules in
    let found = λ (clean : HasCleanDisk new). ap (map feedback_of) same ∙ feedback_to_answer old new rows (c.rows_shown.ensures.house clean) c.args.member low (rw c.params-to_sql.ensures at (c.in_ok-rows.ensures.rows clean)) in
    record {
      value = λ clean. ok_then c.all_of.result c.all_of.ensures.value (λ _ e. e ∙ found clean);
      damaged = λ clean fits. c.all_of.ensures.damaged (subst (AllByRecursion FeedbackFits) (sym (found clean)) (kept_where (λ (f : Feedback). f.to == c.args.member) FeedbackFits (feedback_in old.now.trees) fits));
      read = search rules;
    }
