use Rattle.std.proofs.Common.{◌≡◌, ◌==◌, ◌&&◌, ◌<◌, ◌^◌, ◌∙◌, pos, not, ap, sym, subst, arith, rules, map, [], ◌∷◌}
use Rattle.std.specs.Prelude.{is_some}
use Rattle.std.specs.List.{AllByRecursion}
use Rattle.sqlite_value.specs.declared.value.Value.TheVariants.{Int}
use Rattle.sqlite.specs.Held.{state}
use Rattle.house_rows.specs.Fits.{QuestionFits}
use Rattle.store_rows.specs.Rows.{question_of}
use Rattle.store_rows.proofs.Select.{equals}
use Rattle.store_rows.proofs.Both.{ok_both}
use Rattle.store_talk.proofs.QuestionMeaning.{waiting_on_is, waiting_on_text, waits}
use Rattle.store_talk.proofs.QuestionLists.{waiting_test, questions_kept, questions_shown}
use Rattle.store_talk.proofs.question_lists.waiting_on.Goals as goal

pub rows_shown-requires-clause-plain : goal.rows_shown-requires-clause-plain
rows_shown-requires-clause-plain g c = λ b. (waiting_on_is b).2

pub returns-clause-finds : goal.returns-clause-finds
returns-clause-finds g c =
    let low : c.args.item < 2 ^ 32 = omega (arith, c.ranges.item) in
    let old = state g.S.Store c.args.conn.now in
    let new = state g.S.Store c.rows_shown.new.conn in
    let items = c.in_ok-rows.rows.items in
    let same : c.deref.result.now ≡ items = search rules in
    record {
      value = λ clean. (
          let shown = rw c.params-to_sql.ensures at (c.in_ok-rows.ensures.rows clean) in
          ok_both c.all_of.result c.all_of.ensures.value c.all_of.ensures.fits (λ all e fits.
          let report = e ∙ ap (map question_of) same in
          report ∙ questions_shown (equals 1 ∷ waits ∷ []) (Int (pos c.args.item) ∷ []) waiting_on_text waiting_on_is old new items (c.rows_shown.ensures.house clean) shown
          (λ q. (q.item == c.args.item) && not (is_some q.answer)) (waiting_test c.args.item low) (subst (AllByRecursion QuestionFits) report fits)));
      damaged = λ clean fits. (
          let shown = rw c.params-to_sql.ensures at (c.in_ok-rows.ensures.rows clean) in
          c.all_of.ensures.damaged (subst (AllByRecursion QuestionFits) (sym (ap (map question_of) same))
          (questions_kept (equals 1 ∷ waits ∷ []) (Int (pos c.args.item) ∷ []) waiting_on_text waiting_on_is old new items (c.rows_shown.ensures.house clean) shown (λ q. (q.item == c.args.item) && not (is_some q.answer)) (waiting_test c.args.item low) fits)));
      read = search rules;
    }
