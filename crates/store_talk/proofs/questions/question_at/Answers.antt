use Rattle.std.proofs.Common.{◌≡◌, ◌<◌, ◌^◌, ◌∙◌, ap, arith, rules, slice_get, option_map, sym, subst, IfSome}
use Rattle.sqlite.specs.Held.{state}
use Rattle.sqlite.specs.State.{HasCleanDisk}
use Rattle.store_rows.specs.Rows.{question_of}
use Rattle.house_rows.specs.Fits.{QuestionFits}
use Rattle.store_rows.proofs.StateLemmas.{ok_then}
use Rattle.store_talk.proofs.TalkMeaning.{question_at_is}
use Rattle.store_talk.proofs.TalkReads.{first_question}
use Rattle.store_talk.proofs.questions.question_at.Goals as goal

pub rows_shown-requires-clause-plain : goal.rows_shown-requires-clause-plain
rows_shown-requires-clause-plain g c = λ b. (question_at_is b).2

pub returns-clause-finds : goal.returns-clause-finds
returns-clause-finds g c =
    let low : c.args.item < 2 ^ 32 = omega (arith, c.ranges.item) in
    let small : c.args.asker < 2 ^ 32 = omega (arith, c.ranges.asker) in
    let less : c.args.number < 2 ^ 32 = omega (arith, c.ranges.number) in
    let new = state g.S.Store c.rows_shown.new.conn in
    let rows = c.in_ok-rows.rows.items in
    let same : c.deref.result.now ≡ rows = search rules in
    let found = λ (clean : HasCleanDisk new). (
    let shown = rw (c.params-to_sql.ensures, c.params-to_sql-2.ensures, c.params-to_sql-3.ensures) at (c.in_ok-rows.ensures.rows clean) in
    ap (λ l. option_map question_of (slice_get l 0)) same ∙ first_question (state g.S.Store c.args.conn.now) new rows (c.rows_shown.ensures.house clean) c.args.item c.args.asker c.args.number low small less shown) in
    record {
      value = λ clean. ok_then c.first_of.result c.first_of.ensures.value (λ _ e. e ∙ found clean);
      damaged = λ clean fits. c.first_of.ensures.damaged (subst (λ o. IfSome o QuestionFits) (sym (found clean)) fits);
      read = search rules;
    }
