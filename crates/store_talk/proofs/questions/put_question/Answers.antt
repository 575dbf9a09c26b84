use Rattle.std.proofs.Common.{arith}
use Rattle.store_rows.proofs.StateLemmas.{ok_then}
use Rattle.store_talk.proofs.TalkLemmas.{adds_question}
use Rattle.store_talk.proofs.questions.put_question.Goals as goal

pub returns-clause-ok : goal.returns-clause-ok
returns-clause-ok g c clean =
    let house = c.run.ensures.house clean in
    ok_then c.run.result (rw (c.params-to_sql.ensures, c.params-to_sql-2.ensures, c.params-to_sql-3.ensures, c.params-to_sql-4.ensures) at (c.run.ensures.ran clean))
    (λ _ ran. adds_question _ _ c.args.item c.args.asker c.args.number c.args.text.now ran.0 (omega (arith, c.ranges.item)) (omega (arith, c.ranges.asker)) (omega (arith, c.ranges.number)) c.utf8.text house ran.1)
