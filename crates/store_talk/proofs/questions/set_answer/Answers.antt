use Rattle.std.proofs.Common.{◌<◌, ◌^◌, arith}
use Rattle.store_rows.proofs.StateLemmas.{ok_then}
use Rattle.store_talk.proofs.AnswerLemmas.{sets_answer}
use Rattle.store_talk.proofs.questions.set_answer.Goals as goal

pub returns-clause-ok : goal.returns-clause-ok
returns-clause-ok g c clean =
    let house = c.run.ensures.house clean in
    let low : c.args.item < 2 ^ 32 = omega (arith, c.ranges.item) in
    let small : c.args.asker < 2 ^ 32 = omega (arith, c.ranges.asker) in
    let less : c.args.number < 2 ^ 32 = omega (arith, c.ranges.number) in
    ok_then c.run.result (rw (c.params-to_sql.ensures, c.params-to_sql-2.ensures, c.params-to_sql-3.ensures, c.params-to_sql-4.ensures) at (c.run.ensures.ran clean))
    (λ _ ran. sets_answer _ _ c.args.item c.args.asker c.args.number c.args.text.now ran.0 c.utf8.text house low small less ran.1)
