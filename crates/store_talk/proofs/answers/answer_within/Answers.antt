use Rattle.std.proofs.Common.{arith}
use Rattle.store_rows.proofs.StateLemmas.{ok_then}
use Rattle.store_talk.proofs.Written.{answers}
use Rattle.store_talk.proofs.answers.answer_within.Goals as goal

pub returns-clause-ok : goal.returns-clause-ok
returns-clause-ok g c clean =
    ok_then c.set_clock.result (c.set_clock.ensures.ok clean) (λ _ w.
    answers _ _ _ _ c.args.text _ _ _ (c.requires.numbered (omega (arith, c.set_clock.ensures.write.crash.clean, c.set_answer.ensures.write.crash.clean))) (rw c.as_str.ensures at (c.in_ok-set_answer.ensures.ok (omega (arith, c.set_clock.ensures.write.crash.clean)))) w)
