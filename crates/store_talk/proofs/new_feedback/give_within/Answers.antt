use Rattle.std.proofs.Common.{arith}
use Rattle.store_rows.proofs.StateLemmas.{ok_then}
use Rattle.store_talk.proofs.Written.{gives}
use Rattle.store_talk.proofs.new_feedback.give_within.Goals as goal

pub returns-clause-ok : goal.returns-clause-ok
returns-clause-ok g c clean =
    ok_then c.set_clock.result (c.set_clock.ensures.ok clean) (λ _ w.
    gives _ _ _ _ _ c.args.text _ _ _ (c.requires.numbered (omega (arith, c.set_clock.ensures.write.crash.clean, c.put_feedback.ensures.write.crash.clean))) (rw c.as_str.ensures at (c.in_ok-put_feedback.ensures.ok (omega (arith, c.set_clock.ensures.write.crash.clean)))) w)
