use Rattle.std.proofs.Common.{arith}
use Rattle.store_rows.proofs.StateLemmas.{ok_then}
use Rattle.store_talk.proofs.Written.{asks}
use Rattle.store_talk.proofs.new_question.ask_within.Goals as goal

pub returns-clause-ok : goal.returns-clause-ok
returns-clause-ok g c clean =
    ok_then c.put_question.result (c.put_question.ensures.ok clean) (λ _ w. asks _ _ _ c.args.text _ _ (c.requires.numbered (omega (arith, c.put_question.ensures.write.crash.clean))) (rw c.as_str.ensures at w))
