use Rattle.std.proofs.Common.{rules}
use Rattle.store.proofs.keep.SqlKeepKeep.reserve.Goals as goal

pub returns-in_err-standing-clause-answers : goal.returns-in_err-standing-clause-answers
returns-in_err-standing-clause-answers g c = record {
  value = search rules;
  faults = record {
    store = search rules;
    damaged = λ honest sound is. c.in_err-standing.ensures.answers.faults.damaged honest sound (search rules);
  };
  damaged = λ honest fits is. c.in_err-standing.ensures.answers.damaged honest fits (search rules);
  read = search rules;
}
