use Rattle.std.proofs.Common.{rules}
use Rattle.pages.proofs.Undamaged.{by_second}
use Rattle.pages.proofs.people.feedback_to.Goals as goal

pub returns-in_err-feedback_for : goal.returns-in_err-feedback_for
returns-in_err-feedback_for g c = record {
  page = search rules;
  fits = search rules;
  faults = search rules;
  damaged = λ honest fit. by_second g.K.Keep c.in_err-feedback_for.field-0.0 _ c.in_ok-has_member.ensures.answers.read (search rules)
      c.in_err-feedback_for.ensures.answers.read c.from_residual-in_err-feedback_for.ensures.1 honest (λ same. c.in_err-feedback_for.ensures.answers.damaged honest (rw same fit.1));
  read = search rules;
}
