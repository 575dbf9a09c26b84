use Rattle.std.proofs.Common.{rules}
use Rattle.pages.proofs.Undamaged.{by_second}
use Rattle.pages.proofs.talk.published.Goals as goal

pub returns-in_err-published : goal.returns-in_err-published
returns-in_err-published g c = record {
  page = search rules;
  fits = search rules;
  faults = search rules;
  damaged = λ honest fit. by_second g.K.Keep c.in_err-published.field-0.0 _ c.in_ok-terms.ensures.answers.read (search rules)
      c.in_err-published.ensures.answers.read c.from_residual-in_err-published.ensures.1 honest (λ same. c.in_err-published.ensures.answers.damaged honest (rw same fit.1));
  read = search rules;
}
