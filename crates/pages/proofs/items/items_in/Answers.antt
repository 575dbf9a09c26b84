use Rattle.std.proofs.Common.{rules}
use Rattle.pages.proofs.Undamaged.{by_second}
use Rattle.pages.proofs.items.items_in.Goals as goal

pub returns-in_err-items : goal.returns-in_err-items
returns-in_err-items g c = record {
  page = search rules;
  fits = search rules;
  faults = search rules;
  damaged = λ honest fit. by_second g.K.Keep c.in_err-items.field-0.0 _ c.in_ok-has_category.ensures.answers.read (search rules)
      c.in_err-items.ensures.answers.read c.from_residual-in_err-items.ensures.1 honest (λ same. c.in_err-items.ensures.answers.damaged honest (rw same fit.1));
  read = search rules;
}
