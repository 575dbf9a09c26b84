use Rattle.std.proofs.Common.{◌++◌, ◌∙◌, ap, arith, subst, sym, take, rules}
use Rattle.std.specs.List.{AllByRecursion}
use Rattle.house_rows.specs.Fits.{QuestionFits}
use Rattle.house_rows.specs.Limits.{most_shown}
use Rattle.list_rows.proofs.Growing.{front_after}
use Rattle.list_rows.proofs.Order.{every_append}
use Rattle.store_rows.proofs.Tested.{all-take}
use Rattle.store_talk.proofs.waiting_questions.add_first_waiting.Goals as goal

pub returns-in-Ok-clause-finds : goal.returns-in-Ok-clause-finds
returns-in-Ok-clause-finds g c = record {
  value = λ clean.
      c.truncate.ensures.items ∙ ap (take most_shown) (c.in-Ok.ensures.items ∙ ap (λ l. c.args.asked.now.items ++ l) (c.in_ok-more.ensures.finds.value clean))
      ∙ front_after most_shown most_shown c.args.asked.now.items _ (omega arith);
  damaged = search rules;
  read = search rules;
}

pub returns-in-Ok-clause-fits : goal.returns-in-Ok-clause-fits
returns-in-Ok-clause-fits g c old =
    subst (AllByRecursion QuestionFits) (sym (c.truncate.ensures.items ∙ ap (take most_shown) c.in-Ok.ensures.items))
    (all-take QuestionFits most_shown _ (every_append QuestionFits c.args.asked.now.items c.in_ok-more.more.items old c.in_ok-more.ensures.fits))
