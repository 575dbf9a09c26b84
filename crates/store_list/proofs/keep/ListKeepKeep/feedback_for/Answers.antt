use Rattle.std.proofs.Common.{List, Bool, take, filter, rules}
use Rattle.std.specs.Prelude.{◌==◌, ◌&&◌, nat_le}
use Rattle.std.specs.List.{AllByRecursion}
use Rattle.house_rows.specs.declared.talk.Feedback.{Feedback}
use Rattle.house_rows.specs.Fits.{FeedbackFits}
use Rattle.house_rows.specs.Limits.{most_shown}
use Rattle.store_list.proofs.Fitting.{filter_fits, ok_items, take_fits}
use Rattle.store_list.proofs.keep.ListKeepKeep.feedback_for.Goals as goal

pub returns-clause-answers : goal.returns-clause-answers
returns-clause-answers c = record {
  value = λ _. rw (← c.self.view_is) c.given_to.ensures.value;
  faults = search rules;
  damaged = search rules;
  read = search rules;
}

pub returns-clause-fits : goal.returns-clause-fits
returns-clause-fits c =
    let rows : List Feedback = c.self.inside.feedback in
    let fits : AllByRecursion FeedbackFits rows = c.self.invariant.sound.feedback in
    let is_listed : Feedback → Bool = λ (f : Feedback). (f.to == c.args.member) && nat_le c.args.from f.item in
    let listed : List Feedback = filter is_listed rows in
    ok_items (λ xs. AllByRecursion FeedbackFits xs) c.given_to.result (take most_shown listed) c.given_to.ensures.value (take_fits FeedbackFits most_shown listed (filter_fits FeedbackFits is_listed rows fits))
