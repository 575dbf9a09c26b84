use Rattle.std.proofs.Common.{List, Bool, take, filter, rules}
use Rattle.std.specs.Prelude.{◌==◌, ◌&&◌, nat_le}
use Rattle.std.specs.List.{AllByRecursion}
use Rattle.house_rows.specs.declared.talk.Question.{Question}
use Rattle.house_rows.specs.Fits.{QuestionFits}
use Rattle.house_rows.specs.Limits.{most_shown}
use Rattle.store_list.proofs.Fitting.{filter_fits, ok_items, take_fits}
use Rattle.store_list.proofs.keep.ListKeepKeep.questions_of.Goals as goal

pub returns-clause-answers : goal.returns-clause-answers
returns-clause-answers c = record {
  value = λ _. rw (← c.self.view_is) c.asked_by.ensures.value;
  faults = search rules;
  damaged = search rules;
  read = search rules;
}

pub returns-clause-fits : goal.returns-clause-fits
returns-clause-fits c =
    let rows : List Question = c.self.inside.questions in
    let fits : AllByRecursion QuestionFits rows = c.self.invariant.sound.questions in
    let is_listed : Question → Bool = λ (q : Question). (q.asker == c.args.member) && nat_le c.args.from q.item in
    let listed : List Question = filter is_listed rows in
    ok_items (λ xs. AllByRecursion QuestionFits xs) c.asked_by.result (take most_shown listed) c.asked_by.ensures.value (take_fits QuestionFits most_shown listed (filter_fits QuestionFits is_listed rows fits))
