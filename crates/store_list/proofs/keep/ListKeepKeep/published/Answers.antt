use Rattle.std.proofs.Common.{List, Bool, take, filter, rules}
use Rattle.std.specs.Prelude.{◌==◌, ◌&&◌, nat_le, is_some}
use Rattle.std.specs.List.{AllByRecursion}
use Rattle.house_rows.specs.declared.talk.Question.{Question}
use Rattle.house_rows.specs.Fits.{QuestionFits}
use Rattle.house_rows.specs.Limits.{most_shown}
use Rattle.store_list.proofs.Fitting.{filter_fits, ok_items, take_fits}
use Rattle.store_list.proofs.keep.ListKeepKeep.published.Goals as goal

pub returns-clause-answers : goal.returns-clause-answers
returns-clause-answers c = record {
  value = λ _. rw (← c.self.view_is) c.published.ensures.value;
  faults = search rules;
  damaged = search rules;
  read = search rules;
}

pub returns-clause-fits : goal.returns-clause-fits
returns-clause-fits c =
    let rows : List Question = c.self.inside.questions in
    let fits : AllByRecursion QuestionFits rows = c.self.invariant.sound.questions in
    let is_answered : Question → Bool = λ (q : Question). is_some q.answer in
    let answered : List Question = filter is_answered rows in
    let is_listed : Question → Bool = λ (q : Question). (q.item == c.args.item) && nat_le c.args.from q.asker in
    let listed : List Question = filter is_listed answered in
    ok_items (λ xs. AllByRecursion QuestionFits xs) c.published.result (take most_shown listed) c.published.ensures.value (take_fits QuestionFits most_shown listed (filter_fits QuestionFits is_listed answered (filter_fits QuestionFits is_answered rows fits)))
