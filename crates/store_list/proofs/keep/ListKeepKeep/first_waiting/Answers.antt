use Rattle.std.proofs.Common.{ℕ, Bool, ap, rules, tests, subst}
use Rattle.std.specs.Prelude.{find}
use Rattle.std.specs.List.{AllByRecursion}
use Rattle.house_rows.specs.Changed.{is_item}
use Rattle.house_rows.specs.Fits.{QuestionFits}
use Rattle.house_rows.specs.Found.{first_waiting, sells}
use Rattle.house_rows.specs.Limits.{most_shown}
use Rattle.store_list.proofs.Fitting.{filter_fits, ok_items, ok_same, take_fits, ok_each, ok_so, is_consistent_at, all_are_kept}
use Rattle.store_list.proofs.Waiting.{own_complete, risen}
use Rattle.house_rows.specs.declared.talk.Question.{Question}
use Rattle.house_rows.specs.Keeping.{AreSound, IsConsistentAt}
use Rattle.store_list.proofs.keep.ListKeepKeep.first_waiting.Goals as goal

pub first_waiting_on-requires-clause-rising : goal.first_waiting_on-requires-clause-rising
first_waiting_on-requires-clause-rising c = risen c.sold_by-own.result.now c.sold_by-own.ensures.rising

pub returns-clause-answers : goal.returns-clause-answers
returns-clause-answers c = record {
  value = λ _. ok_same c.first_waiting_on.result _ _ (c.first_waiting_on.ensures.value (λ item. sells (find (is_item item) c.self.inside.items) c.args.member) (λ item answer given. search (rules, tests))
      (own_complete c.args.member c.sold_by-own.result.now c.self.inside.items c.self.inside.questions c.sold_by-own.ensures.complete))
      (ap (λ t. first_waiting t c.args.member) c.self.view_is);
  faults = search rules;
  damaged = search rules;
  read = search rules;
}

pub returns-clause-fits : goal.returns-clause-fits
returns-clause-fits c =
    let is_own : ℕ → Bool = λ item. sells (find (is_item item) c.self.inside.items) c.args.member in
    ok_items (λ xs. AllByRecursion QuestionFits xs) c.first_waiting_on.result _ (c.first_waiting_on.ensures.value is_own (λ item answer given. search (rules, tests))
    (own_complete c.args.member c.sold_by-own.result.now c.self.inside.items c.self.inside.questions c.sold_by-own.ensures.complete))
    (take_fits QuestionFits most_shown _ (filter_fits QuestionFits _ _ c.self.invariant.sound.questions))

pub returns-clause-is_consistent : goal.returns-clause-is_consistent
returns-clause-is_consistent c = λ _. ok_each (λ (q : Question). IsConsistentAt c.args.self.now q.item) c.first_waiting_on.result (λ q. is_consistent_at c.args.self.now (subst AreSound c.self.view_is c.self.invariant.sound) q.item)

pub returns-clause-kept : goal.returns-clause-kept
returns-clause-kept c = λ _. ok_so c.first_waiting_on.result (all_are_kept c.args.self.now _ (subst AreSound c.self.view_is c.self.invariant.sound))
