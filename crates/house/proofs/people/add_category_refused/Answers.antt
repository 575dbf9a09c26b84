use Rattle.std.proofs.Common.{rules, ◌≡◌, ◌∙◌, sym, true, false}
use Rattle.house_rows.specs.Verdict.{category_rules}
use Rattle.house.specs.Judged.{first_rules}
use Rattle.house.proofs.Found.{answer_after}
use Rattle.house.proofs.people.add_category_refused.Goals as goal

pub returns-in-None : goal.returns-in-None
returns-in-None g c = record {
  value = λ honest.
      let going : g.K.Keep.is_failed c.common.new.keep ≡ false = search rules in
      let before = c.category_refused.ensures.read.honest honest in
      let same : g.K.Keep.content c.common.new.keep ≡ g.K.Keep.content c.args.keep.now = c.in_ok-refusal.ensures.answers.read.same before going in
      answer_after (first_rules (g.K.Keep.content c.args.keep.now) c.args.moment c.args.caller true) (category_rules c.args.name.now (g.K.Keep.content c.args.keep.now).categories)
      c.category_refused.result (sym (c.in_ok-refusal.ensures.answers.value before) ∙ c.in-None.is) (rw same at (c.category_refused.ensures.value honest));
  faults = search rules;
  damaged = search rules;
  read = search rules;
}
