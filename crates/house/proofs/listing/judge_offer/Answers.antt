use Rattle.std.proofs.Common.{rules, ◌≡◌, ◌∙◌, sym, false}
use Rattle.house.specs.Judged.{first_rules}
use Rattle.house.specs.Offered.{offer_rules}
use Rattle.house.proofs.Offers.{report_after}
use Rattle.house.proofs.listing.judge_offer.Goals as goal

pub returns-in-None-clause-answers : goal.returns-in-None-clause-answers
returns-in-None-clause-answers g c = record {
  value = λ honest.
      let going : g.K.Keep.is_failed c.common.new.keep ≡ false = search rules in
      let before = c.judge_lot.ensures.answers.read.honest honest in
      let same : g.K.Keep.content c.common.new.keep ≡ g.K.Keep.content c.args.keep.now = c.in_ok-refusal.ensures.answers.read.same before going in
      report_after (first_rules (g.K.Keep.content c.args.keep.now) c.args.moment c.args.caller false) (offer_rules (g.K.Keep.content c.args.keep.now) c.args.moment c.args.caller c.args.offer.now)
      c.judge_lot.result (sym (c.in_ok-refusal.ensures.answers.value before) ∙ c.in-None.is) (rw same at (c.judge_lot.ensures.answers.value honest));
  faults = search rules;
  damaged = search rules;
  read = search rules;
}
