use Rattle.std.proofs.Common.{rules, ◌≡◌, ◌∙◌, sym, false}
use Rattle.std.specs.Prelude.{◌==◌, ◌&&◌}
use Rattle.std.specs.List.{list_any}
use Rattle.house_rows.specs.Text.{is_lot, same_text}
use Rattle.house.specs.Offered.{terms_rules}
use Rattle.house.proofs.Offers.{report_after_lot}
use Rattle.house.proofs.listing.judge_lot.Goals as goal

pub returns-clause-answers : goal.returns-clause-answers
returns-clause-answers g c = record {
  value = λ honest.
      let going : g.K.Keep.is_failed c.has_lot.new.keep ≡ false = search rules in
      let before = c.judge_terms.ensures.answers.read.honest honest in
      let same : g.K.Keep.content c.has_lot.new.keep ≡ g.K.Keep.content c.args.keep.now = c.in_ok-has_lot.ensures.read.same before going in
      report_after_lot (is_lot c.args.offer.now.lot.now)
      (list_any (λ row. (row.item.terms.seller == c.args.caller) && same_text row.item.lot c.args.offer.now.lot.now) (g.K.Keep.content c.args.keep.now).items)
      (terms_rules (g.K.Keep.content c.args.keep.now) c.args.moment c.args.offer.now) c.judge_terms.result
      (sym c.is_lot.ensures ∙ c.if-not-is_lot.false) (sym (c.in_ok-has_lot.ensures.value before) ∙ c.if-branch.false) (rw same at (c.judge_terms.ensures.answers.value honest));
  faults = search rules;
  damaged = search rules;
  read = search rules;
}
