use Rattle.std.proofs.Common.{◌≡◌, ◌==◌, ◌∙◌, ap, rules, subst}
use Rattle.std.specs.List.{AllByRecursion}
use Rattle.sqlite.specs.Held.{state}
use Rattle.house_rows.specs.Fits.{FeedbackFits}
use Rattle.house_rows.specs.History.{counted}
use Rattle.house_rows.specs.Ratings.{is_minus, is_plus, is_zero}
use Rattle.house_rows.specs.declared.talk.Feedback.{Feedback}
use Rattle.store_rows.specs.Rows.{feedback_in}
use Rattle.store_rows.proofs.ShownRows.{where_kept}
use Rattle.store_talk.proofs.Counted.{ratings_are}
use Rattle.store_talk.proofs.rated.ratings.Goals as goal

pub returns-clause-finds : goal.returns-clause-finds
returns-clause-finds g c = record {
  value = λ clean. (
      let given = c.in_ok-given.given.items in
      let same : c.deref.result.now ≡ given = search rules in
      ratings_are (state g.S.Store c.args.conn.now).now.trees c.args.member given (c.in_ok-given.ensures.finds.value clean) c.counts_of.result
      (c.counts_of.ensures.plus ∙ ap (counted (λ f. is_plus f.rating)) same)
      (c.counts_of.ensures.zero ∙ ap (counted (λ f. is_zero f.rating)) same)
      (c.counts_of.ensures.minus ∙ ap (counted (λ f. is_minus f.rating)) same));
  damaged = search rules;
  read = search rules;
}

pub returns-clause-fits : goal.returns-clause-fits
returns-clause-fits g c = λ clean.
    let rows = feedback_in (state g.S.Store c.args.conn.now).now.trees in
    where_kept (λ (f : Feedback). f.to == c.args.member) FeedbackFits rows
    (subst (AllByRecursion FeedbackFits) (c.in_ok-given.ensures.finds.value clean) c.in_ok-given.ensures.fits)

pub returns-in_err-given-clause-finds : goal.returns-in_err-given-clause-finds
returns-in_err-given-clause-finds g c = record {
  value = search rules;
  damaged = λ clean fits is. c.in_err-given.ensures.finds.damaged clean fits (search rules);
  read = search rules;
}
