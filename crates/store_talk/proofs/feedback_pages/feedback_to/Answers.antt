use Rattle.std.proofs.Common.{◌==◌, ◌&&◌, ◌∙◌, ℕ, ap, filter, subst, sym, take, rules}
use Rattle.std.specs.Prelude.{nat_le}
use Rattle.std.specs.List.{AllByRecursion}
use Rattle.sqlite.specs.Held.{state}
use Rattle.house_rows.specs.Fits.{FeedbackFits}
use Rattle.house_rows.specs.Taken.{start_of}
use Rattle.store_rows.specs.Rows.{feedback_in}
use Rattle.store_rows.specs.Sorted.{sorted_feedback}
use Rattle.store_rows.proofs.Both.{ok_both}
use Rattle.store_rows.proofs.Sound.{feedback_where}
use Rattle.house_rows.specs.Taken.{GivenFit}
use Rattle.store_talk.proofs.FeedbackPages.{given_found, given_stored}
use Rattle.store_talk.proofs.feedback_pages.feedback_to.Goals as goal

pub returns-clause-finds : goal.returns-clause-finds
returns-clause-finds g c =
    let db = (state g.S.Store c.args.conn.now).now.trees in
    record {
      value = λ clean. ok_both c.given_from.result (c.given_from.ensures.finds.value clean) c.given_from.ensures.fits (λ given e fits.
          let bounded = e ∙ ap (λ b. take 50 (filter (λ f. (f.to == c.args.member) && nat_le b f.item) (sorted_feedback db))) c.bound_of.ensures in
          bounded ∙ given_found c.args.member c.args.from db (subst (AllByRecursion FeedbackFits) bounded fits));
      damaged = λ clean fits. (
          let taken = λ (begin : ℕ). GivenFit c.args.member begin (feedback_in db) in
          c.given_from.ensures.finds.damaged clean (subst taken (sym c.bound_of.ensures) (record {
            near = given_stored c.args.member (start_of c.args.from) db fits.near;
            far = feedback_where db (λ f. (f.to == c.args.member) && nat_le 4294967296 f.item) fits.far;
          })));
      read = search rules;
    }
