use Rattle.std.proofs.Common.{◌==◌, ◌&&◌, ◌∙◌, ℕ, ap, filter, subst, sym, take, rules}
use Rattle.std.specs.Prelude.{is_some, nat_le}
use Rattle.std.specs.List.{AllByRecursion}
use Rattle.sqlite.specs.Held.{state}
use Rattle.house_rows.specs.Fits.{QuestionFits}
use Rattle.house_rows.specs.Taken.{start_of}
use Rattle.store_rows.specs.Rows.{questions_in}
use Rattle.store_rows.specs.Sorted.{sorted_questions}
use Rattle.store_rows.proofs.Both.{ok_both}
use Rattle.house_rows.specs.Taken.{PublishedFit}
use Rattle.store_talk.proofs.QuestionPages.{published_found, published_stored}
use Rattle.store_talk.proofs.question_pages.published_on.Goals as goal

pub returns-clause-finds : goal.returns-clause-finds
returns-clause-finds g c =
    let db = (state g.S.Store c.args.conn.now).now.trees in
    record {
      value = λ clean. ok_both c.published_from.result (c.published_from.ensures.finds.value clean) c.published_from.ensures.fits (λ asked e fits.
          let bounded = e ∙ ap (λ b. take 50 (filter (λ q. (q.item == c.args.item) && nat_le b q.asker) (filter (λ q. is_some q.answer) (sorted_questions db)))) c.bound_of.ensures in
          bounded ∙ published_found c.args.item c.args.from db (subst (AllByRecursion QuestionFits) bounded fits));
      damaged = λ clean fits. (
          let taken = λ (begin : ℕ). PublishedFit c.args.item begin (questions_in db) in
          c.published_from.ensures.finds.damaged clean (subst taken (sym c.bound_of.ensures) (published_stored c.args.item (start_of c.args.from) db fits)));
      read = search rules;
    }
