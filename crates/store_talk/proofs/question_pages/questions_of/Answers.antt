use Rattle.std.proofs.Common.{◌==◌, ◌&&◌, ◌∙◌, ℕ, ap, filter, subst, sym, take, rules}
use Rattle.std.specs.Prelude.{nat_le}
use Rattle.std.specs.List.{AllByRecursion}
use Rattle.sqlite.specs.Held.{state}
use Rattle.house_rows.specs.Fits.{QuestionFits}
use Rattle.house_rows.specs.Taken.{start_of}
use Rattle.store_rows.specs.Rows.{questions_in}
use Rattle.store_rows.specs.Sorted.{sorted_questions}
use Rattle.store_rows.proofs.Both.{ok_both}
use Rattle.house_rows.specs.Taken.{AskedFit}
use Rattle.store_talk.proofs.QuestionPages.{questions_found, asked_stored}
use Rattle.store_talk.proofs.question_pages.questions_of.Goals as goal

pub returns-clause-finds : goal.returns-clause-finds
returns-clause-finds g c =
    let db = (state g.S.Store c.args.conn.now).now.trees in
    record {
      value = λ clean. ok_both c.questions_from.result (c.questions_from.ensures.finds.value clean) c.questions_from.ensures.fits (λ asked e fits.
          let bounded = e ∙ ap (λ b. take 50 (filter (λ q. (q.asker == c.args.member) && nat_le b q.item) (sorted_questions db))) c.bound_of.ensures in
          bounded ∙ questions_found c.args.member c.args.from db (subst (AllByRecursion QuestionFits) bounded fits));
      damaged = λ clean fits. (
          let taken = λ (begin : ℕ). AskedFit c.args.member begin (questions_in db) in
          c.questions_from.ensures.finds.damaged clean (subst taken (sym c.bound_of.ensures) (asked_stored c.args.member (start_of c.args.from) db fits)));
      read = search rules;
    }
