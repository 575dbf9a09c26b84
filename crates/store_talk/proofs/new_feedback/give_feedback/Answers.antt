use Rattle.std.proofs.Common.{◌==◌, ◌∙◌, true≢false, subst, sym, arith, ℕ, rules}
use Rattle.sqlite.specs.Held.{state}
use Rattle.sqlite.specs.State.{Survives}
use Rattle.house_rows.specs.declared.change.Change.TheVariants.{Feedback}
use Rattle.store_rows.specs.Tables.{tables_in}
use Rattle.store_rows.specs.Commits.{MadeBy}
use Rattle.store_rows.proofs.Keys.{on_ok}
use Rattle.store_rows.proofs.Sound.{feedback_where}
use Rattle.store_rows.proofs.CommitSteps.{survives_change}
use Rattle.store_talk.proofs.new_feedback.give_feedback.Goals as goal

pub returns-in_err-given-clause-damaged : goal.returns-in_err-given-clause-damaged
returns-in_err-given-clause-damaged g c clean fit moment free is =
    c.in_err-given.ensures.damaged clean (feedback_where (state g.S.Store c.args.conn.now).now.trees (λ f. f.from == c.args.from) fit) (search rules)

pub returns-then-given-clause-damaged : goal.returns-then-given-clause-damaged
unfolding tables_in
returns-then-given-clause-damaged g c clean fit moment free is =
    true≢false (sym c.if-given.true ∙ (c.in_ok-given.ensures.value clean).found ∙ free)

pub returns-clause-taken : goal.returns-clause-taken
unfolding tables_in
returns-clause-taken g c clean = on_ok c.commit_feedback.result (sym (c.in_ok-given.ensures.value (omega (arith, c.commit_feedback.ensures.commit.crash.clean))).found ∙ c.if-given.false)

pub returns-clause-key : goal.returns-clause-key
returns-clause-key g c clean = on_ok c.commit_feedback.result (sym (c.in_ok-given.ensures.value (omega (arith, c.commit_feedback.ensures.commit.crash.clean))).key ∙ c.if-given.false)

pub returns-clause-commit : goal.returns-clause-commit
returns-clause-commit g c =
    record {
      ok = search rules;
      err = search rules;
      only = search rules;
      mode = search rules;
      crash = survives_change (state g.S.Store c.args.conn.now) (state g.S.Store c.is_given.new.conn) (state g.S.Store c.commit_feedback.new.conn) (Feedback c.args.moment c.args.item c.args.from c.args.to c.args.rating c.args.text)
          c.in_ok-given.ensures.read.same c.in_ok-given.ensures.read.crash
          (subst (λ (m : ℕ). Survives (state g.S.Store c.is_given.new.conn) (state g.S.Store c.commit_feedback.new.conn) (MadeBy (Feedback m c.args.item c.args.from c.args.to c.args.rating c.args.text) (state g.S.Store c.is_given.new.conn)))
          c.in_ok-moment.ensures.value c.commit_feedback.ensures.commit.crash);
    }
