use Rattle.std.proofs.Common.{rules}
use Rattle.sqlite.specs.Held.{state}
use Rattle.sqlite.specs.State.{Survives}
use Rattle.house_rows.specs.declared.change.Change.TheVariants.{Answer}
use Rattle.store_rows.specs.Commits.{MadeBy}
use Rattle.store_rows.proofs.CommitSteps.{survives_commit}
use Rattle.store_talk.proofs.answers.commit_answer.Goals as goal

pub returns-in-Err-clause-commit : goal.returns-in-Err-clause-commit
returns-in-Err-clause-commit g c =
    let it : Survives (state g.S.Store c.args.conn.now) (state g.S.Store c.commit.new.self.0) (MadeBy (Answer c.args.moment c.args.item c.args.asker c.args.number c.args.text) (state g.S.Store c.args.conn.now)) =
    survives_commit g.S.Store c.args.conn.now c.transaction-tx.result.conn.now c.answer_within.new.tx.conn.now (state g.S.Store c.commit.new.self.0) (Answer c.args.moment c.args.item c.args.asker c.args.number c.args.text)
    c.transaction-tx.ensures.begun c.answer_within.ensures.write.crash c.commit.ensures.survives c.in_ok-answer_within.ensures.ok in record {
      ok = search rules;
      err = search rules;
      only = search rules;
      mode = search rules;
      crash = search (rules, it);
    }
