use Rattle.std.proofs.Common.{rules}
use Rattle.sqlite.specs.Held.{state}
use Rattle.sqlite.specs.State.{Survives}
use Rattle.house_rows.specs.declared.change.Change.TheVariants.{AddCategory}
use Rattle.store_rows.specs.Commits.{MadeBy}
use Rattle.store_rows.proofs.CommitSteps.{survives_commit}
use Rattle.store_house.proofs.registration.commit_add_category.Goals as goal

pub returns-in-Err-clause-commit : goal.returns-in-Err-clause-commit
returns-in-Err-clause-commit g c =
    let it : Survives (state g.S.Store c.args.conn.now) (state g.S.Store c.commit.new.self.0) (MadeBy (AddCategory c.args.moment c.args.name) (state g.S.Store c.args.conn.now)) =
    survives_commit g.S.Store c.args.conn.now c.transaction-tx.result.conn.now c.add_category_within.new.tx.conn.now (state g.S.Store c.commit.new.self.0) (AddCategory c.args.moment c.args.name)
    c.transaction-tx.ensures.begun c.add_category_within.ensures.write.crash c.commit.ensures.survives c.in_ok-add_category_within.ensures.ok in record {
      ok = search rules;
      err = search rules;
      only = search rules;
      mode = search rules;
      crash = search (rules, it);
    }
