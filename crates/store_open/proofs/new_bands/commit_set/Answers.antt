use Rattle.std.proofs.Common.{rules}
use Rattle.sqlite.specs.Held.{state}
use Rattle.sqlite.specs.State.{Survives}
use Rattle.house_rows.specs.declared.change.Change.TheVariants.{SetBands}
use Rattle.store_rows.specs.Commits.{MadeBy}
use Rattle.store_rows.proofs.CommitSteps.{survives_commit}
use Rattle.store_open.proofs.new_bands.commit_set.Goals as goal

pub returns-in-Err-clause-commit : goal.returns-in-Err-clause-commit
returns-in-Err-clause-commit g c =
    let it : Survives (state g.S.Store c.args.conn.now) (state g.S.Store c.commit.new.self.0) (MadeBy (SetBands c.args.moment c.args.bands) (state g.S.Store c.args.conn.now)) =
    survives_commit g.S.Store c.args.conn.now c.transaction-tx.result.conn.now c.set_within.new.tx.conn.now (state g.S.Store c.commit.new.self.0) (SetBands c.args.moment c.args.bands)
    c.transaction-tx.ensures.begun c.set_within.ensures.write.crash c.commit.ensures.survives c.in_ok-set_within.ensures.ok in record {
      ok = search rules;
      err = search rules;
      only = search rules;
      mode = search rules;
      crash = search (rules, it);
    }

pub returns-in-Ok-clause-commit : goal.returns-in-Ok-clause-commit
returns-in-Ok-clause-commit g c =
    let it : Survives (state g.S.Store c.args.conn.now) (state g.S.Store c.commit.new.self.0) (MadeBy (SetBands c.args.moment c.args.bands) (state g.S.Store c.args.conn.now)) =
    survives_commit g.S.Store c.args.conn.now c.transaction-tx.result.conn.now c.set_within.new.tx.conn.now (state g.S.Store c.commit.new.self.0) (SetBands c.args.moment c.args.bands)
    c.transaction-tx.ensures.begun c.set_within.ensures.write.crash c.commit.ensures.survives c.in_ok-set_within.ensures.ok in record {
      ok = search rules;
      err = search rules;
      only = search rules;
      mode = search rules;
      crash = search (rules, it);
    }
