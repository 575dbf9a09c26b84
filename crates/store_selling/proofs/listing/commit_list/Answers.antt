use Rattle.std.proofs.Common.{rules}
use Rattle.sqlite.specs.Held.{state}
use Rattle.sqlite.specs.State.{Survives}
use Rattle.store_selling.specs.Listed.{listed}
use Rattle.store_rows.specs.Commits.{MadeBy}
use Rattle.store_rows.proofs.CommitSteps.{survives_commit}
use Rattle.store_selling.proofs.listing.commit_list.Goals as goal

pub returns-in-Err-clause-commit : goal.returns-in-Err-clause-commit
returns-in-Err-clause-commit g c =
    let it : Survives (state g.S.Store c.args.conn.now) (state g.S.Store c.commit.new.self.0) (MadeBy (listed c.args.moment c.args.item.now c.args.end) (state g.S.Store c.args.conn.now)) =
    survives_commit g.S.Store c.args.conn.now c.transaction-tx.result.conn.now c.list_within.new.tx.conn.now (state g.S.Store c.commit.new.self.0) (listed c.args.moment c.args.item.now c.args.end)
    c.transaction-tx.ensures.begun c.list_within.ensures.write.crash c.commit.ensures.survives c.in_ok-list_within.ensures.ok in record {
      ok = search rules;
      err = search rules;
      only = search rules;
      mode = search rules;
      crash = search (rules, it);
    }
