use Rattle.std.proofs.Common.{◌≡◌, ◌==◌, ◌&&◌, false, arith, rules, subst, IsTrue}
use Rattle.std.specs.List.{list_any}
use Rattle.std.specs.Prelude.{OnOk}
use Rattle.sqlite.specs.Held.{Held, state}
use Rattle.sqlite.specs.State.{HasCleanDisk, Survives}
use Rattle.house_rows.specs.declared.change.Change.TheVariants as change
use Rattle.store_rows.specs.Commits.{IsBack, MadeBy}
use Rattle.store_rows.specs.Tables.{tables_in}
use Rattle.store_rows.proofs.CommitSteps.{survives_commit}
use Rattle.store_items.proofs.ConsistentRows.{ok_so}
use Rattle.store_items.proofs.Undone.{back_undone, survives_undone}
use Rattle.store_bids.proofs.bidding.commit_bid.Goals as goal

pub returns-clause-commit : goal.returns-clause-commit
returns-clause-commit g c = record {
  ok = search rules;
  err = search rules;
  only = search rules depth 9;
  mode = search rules;
  crash =
      let old = state g.S.Store c.args.conn.now in
      let last = state g.S.Store c.commit.new.tx.0 in
      let it : Survives old last (MadeBy (change.Bid c.args.moment c.args.item c.args.placed c.args.standing.now) old) =
      survives_commit g.S.Store c.args.conn.now c.transaction-tx.result.conn.now c.write_bid.new.tx.conn.now last (change.Bid c.args.moment c.args.item c.args.placed c.args.standing.now)
      c.transaction-tx.ensures.begun c.write_bid.ensures.write.crash c.commit.ensures.crash c.in_ok-write_bid.ensures.ok in
      search (rules, it);
}

-- a bid that was not made is undone
pub returns-in_err-write_bid-clause-commit : goal.returns-in_err-write_bid-clause-commit
returns-in_err-write_bid-clause-commit g c =
    let old = state g.S.Store c.args.conn.now in
    let last = state g.S.Store c.drop-tx.new.self.0 in
    let it : Survives old last (MadeBy (change.Bid c.args.moment c.args.item c.args.placed c.args.standing.now) old) =
    survives_undone g.S.Store c.args.conn.now c.transaction-tx.result.conn.now c.write_bid.new.tx.conn.now last (change.Bid c.args.moment c.args.item c.args.placed c.args.standing.now)
    c.transaction-tx.ensures.begun c.write_bid.ensures.write.crash c.drop-tx.ensures.survives in
    let back : HasCleanDisk last → IsTrue last.is_open → IsBack old last = λ clean is_open.
    let wrote : HasCleanDisk (state g.S.Store c.write_bid.new.tx.conn.now) = omega (arith, c.drop-tx.ensures.survives.clean, clean) in
    back_undone g.S.Store c.args.conn.now c.transaction-tx.result.conn.now c.write_bid.new.tx.conn.now last c.transaction-tx.ensures.begun (c.in_err-write_bid.ensures.write.err wrote) (c.drop-tx.ensures.undone clean) is_open in record {
      ok = search rules;
      err = search (rules, back);
      only = search rules;
      mode = search rules;
      crash = search (rules, it);
    }

pub returns-clause-free : goal.returns-clause-free
returns-clause-free g c =
    let old = state g.S.Store c.args.conn.now in
    let report : HasCleanDisk (state g.S.Store c.commit.new.tx.0) → OnOk c.commit.result (list_any (λ b. (b.item == c.args.item) && (b.bid.no == c.args.placed.no)) (tables_in old.now.trees).bids ≡ false) = λ clean.
    let wrote : HasCleanDisk (state g.S.Store c.write_bid.new.tx.conn.now) = omega (arith, c.commit.ensures.crash.clean, clean) in
    ok_so c.commit.result (subst (λ (h : Held _). list_any (λ b. (b.item == c.args.item) && (b.bid.no == c.args.placed.no)) (tables_in (state g.S.Store h).now.trees).bids ≡ false) c.transaction-tx.ensures.begun (c.in_ok-write_bid.ensures.free wrote)) in
    search (rules, report)
