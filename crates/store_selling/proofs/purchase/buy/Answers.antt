use Rattle.std.proofs.Common.{ℕ, rules, subst}
use Rattle.sqlite.specs.Held.{state}
use Rattle.sqlite.specs.State.{Survives}
use Rattle.house_rows.specs.declared.change.Change.TheVariants as change
use Rattle.store_rows.specs.Commits.{MadeBy}
use Rattle.store_rows.proofs.CommitSteps.{survives_change, survives_commit}
use Rattle.store_selling.proofs.purchase.buy.Goals as goal

pub check_unbid-requires-clause-serves : goal.check_unbid-requires-clause-serves
check_unbid-requires-clause-serves g c clean = let rest = c.requires.rests clean in (rest.is_open, rest.house, c.requires.reserves clean)

pub returns-in_err-check_unbid-clause-damaged : goal.returns-in_err-check_unbid-clause-damaged
returns-in_err-check_unbid-clause-damaged g c clean here fits =
    let none = c.in_err-check_unbid.ensures.damaged clean (record { row = here; moment = c.args.moment; buyer = c.args.buyer; price = c.args.price; purchase = fits }) in
    search (rules, none)

pub returns-clause-commit : goal.returns-clause-commit
returns-clause-commit g c = record {
  ok = search rules;
  err = search rules;
  only = search rules depth 9;
  mode = search rules;
  crash =
      let old = state g.S.Store c.args.conn.now in
      let mid = state g.S.Store c.check_unbid.new.conn in
      let last = state g.S.Store c.commit.new.tx.0 in
      let made : Survives mid last (MadeBy (change.Buy c.in_ok-moment.moment c.args.item c.args.buyer c.args.price) mid) =
      survives_commit g.S.Store c.check_unbid.new.conn c.transaction-tx.result.conn.now c.write_purchase.new.tx.conn.now last (change.Buy c.in_ok-moment.moment c.args.item c.args.buyer c.args.price)
      c.transaction-tx.ensures.begun c.write_purchase.ensures.write.crash c.commit.ensures.crash c.in_ok-write_purchase.ensures.ok in
      let it : Survives old last (MadeBy (change.Buy c.args.moment c.args.item c.args.buyer c.args.price) old) =
      survives_change old mid last (change.Buy c.args.moment c.args.item c.args.buyer c.args.price) c.in_ok-check_unbid.ensures.read.same c.check_unbid.ensures.read.crash
      (subst (λ (m : ℕ). Survives mid last (MadeBy (change.Buy m c.args.item c.args.buyer c.args.price) mid)) c.in_ok-moment.ensures.value made) in
      search (rules, it);
}
