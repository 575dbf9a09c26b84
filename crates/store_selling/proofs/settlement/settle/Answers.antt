use Rattle.std.proofs.Common.{ℕ, rules, subst}
use Rattle.sqlite.specs.Held.{state}
use Rattle.sqlite.specs.State.{Survives}
use Rattle.house_rows.specs.declared.change.Change.TheVariants as change
use Rattle.store_rows.specs.Commits.{MadeBy}
use Rattle.store_rows.proofs.CommitSteps.{survives_change, survives_commit}
use Rattle.store_selling.proofs.settlement.settle.Goals as goal

pub check_terms-requires-clause-serves : goal.check_terms-requires-clause-serves
check_terms-requires-clause-serves g c clean = let rest = c.requires.rests clean in (rest.is_open, rest.house, c.requires.reserves clean)

pub returns-in_err-check_terms-clause-damaged : goal.returns-in_err-check_terms-clause-damaged
returns-in_err-check_terms-clause-damaged g c clean here fits =
    let none = c.in_err-check_terms.ensures.damaged clean (record { row = here; there = (fits.row, fits.row_there) }) in
    search (rules, none)

pub returns-clause-commit : goal.returns-clause-commit
returns-clause-commit g c = record {
  ok = search rules;
  err = search rules;
  only = search rules;
  mode = search rules;
  crash =
      let old = state g.S.Store c.args.conn.now in
      let mid = state g.S.Store c.check_terms.new.conn in
      let last = state g.S.Store c.commit.new.tx.0 in
      let made : Survives mid last (MadeBy (change.Settle c.in_ok-moment.moment c.args.item) mid) =
      survives_commit g.S.Store c.check_terms.new.conn c.transaction-tx.result.conn.now c.write_settlement.new.tx.conn.now last (change.Settle c.in_ok-moment.moment c.args.item)
      c.transaction-tx.ensures.begun c.write_settlement.ensures.write.crash c.commit.ensures.crash c.in_ok-write_settlement.ensures.ok in
      let it : Survives old last (MadeBy (change.Settle c.args.moment c.args.item) old) =
      survives_change old mid last (change.Settle c.args.moment c.args.item) c.in_ok-check_terms.ensures.read.same c.check_terms.ensures.read.crash
      (subst (λ (m : ℕ). Survives mid last (MadeBy (change.Settle m c.args.item) mid)) c.in_ok-moment.ensures.value made) in
      search (rules, it);
}
