use Rattle.std.proofs.Common.{◌∙◌, ℕ, arith, rules, subst, sym, IsTrue}
use Rattle.std.specs.Prelude.{OnOk}
use Rattle.sqlite.specs.Held.{state}
use Rattle.sqlite.specs.State.{HasCleanDisk, Survives}
use Rattle.house_rows.specs.Items.{is_due}
use Rattle.house_rows.specs.Keeping.{FitsBy}
use Rattle.house_rows.specs.Tables.{ItemRow}
use Rattle.house_rows.specs.Taken.{FitWhere}
use Rattle.house_rows.specs.declared.change.Change.TheVariants as change
use Rattle.store_rows.specs.Commits.{IsBack, MadeBy}
use Rattle.store_rows.specs.ItemRows.{items_in}
use Rattle.store_rows.proofs.CommitSteps.{survives_change, survives_commit}
use Rattle.store_items.specs.ConsistentRows.{RowsFit, RowsAreConsistent, RowsAreKept}
use Rattle.store_items.proofs.ConsistentRows.{ok_so}
use Rattle.store_items.proofs.Undone.{back_undone, survives_undone}
use Rattle.store_selling.proofs.auction_end.close.Goals as goal

pub find_due-requires : goal.find_due-requires
find_due-requires g c clean = let rest = c.requires.rests clean in (rest.is_open, rest.house, c.requires.reserves clean)

pub returns-in_err-due-clause-damaged : goal.returns-in_err-due-clause-damaged
returns-in_err-due-clause-damaged g c clean fits here =
    let old = state g.S.Store c.args.conn.now in
    let here' = subst (λ (m : ℕ). FitWhere (λ (row : ItemRow). is_due m row.item.terms) (FitsBy c.args.rules.now.editions) (items_in old.now.trees)) (sym c.in_ok-moment.ensures.value) here in
    let none = c.in_err-due.ensures.damaged clean here' in
    search (rules, none)

pub returns-clause-commit : goal.returns-clause-commit
returns-clause-commit g c = record {
  ok = search rules;
  err = search rules;
  only = search rules;
  mode = search rules;
  crash =
      let old = state g.S.Store c.args.conn.now in
      let mid = state g.S.Store c.find_due.new.conn in
      let last = state g.S.Store c.commit.new.tx.0 in
      let made : Survives mid last (MadeBy (change.Close c.in_ok-moment.moment) mid) =
      survives_commit g.S.Store c.find_due.new.conn c.transaction-tx.result.conn.now c.write_close.new.tx.conn.now last (change.Close c.in_ok-moment.moment)
      c.transaction-tx.ensures.begun c.write_close.ensures.write.crash c.commit.ensures.crash c.in_ok-write_close.ensures.ok in
      let it : Survives old last (MadeBy (change.Close c.args.moment) old) =
      survives_change old mid last (change.Close c.args.moment) c.in_ok-due.ensures.read.same c.find_due.ensures.read.crash
      (subst (λ (m : ℕ). Survives mid last (MadeBy (change.Close m) mid)) c.in_ok-moment.ensures.value made) in
      search (rules, it);
}

-- a close that was not made is undone
pub returns-in_err-write_close-clause-commit : goal.returns-in_err-write_close-clause-commit
returns-in_err-write_close-clause-commit g c =
    let old = state g.S.Store c.args.conn.now in
    let mid = state g.S.Store c.find_due.new.conn in
    let last = state g.S.Store c.drop-tx.new.self.0 in
    let undone : Survives mid last (MadeBy (change.Close c.args.moment) mid) =
    survives_undone g.S.Store c.find_due.new.conn c.transaction-tx.result.conn.now c.write_close.new.tx.conn.now last (change.Close c.args.moment)
    c.transaction-tx.ensures.begun c.write_close.ensures.write.crash c.drop-tx.ensures.survives in
    let it : Survives old last (MadeBy (change.Close c.args.moment) old) =
    survives_change old mid last (change.Close c.args.moment) c.in_ok-due.ensures.read.same c.find_due.ensures.read.crash undone in
    let back : HasCleanDisk last → IsTrue last.is_open → IsBack old last = λ clean is_open.
    let wrote : HasCleanDisk (state g.S.Store c.write_close.new.tx.conn.now) = omega (arith, c.drop-tx.ensures.survives.clean, clean) in
    let first : HasCleanDisk mid = omega (arith, undone.clean, clean) in
    let there = back_undone g.S.Store c.find_due.new.conn c.transaction-tx.result.conn.now c.write_close.new.tx.conn.now last c.transaction-tx.ensures.begun (c.in_err-write_close.ensures.write.err wrote) (c.drop-tx.ensures.undone clean) is_open in
    let same = (c.in_ok-due.ensures.read.same first).0.committed_is in
    (there.0 ∙ same, there.1 ∙ same) in record {
      ok = search rules;
      err = search (rules, back);
      only = search rules;
      mode = search rules;
      crash = search (rules, it);
    }

pub returns-clause-fits : goal.returns-clause-fits
returns-clause-fits g c =
    let old = state g.S.Store c.args.conn.now in
    let mid = state g.S.Store c.find_due.new.conn in
    let last = state g.S.Store c.commit.new.tx.0 in
    let made : Survives mid last (MadeBy (change.Close c.in_ok-moment.moment) mid) =
    survives_commit g.S.Store c.find_due.new.conn c.transaction-tx.result.conn.now c.write_close.new.tx.conn.now last (change.Close c.in_ok-moment.moment)
    c.transaction-tx.ensures.begun c.write_close.ensures.write.crash c.commit.ensures.crash c.in_ok-write_close.ensures.ok in
    let report : HasCleanDisk last → OnOk c.commit.result (RowsFit (λ (row : ItemRow). is_due c.args.moment row.item.terms) old.now.trees) = λ clean.
    let first : HasCleanDisk mid = omega (arith, made.clean, clean) in
    ok_so c.commit.result (subst (λ (m : ℕ). RowsFit (λ (row : ItemRow). is_due m row.item.terms) old.now.trees) c.in_ok-moment.ensures.value (c.in_ok-due.ensures.value first).fits) in
    search (rules, report)

pub returns-clause-is_consistent : goal.returns-clause-is_consistent
returns-clause-is_consistent g c =
    let old = state g.S.Store c.args.conn.now in
    let mid = state g.S.Store c.find_due.new.conn in
    let last = state g.S.Store c.commit.new.tx.0 in
    let made : Survives mid last (MadeBy (change.Close c.in_ok-moment.moment) mid) =
    survives_commit g.S.Store c.find_due.new.conn c.transaction-tx.result.conn.now c.write_close.new.tx.conn.now last (change.Close c.in_ok-moment.moment)
    c.transaction-tx.ensures.begun c.write_close.ensures.write.crash c.commit.ensures.crash c.in_ok-write_close.ensures.ok in
    let report : HasCleanDisk last → OnOk c.commit.result (RowsAreConsistent c.args.rules.now.editions (λ (row : ItemRow). is_due c.args.moment row.item.terms) old.now.trees) = λ clean.
    let first : HasCleanDisk mid = omega (arith, made.clean, clean) in
    ok_so c.commit.result (subst (λ (m : ℕ). RowsAreConsistent c.args.rules.now.editions (λ (row : ItemRow). is_due m row.item.terms) old.now.trees) c.in_ok-moment.ensures.value (c.in_ok-due.ensures.value first).is_consistent) in
    search (rules, report)

pub returns-clause-kept : goal.returns-clause-kept
returns-clause-kept g c =
    let old = state g.S.Store c.args.conn.now in
    let mid = state g.S.Store c.find_due.new.conn in
    let last = state g.S.Store c.commit.new.tx.0 in
    let made : Survives mid last (MadeBy (change.Close c.in_ok-moment.moment) mid) =
    survives_commit g.S.Store c.find_due.new.conn c.transaction-tx.result.conn.now c.write_close.new.tx.conn.now last (change.Close c.in_ok-moment.moment)
    c.transaction-tx.ensures.begun c.write_close.ensures.write.crash c.commit.ensures.crash c.in_ok-write_close.ensures.ok in
    let report : HasCleanDisk last → OnOk c.commit.result (RowsAreKept c.args.rules.now.editions (λ (row : ItemRow). is_due c.args.moment row.item.terms) old.now.trees) = λ clean.
    let first : HasCleanDisk mid = omega (arith, made.clean, clean) in
    ok_so c.commit.result (subst (λ (m : ℕ). RowsAreKept c.args.rules.now.editions (λ (row : ItemRow). is_due m row.item.terms) old.now.trees) c.in_ok-moment.ensures.value (c.in_ok-due.ensures.value first).kept) in
    search (rules, report)
