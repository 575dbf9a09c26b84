use Rattle.std.proofs.Common.{subst}
use Rattle.std.specs.Prelude.{IfSome}
use Rattle.house_rows.specs.Fits.{ItemFits}
use Rattle.house_rows.specs.Keeping.{AreSound, IsConsistentIn}
use Rattle.house_rows.specs.declared.item.Item.{Item}
use Rattle.store_list.proofs.Fitting.{item_fits, item_is_consistent, kept_at, ok_fits, ok_so}
use Rattle.store_list.proofs.keep.ListKeepKeep.item.Goals as goal

pub returns-clause-fits : goal.returns-clause-fits
returns-clause-fits c = ok_fits (λ o. IfSome o ItemFits) c.clone_found.result _ c.clone_found.ensures.value (rw c.item.ensures (item_fits _ _ c.self.view_is c.self.invariant.sound c.args.item))

pub returns-clause-is_consistent : goal.returns-clause-is_consistent
returns-clause-is_consistent c = λ _.
    ok_fits (λ o. IfSome o (λ (it : Item). IsConsistentIn c.args.self.now it.terms)) c.clone_found.result _ c.clone_found.ensures.value
    (rw c.item.ensures (item_is_consistent _ _ c.self.view_is c.self.invariant.sound c.args.item))

pub returns-clause-kept : goal.returns-clause-kept
returns-clause-kept c = λ _. ok_so c.clone_found.result (kept_at c.args.self.now (subst AreSound c.self.view_is c.self.invariant.sound) c.args.item)
