use Rattle.std.proofs.Common.{subst}
use Rattle.std.specs.List.{AllByRecursion}
use Rattle.house_rows.specs.Fits.{ItemFits}
use Rattle.house_rows.specs.Keeping.{AreSound}
use Rattle.store_list.proofs.Fitting.{all_kept, items_are_consistent, items_fit, ok_items, ok_items_are_consistent, ok_so}
use Rattle.store_list.proofs.keep.ListKeepKeep.items.Goals as goal

pub returns-clause-fits : goal.returns-clause-fits
returns-clause-fits c = ok_items (λ xs. AllByRecursion ItemFits xs) c.all.result _ c.all.ensures.value (items_fit _ c.self.invariant.sound)

pub returns-clause-is_consistent : goal.returns-clause-is_consistent
returns-clause-is_consistent c = λ _. ok_items_are_consistent _ _ c.self.view_is c.all.result _ c.all.ensures.value (items_are_consistent _ c.self.invariant.sound)

pub returns-clause-kept : goal.returns-clause-kept
returns-clause-kept c = λ _. ok_so c.all.result (all_kept c.args.self.now (subst AreSound c.self.view_is c.self.invariant.sound))
