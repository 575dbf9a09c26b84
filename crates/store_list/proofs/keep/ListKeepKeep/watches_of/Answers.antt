use Rattle.std.proofs.Common.{subst}
use Rattle.std.specs.List.{AllByRecursion}
use Rattle.house_rows.specs.Fits.{ItemFits}
use Rattle.house_rows.specs.Keeping.{AreSound}
use Rattle.store_list.proofs.Fitting.{filter_fits, items_fit, kept_at, ok_items, ok_so}
use Rattle.store_list.proofs.Fitting.{ok_items_are_consistent, those_are_consistent}
use Rattle.store_list.proofs.keep.ListKeepKeep.watches_of.Goals as goal

pub returns-clause-fits : goal.returns-clause-fits
returns-clause-fits c = ok_items (λ xs. AllByRecursion ItemFits xs) c.items_watched.result _ c.items_watched.ensures.value (filter_fits ItemFits _ _ (items_fit _ c.self.invariant.sound))

pub returns-clause-is_consistent : goal.returns-clause-is_consistent
returns-clause-is_consistent c = λ _. ok_items_are_consistent _ _ c.self.view_is c.items_watched.result _ c.items_watched.ensures.value (those_are_consistent _ _ c.self.invariant.sound)

pub returns-clause-kept : goal.returns-clause-kept
returns-clause-kept c = λ _. ok_so c.items_watched.result (λ item is. kept_at c.args.self.now (subst AreSound c.self.view_is c.self.invariant.sound) item)
