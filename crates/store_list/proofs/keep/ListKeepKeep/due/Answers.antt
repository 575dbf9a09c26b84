use Rattle.std.proofs.Common.{subst}
use Rattle.house_rows.specs.Keeping.{AreSound}
use Rattle.store_list.proofs.Fitting.{all_are_consistent, all_are_kept, ok_so}
use Rattle.store_list.proofs.keep.ListKeepKeep.due.Goals as goal

pub returns-clause-is_consistent : goal.returns-clause-is_consistent
returns-clause-is_consistent c = λ _. ok_so c.due.result (all_are_consistent c.args.self.now _ (subst AreSound c.self.view_is c.self.invariant.sound))

pub returns-clause-kept : goal.returns-clause-kept
returns-clause-kept c = λ _. ok_so c.due.result (all_are_kept c.args.self.now _ (subst AreSound c.self.view_is c.self.invariant.sound))
