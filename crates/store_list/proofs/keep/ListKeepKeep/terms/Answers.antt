use Rattle.std.proofs.Common.{subst}
use Rattle.house_rows.specs.Keeping.{AreSound}
use Rattle.store_list.proofs.Fitting.{kept_at, terms_are_consistent, terms_fit}
use Rattle.store_list.proofs.keep.ListKeepKeep.terms.Goals as goal

pub returns-clause-fits : goal.returns-clause-fits
returns-clause-fits c = rw c.terms.ensures (terms_fit _ _ c.self.view_is c.self.invariant.sound c.args.item)

pub returns-clause-is_consistent : goal.returns-clause-is_consistent
returns-clause-is_consistent c = λ _. rw c.terms.ensures (terms_are_consistent _ _ c.self.view_is c.self.invariant.sound c.args.item)

pub returns-clause-kept : goal.returns-clause-kept
returns-clause-kept c = λ _. kept_at c.args.self.now (subst AreSound c.self.view_is c.self.invariant.sound) c.args.item
