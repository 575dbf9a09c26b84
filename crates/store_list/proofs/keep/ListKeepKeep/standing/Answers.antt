use Rattle.std.proofs.Common.{subst}
use Rattle.house_rows.specs.Keeping.{AreSound}
use Rattle.store_list.proofs.Fitting.{kept_at, standing_fit}
use Rattle.store_list.proofs.keep.ListKeepKeep.standing.Goals as goal

pub returns-clause-fits : goal.returns-clause-fits
returns-clause-fits c = rw c.standing.ensures (standing_fit _ _ c.self.view_is c.self.invariant.sound c.args.item)

pub returns-clause-kept : goal.returns-clause-kept
returns-clause-kept c = λ _. kept_at c.args.self.now (subst AreSound c.self.view_is c.self.invariant.sound) c.args.item
