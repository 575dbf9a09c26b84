use Rattle.std.proofs.Common.{subst}
use Rattle.house_rows.specs.Keeping.{AreSound}
use Rattle.store_list.proofs.Fitting.{kept_at}
use Rattle.store_list.proofs.keep.ListKeepKeep.reserve.Goals as goal

pub returns-clause-kept : goal.returns-clause-kept
returns-clause-kept c = λ _. kept_at c.args.self.now (subst AreSound c.self.view_is c.self.invariant.sound) c.args.item
