use Rattle.std.proofs.Common.{subst}
use Rattle.house_rows.specs.Keeping.{AreSound}
use Rattle.store_list.proofs.Fitting.{auction_fits, auction_is_consistent, kept_at}
use Rattle.store_list.proofs.keep.ListKeepKeep.auction.Goals as goal

pub returns-clause-fits : goal.returns-clause-fits
returns-clause-fits c = rw c.auction.ensures (auction_fits _ _ c.self.view_is c.self.invariant.sound c.args.item)

pub returns-clause-is_consistent : goal.returns-clause-is_consistent
returns-clause-is_consistent c = λ _. rw c.auction.ensures (auction_is_consistent _ _ c.self.view_is c.self.invariant.sound c.args.item)

pub returns-clause-kept : goal.returns-clause-kept
returns-clause-kept c = λ _. kept_at c.args.self.now (subst AreSound c.self.view_is c.self.invariant.sound) c.args.item
