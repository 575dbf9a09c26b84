use Rattle.std.proofs.Common.{subst}
use Rattle.house_rows.specs.Keeping.{AreSound}
use Rattle.house_rows.proofs.Sound.{fit_where}
use Rattle.store_list.proofs.keep.ListKeepKeep.ratings.Goals as goal

pub returns-clause-fits : goal.returns-clause-fits
returns-clause-fits c = λ _.
    let sound : AreSound c.args.self.now = subst AreSound c.self.view_is c.self.invariant.sound in
    fit_where _ _ _ sound.feedback
