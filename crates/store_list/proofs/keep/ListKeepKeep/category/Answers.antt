use Rattle.std.specs.Prelude.{IfSome}
use Rattle.house_rows.specs.Fits.{CategoryFits}
use Rattle.store_list.proofs.Fitting.{find_fits, ok_fits}
use Rattle.store_list.proofs.keep.ListKeepKeep.category.Goals as goal

pub returns-clause-fits : goal.returns-clause-fits
returns-clause-fits c = ok_fits (λ o. IfSome o CategoryFits) c.clone_found.result _ c.clone_found.ensures.value (rw c.category.ensures (find_fits CategoryFits _ c.self.inside.categories c.self.invariant.sound.categories))
