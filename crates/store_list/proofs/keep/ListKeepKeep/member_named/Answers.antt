use Rattle.std.specs.Prelude.{IfSome}
use Rattle.house_rows.specs.Fits.{MemberFits}
use Rattle.store_list.proofs.Fitting.{find_fits, ok_fits}
use Rattle.store_list.proofs.keep.ListKeepKeep.member_named.Goals as goal

pub returns-clause-fits : goal.returns-clause-fits
returns-clause-fits c = ok_fits (λ o. IfSome o MemberFits) c.clone_found.result _ c.clone_found.ensures.value (rw c.by_name.ensures (find_fits MemberFits _ c.self.inside.members c.self.invariant.sound.members))
