use Rattle.std.proofs.Common.{refl}
use Rattle.house_rows.specs.declared.change.Change.TheVariants as change
use Rattle.house_rows.specs.Changed.{changed}
use Rattle.store_list.proofs.Changing.{kept_after, makes_ok}
use Rattle.store_list.proofs.keep.ListKeep.unwatch.Goals as goal

pub invariant_of-self : goal.invariant_of-self
unfolding changed
invariant_of-self c = kept_after c.args.self.now _ _ (change.Unwatch c.args.member c.args.item) c.self.view_is c.self.invariant c.requires.fits tt (rw c.unwatch.ensures refl)

pub returns : goal.returns
unfolding changed
returns c = makes_ok c.args.self.now _ _ (change.Unwatch c.args.member c.args.item) c.self.view_is tt (rw c.unwatch.ensures refl)
