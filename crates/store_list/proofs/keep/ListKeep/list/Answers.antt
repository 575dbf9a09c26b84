use Rattle.std.proofs.Common.{refl}
use Rattle.house_rows.specs.declared.change.Change.TheVariants as change
use Rattle.house_rows.specs.Changed.{changed}
use Rattle.store_list.proofs.Changing.{fits_here, kept_after, makes_not, makes_ok}
use Rattle.store_list.proofs.keep.ListKeep.list.Goals as goal

pub list-requires : goal.list-requires
list-requires c = record { room = (fits_here c.args.self.now _ (change.List c.args.moment c.args.item.now) c.self.view_is c.self.invariant.sound c.requires.fits).room }

pub invariant_of-self-2 : goal.invariant_of-self-2
unfolding changed
invariant_of-self-2 c = kept_after c.args.self.now _ _ (change.List c.args.moment c.args.item.now) c.self.view_is c.self.invariant c.requires.fits (c.in_ok-list.ensures.whole.free) (rw c.in_ok-list.ensures.listed refl)

pub returns : goal.returns
unfolding changed
returns c = makes_ok c.args.self.now _ _ (change.List c.args.moment c.args.item.now) c.self.view_is (c.in_ok-list.ensures.whole.free) (rw c.in_ok-list.ensures.listed refl)

pub returns-in_err-list : goal.returns-in_err-list
unfolding changed
returns-in_err-list c = makes_not c.from_residual.result _ _ _ _ c.args.self.now _ _ (change.List c.args.moment c.args.item.now) c.self.view_is c.from_residual.ensures.1 c.in_err-list.ensures.whole (rw c.in_err-list.ensures.whole.err refl)
