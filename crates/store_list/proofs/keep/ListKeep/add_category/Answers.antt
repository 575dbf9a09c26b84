use Rattle.std.proofs.Common.{refl}
use Rattle.house_rows.specs.declared.change.Change.TheVariants as change
use Rattle.house_rows.specs.Changed.{changed}
use Rattle.store_list.proofs.Changing.{fits_here, kept_after, makes_not, makes_ok}
use Rattle.store_list.proofs.keep.ListKeep.add_category.Goals as goal

pub add-requires : goal.add-requires
add-requires c = record { room = (fits_here c.args.self.now _ (change.AddCategory c.args.moment c.args.name) c.self.view_is c.self.invariant.sound c.requires.fits).room }

pub invariant_of-self-2 : goal.invariant_of-self-2
unfolding changed
invariant_of-self-2 c = kept_after c.args.self.now _ _ (change.AddCategory c.args.moment c.args.name) c.self.view_is c.self.invariant c.requires.fits c.in_ok-add.ensures.free (rw c.in_ok-add.ensures.ok refl)

pub returns : goal.returns
unfolding changed
returns c = makes_ok c.args.self.now _ _ (change.AddCategory c.args.moment c.args.name) c.self.view_is c.in_ok-add.ensures.free (rw c.in_ok-add.ensures.ok refl)

pub returns-in_err-add : goal.returns-in_err-add
unfolding changed
returns-in_err-add c = makes_not c.from_residual.result _ _ _ _ c.args.self.now _ _ (change.AddCategory c.args.moment c.args.name) c.self.view_is c.from_residual.ensures.1 c.in_err-add.ensures (rw c.in_err-add.ensures.err refl)
