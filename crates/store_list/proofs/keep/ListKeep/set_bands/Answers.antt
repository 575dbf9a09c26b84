use Rattle.std.proofs.Common.{refl}
use Rattle.house_rows.specs.declared.change.Change.TheVariants as change
use Rattle.house_rows.specs.Changed.{changed}
use Rattle.store_list.proofs.Changing.{fits_here, kept_after, makes_ok}
use Rattle.store_list.proofs.keep.ListKeep.set_bands.Goals as goal

pub set_table-requires : goal.set_table-requires
set_table-requires c = record { room = (fits_here c.args.self.now _ (change.SetBands c.args.moment c.args.bands) c.self.view_is c.self.invariant.sound c.requires.fits).room }

pub invariant_of-self-2 : goal.invariant_of-self-2
unfolding changed
invariant_of-self-2 c = kept_after c.args.self.now _ _ (change.SetBands c.args.moment c.args.bands) c.self.view_is c.self.invariant c.requires.fits tt (rw (c.in_ok-set_table.ensures.ok, c.rows.ensures) refl)

pub returns : goal.returns
unfolding changed
returns c = makes_ok c.args.self.now _ _ (change.SetBands c.args.moment c.args.bands) c.self.view_is tt (rw (c.in_ok-set_table.ensures.ok, c.rows.ensures) refl)
