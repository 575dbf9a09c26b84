use Rattle.std.proofs.Common.{refl}
use Rattle.house_rows.specs.declared.change.Change.TheVariants as change
use Rattle.house_rows.specs.Changed.{changed}
use Rattle.store_list.proofs.Changing.{kept_after, makes_not, makes_ok}
use Rattle.store_list.proofs.keep.ListKeep.place.Goals as goal

pub invariant_of-self-2 : goal.invariant_of-self-2
unfolding changed
invariant_of-self-2 c = kept_after c.args.self.now _ _ (change.Bid c.args.moment c.args.item c.args.placed c.args.standing) c.self.view_is c.self.invariant c.requires.fits c.in_ok-place.ensures.free (rw (c.in_ok-place.ensures.ok, c.stand.ensures) refl)

pub returns : goal.returns
unfolding changed
returns c = makes_ok c.args.self.now _ _ (change.Bid c.args.moment c.args.item c.args.placed c.args.standing) c.self.view_is c.in_ok-place.ensures.free (rw (c.in_ok-place.ensures.ok, c.stand.ensures) refl)

pub returns-in_err-place : goal.returns-in_err-place
unfolding changed
returns-in_err-place c = makes_not c.from_residual.result _ _ _ _ c.args.self.now _ _ (change.Bid c.args.moment c.args.item c.args.placed c.args.standing) c.self.view_is c.from_residual.ensures.1 c.in_err-place.ensures (rw c.in_err-place.ensures.err refl)
