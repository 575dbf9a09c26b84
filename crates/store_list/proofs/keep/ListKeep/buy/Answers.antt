use Rattle.std.proofs.Common.{refl}
use Rattle.house_rows.specs.declared.change.Change.TheVariants as change
use Rattle.house_rows.specs.Changed.{changed}
use Rattle.store_list.proofs.Changing.{kept_after, makes_ok}
use Rattle.store_list.proofs.keep.ListKeep.buy.Goals as goal

pub invariant_of-self-2 : goal.invariant_of-self-2
unfolding changed
invariant_of-self-2 c = kept_after c.args.self.now _ _ (change.Buy c.args.moment c.args.item c.args.buyer c.args.price) c.self.view_is c.self.invariant c.requires.fits tt (rw c.in_ok-buy.ensures.ok refl)

pub returns : goal.returns
unfolding changed
returns c = makes_ok c.args.self.now _ _ (change.Buy c.args.moment c.args.item c.args.buyer c.args.price) c.self.view_is tt (rw c.in_ok-buy.ensures.ok refl)
