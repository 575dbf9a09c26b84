use Rattle.std.proofs.Common.{refl}
use Rattle.house_rows.specs.declared.change.Change.TheVariants as change
use Rattle.house_rows.specs.Changed.{changed}
use Rattle.store_list.proofs.Changing.{kept_after, makes_not, makes_ok}
use Rattle.store_list.proofs.keep.ListKeep.give.Goals as goal

pub invariant_of-self-2 : goal.invariant_of-self-2
unfolding changed
invariant_of-self-2 c = kept_after c.args.self.now _ _ (change.Feedback c.args.moment c.args.item c.args.from c.args.to c.args.rating c.args.text) c.self.view_is c.self.invariant c.requires.fits c.in_ok-give.ensures.free (rw c.in_ok-give.ensures.ok refl)

pub returns : goal.returns
unfolding changed
returns c = makes_ok c.args.self.now _ _ (change.Feedback c.args.moment c.args.item c.args.from c.args.to c.args.rating c.args.text) c.self.view_is c.in_ok-give.ensures.free (rw c.in_ok-give.ensures.ok refl)

pub returns-in_err-give : goal.returns-in_err-give
unfolding changed
returns-in_err-give c = makes_not c.from_residual.result _ _ _ _ c.args.self.now _ _ (change.Feedback c.args.moment c.args.item c.args.from c.args.to c.args.rating c.args.text) c.self.view_is c.from_residual.ensures.1 c.in_err-give.ensures (rw c.in_err-give.ensures.err refl)
