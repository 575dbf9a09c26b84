use Rattle.store_list.proofs.Fitting.{lot_fits}
use Rattle.store_list.proofs.keep.ListKeepKeep.item_of.Goals as goal

pub returns-clause-fits : goal.returns-clause-fits
returns-clause-fits c = rw c.number_with_lot.ensures (lot_fits _ _ c.self.view_is c.self.invariant.sound c.args.seller c.args.lot.now)
