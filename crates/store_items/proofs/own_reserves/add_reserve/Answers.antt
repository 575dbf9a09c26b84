use Rattle.store_items.proofs.OwnReserves.{some_kept}
use Rattle.store_items.proofs.own_reserves.add_reserve.Goals as goal

pub returns-clause-kept : goal.returns-clause-kept
returns-clause-kept c = some_kept c.push.result _ _ c.in_ok-terms.ensures.shown
