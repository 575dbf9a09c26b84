use Rattle.store_files.proofs.AnyOrder.{arranged_by_names}
use Rattle.store_files.proofs.laws.houses_lie_in_any_order.Goals as goal

pub returns : goal.returns
returns c below db table order house few = arranged_by_names below db table order house few
