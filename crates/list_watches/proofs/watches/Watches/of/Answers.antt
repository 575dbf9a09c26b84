use Rattle.house_rows.specs.Watches.{watch_key}
use Rattle.list_rows.specs.Blocks.{rows_of}
use Rattle.list_rows.proofs.Blocked.{rows_rise}
use Rattle.list_rows.proofs.Order.{rising_filter}
use Rattle.list_watches.proofs.watches.Watches.of.Goals as goal

pub returns-clause-rising : goal.returns-clause-rising
returns-clause-rising c = rw (c.block.ensures, c.deref.ensures.value) (rising_filter watch_key _ (rows_of c.self.inside.blocks.items) (rows_rise watch_key 0 c.self.inside.blocks.items c.self.invariant))
