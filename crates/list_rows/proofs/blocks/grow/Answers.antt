use Rattle.std.proofs.Common.{◌∙◌}
use Rattle.list_rows.proofs.Blocked.{blocked_more, rows_more}
use Rattle.list_rows.proofs.blocks.grow.Goals as goal

pub loop-alloc-preserved : goal.loop-alloc-preserved
loop-alloc-preserved g c = (
  rw c.in-Ok.ensures.items (rows_more c.loop-alloc.blocks.items c.new.result c.new.ensures.items ∙ c.loop-alloc.invariant.0),
  rw c.in-Ok.ensures.items (blocked_more g.R.Keyed.key 0 c.loop-alloc.blocks.items c.new.result c.new.ensures.items c.loop-alloc.invariant.1),
)
