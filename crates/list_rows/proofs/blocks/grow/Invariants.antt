use Rattle.std.proofs.Common.{◌≡◌, ◌+◌, ◌-◌, vec_len}
use Rattle.list_rows.specs.Blocks.{IsBlocked, rows_of}
use Rattle.list_rows.proofs.blocks.grow.Given as goal

-- the blocks so far have the rows that there were
abbrev pub invariant-loop-alloc : goal.invariant-loop-alloc
invariant-loop-alloc g l = (rows_of l.blocks.items ≡ rows_of l.fn.blocks.items) × IsBlocked g.R.Keyed.key l.blocks.items

abbrev pub decreases-loop-alloc : goal.decreases-loop-alloc
decreases-loop-alloc g l = l.number + 1 - vec_len l.blocks
