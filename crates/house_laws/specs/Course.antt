-- The course of an item.
use Rattle.std.specs.Prelude.{Bool, true, false}
use Rattle.house_rows.specs.declared.state.State.{State}
use Rattle.house_rows.specs.declared.state.State.TheVariants.{Open, Sold, Unsold, Settled}

-- a state stays, or moves from open to sold or unsold, or from sold to settled
abbrev pub may_move : State → State → Bool
may_move Open Settled = false
may_move Open _ = true
may_move Sold Sold = true
may_move Sold Settled = true
may_move Sold _ = false
may_move Unsold Unsold = true
may_move Unsold _ = false
may_move Settled Settled = true
may_move Settled _ = false
