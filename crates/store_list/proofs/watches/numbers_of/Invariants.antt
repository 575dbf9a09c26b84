use Rattle.std.proofs.Common.{◌≡◌, take, map}
use Rattle.house_rows.specs.Watches.{WatchRow}
use Rattle.store_list.proofs.watches.numbers_of.Given as goal

-- the numbers of the watches so far
abbrev pub invariant-loop-row : goal.invariant-loop-row
invariant-loop-row l = l.numbers.items ≡ map (λ (w : WatchRow). w.item) (take l.row-index l.watches)
