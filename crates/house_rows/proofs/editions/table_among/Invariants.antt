use Rattle.std.proofs.Common.{◌≡◌, ◌+◌, drop, map}
use Rattle.house_rows.specs.Editions.{table_from, table_of}
use Rattle.house_rows.proofs.editions.table_among.Given as goal

-- the tables so far have other numbers
abbrev pub invariant-loop-next : goal.invariant-loop-next
invariant-loop-next l = (l.number ≡ l.next-index + 1)
    × (table_from (l.number + 1) (map (λ e. e.bands) (drop l.next-index l.later)) l.edition ≡ table_of l.first (map (λ e. e.bands) l.later) l.edition)
