use Rattle.std.proofs.Common.{◌≡◌, drop, map}
use Rattle.house_rows.specs.Listings.{newest_of}
use Rattle.house_rows.proofs.editions.newest_among.Given as goal

-- what was found goes on to what will be found
abbrev pub invariant-loop-next : goal.invariant-loop-next
invariant-loop-next l = newest_of l.found (map (λ e. e.bands) (drop l.next-index l.later)) ≡ newest_of l.first (map (λ e. e.bands) l.later)
