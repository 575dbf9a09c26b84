use Rattle.std.proofs.Common.{◌≡◌, drop}
use Rattle.house_rows.specs.Editions.{bands_among}
use Rattle.house_rows.proofs.editions.Editions.bands_for.Given as goal

-- what was found goes on to what will be found
abbrev pub invariant-loop-next : goal.invariant-loop-next
invariant-loop-next l = bands_among l.found (drop l.next-index l.later) l.item ≡ bands_among l.self.settings.bands l.later l.item
