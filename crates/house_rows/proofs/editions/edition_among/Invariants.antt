use Rattle.std.proofs.Common.{◌≡◌, drop}
use Rattle.house_rows.specs.Editions.{edition_among}
use Rattle.house_rows.proofs.editions.edition_among.Given as goal

-- what was found goes on to what will be found
abbrev pub invariant-loop-next : goal.invariant-loop-next
invariant-loop-next l = edition_among l.found (drop l.next-index l.later) l.item ≡ edition_among 1 l.later l.item
