use Rattle.std.proofs.Common.{◌≡◌, ◌++◌, drop}
use Rattle.store_rows.specs.Tables.{bands_at}
use Rattle.store_open.proofs.editions.pairs_at.Given as goal

-- those that were found, and those that are to come
abbrev pub invariant-loop-band : goal.invariant-loop-band
invariant-loop-band l = l.pairs.items ++ bands_at l.edition (drop l.band-index l.bands) ≡ bands_at l.edition l.bands
