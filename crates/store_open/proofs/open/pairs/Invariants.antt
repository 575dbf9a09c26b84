use Rattle.std.proofs.Common.{◌≡◌, map, take}
use Rattle.store_rows.specs.declared.band.BandRow.{BandRow}
use Rattle.store_open.proofs.open.pairs.Given as goal

abbrev pub invariant-loop-row : goal.invariant-loop-row
invariant-loop-row l = l.pairs.items ≡ map (λ (b : BandRow). (b.from, b.step)) (take l.row-index l.rows)
