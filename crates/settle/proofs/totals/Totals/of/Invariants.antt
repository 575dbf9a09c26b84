use Rattle.std.proofs.Common.{◌≡◌, take}
use Rattle.settle.specs.Statement.{totals_of}
use Rattle.settle.proofs.TotalLemmas.{AreSmall}
use Rattle.settle.proofs.totals.Totals.of.Given as goal

abbrev pub invariant-loop-line : goal.invariant-loop-line
invariant-loop-line l = record { sums : l.totals ≡ totals_of (take l.line-index l.rows); small : AreSmall l.line-index l.totals }
