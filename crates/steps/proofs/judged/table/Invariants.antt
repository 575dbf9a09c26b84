use Rattle.std.proofs.Common.{take}
use Rattle.steps.specs.Records.{AreBands}
use Rattle.steps.proofs.judged.table.Given as goal

-- the rows so far are bands
abbrev pub invariant-loop-at : goal.invariant-loop-at
invariant-loop-at l = AreBands (take l.at l.rows)
