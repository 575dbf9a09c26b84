-- what was counted is of the lines so far
use Rattle.std.proofs.Common.{◌≡◌, List, ◌++◌, length}
use Rattle.wire.specs.Fields.{Pair, values_of}
use Rattle.wire.specs.Known.{IsCount}
use Rattle.wire.specs.Lines.{fields_in}
use Rattle.wire.proofs.lines.one_of.Given as goal

abbrev pub invariant-loop-end : goal.invariant-loop-end
invariant-loop-end l =
    (before : List Pair) × (fields_in l.lines ≡ before ++ fields_in l.rest) × IsCount (values_of l.name before) l.values

abbrev pub decreases-loop-end : goal.decreases-loop-end
decreases-loop-end l = length l.rest
