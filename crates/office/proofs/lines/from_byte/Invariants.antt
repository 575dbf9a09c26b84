use Rattle.std.proofs.Common.{◌≡◌, ◌≤◌, length}
use Rattle.office.specs.Lines.{from_byte}
use Rattle.office.proofs.lines.from_byte.Given as goal

-- what was passed over has no such byte
abbrev pub invariant-loop-first : goal.invariant-loop-first
invariant-loop-first l = record {
  from : from_byte l.byte l.rest ≡ from_byte l.byte l.text;
  within : length l.rest ≤ length l.text;
}

abbrev pub decreases-loop-first : goal.decreases-loop-first
decreases-loop-first l = length l.rest
