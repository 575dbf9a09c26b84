use Rattle.std.proofs.Common.{◌≡◌, take}
use Rattle.list_rows.proofs.copies.copies_of.Given as goal

-- the rows so far were copied
abbrev pub invariant-loop-row : goal.invariant-loop-row
invariant-loop-row g l = l.found.items ≡ take l.row-index l.rows
