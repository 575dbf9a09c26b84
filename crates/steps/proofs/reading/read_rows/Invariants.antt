use Rattle.std.proofs.Common.{ℕ, ◌-◌, List, [], ◌∷◌, length}
use Rattle.steps.specs.Reading.{HasRead}
use Rattle.steps.specs.Records.{AreBands, head}
use Rattle.steps.proofs.TableLemmas.{Spells}
use Rattle.steps.proofs.reading.read_rows.Given as goal

-- the bands so far are valid, and the reader has read a row for each of them
abbrev pub invariant-loop-bands : goal.invariant-loop-bands
invariant-loop-bands g l = record {
  valid : AreBands l.bands.items;
  read : (text : List ℕ) → HasRead g.R.Read.remaining l.fn.reader (head ∷ []) text
      → (rows : List (List (List ℕ))) × HasRead g.R.Read.remaining l.reader (head ∷ rows) text × Spells rows l.bands.items;
}

-- a table has 50 bands at most, so at the next one the loop ends
abbrev pub decreases-loop-bands : goal.decreases-loop-bands
decreases-loop-bands g l = 51 - length l.bands.items
