use Rattle.std.proofs.Common.{◌≡◌, ℕ, List, [], ◌∷◌}
use Rattle.std.specs.Io.KnownBytes.{Appends}
use Rattle.site.specs.Replies.{IsStep, zone_of}
use Rattle.steps.specs.Reading.{HasRead}
use Rattle.office.specs.Imports.{HasImported, HasOrdered, keep_of}
use Rattle.office.specs.Lots.{head}
use Rattle.office.specs.Tallies.{sum_of}
use Rattle.office.proofs.imports.import_rows.Given as goal

-- the rows so far were read, dealt with in turn, counted, and their lines printed
abbrev pub invariant-loop-before : goal.invariant-loop-before
invariant-loop-before g l =
    let keep = g.K.Keep in
    let first = l.fn.site in
    let step = IsStep keep.content keep.is_failed keep.is_honest keep.may_leave (zone_of first) in
    record {
      counted : sum_of l.report ≡ l.before;
      zone : zone_of l.site ≡ zone_of first;
      ordered : HasOrdered step l.by (keep_of first) (keep_of l.site);
      read : (text : List ℕ) → HasRead g.R.Read.remaining l.fn.reader (head ∷ []) text
          → (rows : List (List (List ℕ))) × (printed : List ℕ)
          × HasRead g.R.Read.remaining l.reader (head ∷ rows) text
          × HasImported step l.by rows (keep_of first) (keep_of l.site) l.report printed
          × Appends (g.W.Write.contents l.fn.output) (g.W.Write.contents l.output) printed;
    }
