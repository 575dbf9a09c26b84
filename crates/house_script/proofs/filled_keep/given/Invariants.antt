use Rattle.std.specs.Prelude.{◌≡◌, false}
use Rattle.house_script.specs.Housed.{LeadTo}
use Rattle.house_script.proofs.filled_keep.given.Given as goal

abbrev pub invariant-loop-line : goal.invariant-loop-line
invariant-loop-line g l = g.K.Keep.is_honest l.keep → g.K.Keep.is_failed l.keep ≡ false → LeadTo l.changes.items (g.K.Keep.content l.keep)
