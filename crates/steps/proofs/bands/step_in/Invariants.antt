use Rattle.std.proofs.Common.{◌≡◌, drop}
use Rattle.steps.specs.Table.{last_or, steps_until}
use Rattle.steps.proofs.bands.step_in.Given as goal

-- what was found goes on to what will be found
abbrev pub invariant-loop-band : goal.invariant-loop-band
invariant-loop-band l = last_or l.found (steps_until (drop l.band-index l.rows) l.amount) ≡ last_or 0 (steps_until l.rows l.amount)
