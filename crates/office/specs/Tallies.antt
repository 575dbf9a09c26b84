-- How many rows became what.
use Rattle.std.specs.Prelude.{ℕ, ◌+◌}
use Rattle.office.specs.declared.outcome.Outcome.{Outcome}
use Rattle.office.specs.declared.outcome.Outcome.TheVariants as outcome
use Rattle.office.specs.declared.tally.Imported.{Imported}

-- the count of no row
abbrev pub nothing : Imported
nothing = record { listed = 0; there = 0; refused = 0 }

-- the count with one row more
abbrev pub counted : Imported → Outcome → Imported
counted t outcome.Listed = record { listed = t.listed + 1; there = t.there; refused = t.refused }
counted t outcome.There = record { listed = t.listed; there = t.there + 1; refused = t.refused }
counted t outcome.Refused = record { listed = t.listed; there = t.there; refused = t.refused + 1 }

-- how many rows were counted
abbrev pub sum_of : Imported → ℕ
sum_of t = t.listed + t.there + t.refused
