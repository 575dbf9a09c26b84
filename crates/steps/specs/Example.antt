-- The table of the house's own examples.
use Rattle.std.specs.Prelude.{List, [], ◌∷◌}
use Rattle.steps.specs.Table.{Band}

-- ten bands, each as (at, step) in cents
abbrev pub example_table : List Band
example_table =
    (0, 5) ∷ (100, 25) ∷ (500, 50) ∷ (2500, 100) ∷ (10000, 250) ∷ (25000, 500) ∷ (50000, 1000)
    ∷ (100000, 2500) ∷ (250000, 5000) ∷ (500000, 10000) ∷ []
