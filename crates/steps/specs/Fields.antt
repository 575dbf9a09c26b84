-- The fields of a record.
use Rattle.std.specs.Prelude.{ℕ, List, [], ◌∷◌, Option, Some, None}

-- the two fields of a record of two
abbrev pub pair_of : List (List ℕ) → Option (List ℕ × List ℕ)
pair_of [] = None
pair_of (first ∷ []) = None
pair_of (first ∷ second ∷ []) = Some (first, second)
pair_of (first ∷ second ∷ third ∷ more) = None
