-- What was found, as a list.
use Rattle.std.specs.Prelude.{ℕ, List, [], ◌∷◌, Option, Some, None}

-- what was found, as a list
abbrev pub found_of : {A : Type 0} → Option A → List A
found_of None = []
found_of (Some x) = x ∷ []
