-- What a sink took of bytes that were given to it in several calls.
use Rattle.std.specs.Prelude.{ℕ, ◌≤◌, List, length, take, Option}
use Rattle.std.specs.Io.KnownBytes.{Appends}

-- known bytes grew by a beginning of these
abbrev pub AppendsBeginning : Option (List ℕ) → Option (List ℕ) → List ℕ → Type 0
AppendsBeginning old new bytes = (n : ℕ) × (n ≤ length bytes) × Appends old new (take n bytes)

-- the first known bytes are a beginning of the second
abbrev pub IsBeginning : Option (List ℕ) → Option (List ℕ) → Type 0
IsBeginning first all = (rest : List ℕ) × Appends first all rest
