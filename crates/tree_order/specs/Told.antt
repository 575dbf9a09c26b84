-- How the answers of the other store are told.
use Rattle.std.specs.Prelude.{ℕ, List, [], ◌∷◌}
use Rattle.sqlite_trees.specs.declared.error.StoreError.{StoreError}
use Rattle.sqlite_trees.specs.declared.error.StoreError.TheVariants.{OutOfMemory, Io, Corrupt, Full, Broken, Unstorable}

-- A list that is refused in one order may be sound in the other, so the refusal has no cause here.
abbrev pub told : List ℕ → StoreError → StoreError
told [] error = error
told (n ∷ numbers) OutOfMemory = OutOfMemory
told (n ∷ numbers) Io = Io
told (n ∷ numbers) Corrupt = Corrupt
told (n ∷ numbers) Full = Full
told (n ∷ numbers) Broken = Broken
told (n ∷ numbers) Unstorable = OutOfMemory
