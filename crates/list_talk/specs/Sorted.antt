-- Rows by a number of theirs.
use Rattle.std.specs.Prelude.{ℕ, ◌≤◌, ◌<◌, List, [], ◌∷◌}
use Rattle.std.specs.List.{AllByRecursion}

-- the numbers of rows don't fall
abbrev pub AreSorted : {A : Type 0} → (A → ℕ) → List A → Type 0
AreSorted number [] = Unit {0}
AreSorted number (x ∷ xs) = AllByRecursion (λ y. number x ≤ number y) xs × AreSorted number xs

-- the numbers of rows rise
abbrev pub AreRisen : {A : Type 0} → (A → ℕ) → List A → Type 0
AreRisen number [] = Unit {0}
AreRisen number (x ∷ xs) = AllByRecursion (λ y. number x < number y) xs × AreRisen number xs
