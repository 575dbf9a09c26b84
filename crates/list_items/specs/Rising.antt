-- Rising lists of numbers, and the rows that have them.
use Rattle.std.specs.Prelude.{ℕ, ◌+◌, ◌≤◌, List, [], ◌∷◌, Bool, true, ◌==◌, ◌≡◌, find}
use Rattle.std.specs.List.{AllByRecursion, filter_map, list_any}

-- each number is at least the least, and above the one before it
abbrev pub IsRisingFrom : ℕ → List ℕ → Type 0
IsRisingFrom least [] = Unit {0}
IsRisingFrom least (k ∷ ks) = (least ≤ k) × IsRisingFrom (k + 1) ks

abbrev pub IsRising : List ℕ → Type 0
IsRising = IsRisingFrom 0

-- whether a number is among others
abbrev pub is_among : List ℕ → ℕ → Bool
is_among ks number = list_any (λ k. k == number) ks

-- every row that passes a test has its number among ks
abbrev pub HasAll : {A : Type 0} → (A → ℕ) → (A → Bool) → List ℕ → List A → Type 0
HasAll number passes ks rows = AllByRecursion (λ row. passes row ≡ true → is_among ks (number row) ≡ true) rows

-- the rows of these numbers, in the order of the numbers
abbrev pub rows_at : {A : Type 0} → (A → ℕ) → List ℕ → List A → List A
rows_at number ks rows = filter_map (λ k. find (λ row. number row == k) rows) ks
