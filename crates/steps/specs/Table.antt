-- A band table: from an amount on, the step by which a price rises. All numbers are cents.
use Rattle.std.specs.Prelude.{if◌then◌else◌, ◌≡◌, ℕ, ◌+◌, ◌≤◌, ◌<◌, List, [], ◌∷◌, length, nat_le}
use Rattle.std.specs.List.{AllByRecursion}

-- a band, as (at, step): from an amount on, the step
abbrev pub Band : Type 0
Band = ℕ × ℕ

-- a band within its ranges: it begins within the amounts, and its step is an amount of at least 1
abbrev pub IsBand : Band → Type 0
IsBand band = (band.0 ≤ 1000000000) × (1 ≤ band.1) × (band.1 ≤ 1000000000)

-- each band begins above the one before it, and no step is smaller than the one before it
abbrev pub RisesFrom : Band → List Band → Type 0
RisesFrom last [] = Unit {0}
RisesFrom last (band ∷ bands) = (last.0 < band.0) × (last.1 ≤ band.1) × RisesFrom band bands

-- there is a band, the first begins at 0, and from there they rise
abbrev pub RisesFromZero : List Band → Type 0
RisesFromZero [] = ⊥
RisesFromZero (first ∷ bands) = (first.0 ≡ 0) × RisesFrom first bands

-- which tables are valid
pub record IsBandTable (bands : List Band) : Type 0 where
  pub few : length bands ≤ 50
  pub each : AllByRecursion IsBand bands
  pub rising : RisesFromZero bands

-- the last number of a list, or one where it is empty
abbrev pub last_or : ℕ → List ℕ → ℕ
last_or d [] = d
last_or d (x ∷ xs) = last_or x xs

-- the steps of the bands that begin at or below the amount
abbrev pub steps_until : List Band → ℕ → List ℕ
steps_until [] amount = []
steps_until (band ∷ bands) amount = if nat_le band.0 amount then band.1 ∷ steps_until bands amount else steps_until bands amount

-- the step of the last band that begins at or below the amount
unfoldable pub step_at : List Band → ℕ → ℕ
step_at bands amount = last_or 0 (steps_until bands amount)

-- the least amount above this one that a bidder may offer
abbrev pub over : List Band → ℕ → ℕ
over bands amount = amount + step_at bands amount
