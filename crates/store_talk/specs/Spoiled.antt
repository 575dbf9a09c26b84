-- Where a list of at most fifty rows may be reported as damaged.
use Rattle.std.specs.Prelude.{◌<◌, ◌⊎◌, ℕ, List, length, map}
use Rattle.std.specs.List.{AllByRecursion}
use Rattle.sqlite_value.specs.Order.{Row}
use Rattle.sqlite.specs.State.{State}
use Rattle.house_rows.specs.Limits.{most_shown}
use Rattle.store_rows.specs.First.{ShowsFirst, ShowsSome}

-- a query shows fewer than fifty rows, and another one shows a stray
pub record HasStray (sql : List ℕ) (params : Row) (strays : List ℕ) (stray_params : Row) (old new : State) : Type 0 where
  pub rows : List Row
  pub first : ShowsFirst most_shown sql params old new rows
  pub few : length rows < most_shown
  pub some : ShowsSome strays stray_params old new

-- among the first fifty rows that a query shows one doesn't fit
pub record HasUnfit {T : Type 0} (report : Row → T) (Fits : T → Type 0) (sql : List ℕ) (params : Row) (old new : State) : Type 0 where
  pub rows : List Row
  pub first : ShowsFirst most_shown sql params old new rows
  pub unfit : ¬ (AllByRecursion Fits (map report rows))

-- one of the rows up to the last that is shown doesn't fit, or the list isn't full and has a stray
abbrev pub IsSpoiled : {T : Type 0} → (Row → T) → (T → Type 0) → List ℕ → Row → List ℕ → Row → State → State → Type 0
IsSpoiled report Fits sql params strays stray_params old new = HasUnfit report Fits sql params old new ⊎ HasStray sql params strays stray_params old new
