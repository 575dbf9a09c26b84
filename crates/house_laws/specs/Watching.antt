-- Members that may give a command, and what they watch.
use Rattle.std.specs.Prelude.{◌≤◌, ℕ, Bool, ◌==◌, length}
use Rattle.std.specs.List.{list_any}
use Rattle.house_rows.specs.History.{History, clock}
use Rattle.house_rows.specs.Limits.{last_moment}
use Rattle.house_rows.specs.People.{members}
use Rattle.house_rows.specs.Views.{own_watches}

-- a registered member, at a moment that there is and that isn't after the clock
pub record MayCommand (h : History) (moment caller : ℕ) : Type 0 where
  pub moment_fits : moment ≤ last_moment
  pub not_house : 1 ≤ caller
  pub registered : caller ≤ length (members h)
  pub not_after : clock h ≤ moment

-- whether a member watches an item
abbrev pub is_watched : History → ℕ → ℕ → Bool
is_watched h c i = list_any (λ w. w.item == i) (own_watches h c)
