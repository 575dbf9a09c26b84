-- Two histories that look alike to a member.
use Rattle.std.specs.Prelude.{◌≡◌, ℕ}
use Rattle.house_rows.specs.declared.settings.Settings.{Settings}
use Rattle.house_rows.specs.History.{History}
use Rattle.house_rows.specs.Questions.{waiting}
use Rattle.house_rows.specs.Views.{own_view, public_view}

-- what is public, what the member has of its own and what waits for it are the same
pub record AreAlike (settings : Settings) (c : ℕ) (h k : History) : Type 0 where
  pub public : public_view settings h ≡ public_view settings k
  pub own : own_view h c ≡ own_view k c
  pub waiting : waiting h c ≡ waiting k c
