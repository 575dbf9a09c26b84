-- Which words ask for no statement.
use Rattle.std.specs.Prelude.{◌≡◌, ◌≢◌, ◌⊎◌, ◌<◌, ◌≤◌, ℕ, List}
use Rattle.settle.specs.Calendar.{day_text}
use Rattle.settle.specs.declared.day.TheConstants.{LAST_DAY}
use Rattle.auction_words.specs.declared.command_line.StatementWords.{StatementWords}
use Rattle.auction_runs.specs.declared.fault.TaskFault.{TaskFault}
use Rattle.auction_runs.specs.declared.fault.TaskFault.TheVariants.{Date, Order}

-- a text is no day
abbrev pub IsNoDay : List ℕ → Type 0
IsNoDay text = (day : ℕ) → day ≤ LAST_DAY → text ≢ day_text day

-- two texts are days, and the second lies before the first
pub record AreReversed (from to : List ℕ) : Type 0 where
  pub first : ℕ
  pub last : ℕ
  pub within : first ≤ LAST_DAY
  pub from_first : from ≡ day_text first
  pub to_last : to ≡ day_text last
  pub reversed : last < first

-- why words ask for no statement: a text is no day, or the period ends before it begins
abbrev pub IsUnasked : StatementWords → TaskFault → Type 0
IsUnasked words fault =
    ((fault ≡ Date) × (IsNoDay words.from.now ⊎ IsNoDay words.to.now))
    ⊎ ((fault ≡ Order) × AreReversed words.from.now words.to.now)
