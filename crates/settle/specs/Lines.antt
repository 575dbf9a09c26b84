-- What holds of every line, and how many there are at most.
use Rattle.std.specs.Prelude.{◌≡◌, ◌≤◌, ℕ, ◌+◌, List, All}
use Rattle.cents.specs.declared.amount.TheConstants.{LIMIT}
use Rattle.settle.specs.Statement.{totals_of}
use Rattle.settle.specs.declared.line.Line.{Line}
use Rattle.settle.specs.declared.totals.Totals.{Totals}

-- the most sales that a statement is made of
abbrev pub MOST : ℕ
MOST = 1_000_000

-- the price of a line is its fee and its net
abbrev pub IsSplit : Line → Type 0
IsSplit line = (line.price ≡ line.fee + line.net) × (line.price ≤ LIMIT)

-- the number of the item of a line is in its range
abbrev pub IsNumbered : Line → Type 0
IsNumbered line = line.item ≤ 1_000_000

-- the totals are those of the lines, and each line is split
pub record IsSummed (rows : List Line) (totals : Totals) : Type 0 where
  pub totals_are : totals ≡ totals_of rows
  pub split : All IsSplit rows
