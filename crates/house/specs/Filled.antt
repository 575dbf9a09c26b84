-- Tables that changes are made to, one after the other.
use Rattle.std.specs.Prelude.{◌≡◌, List, [], ◌∷◌, ◌++◌}
use Rattle.house_rows.specs.declared.change.Change.{Change}
use Rattle.house_rows.specs.Asks.{ChangeFits, IsFree}
use Rattle.house_rows.specs.Changed.{changed}
use Rattle.house_rows.specs.Making.{ChangeRowsFit}
use Rattle.house_rows.specs.Tables.{Tables}

-- the tables after changes in turn
abbrev pub after : Tables → List Change → Tables
after t [] = t
after t (change ∷ changes) = after (changed t change) changes

-- each change fits the tables that those before it leave
abbrev pub FitInTurn : Tables → List Change → Type 0
FitInTurn t [] = Unit {0}
FitInTurn t (change ∷ changes) = ChangeFits t change × FitInTurn (changed t change) changes

-- the new key of each change is free in the tables that those before it leave
abbrev pub AreFreeInTurn : Tables → List Change → Type 0
AreFreeInTurn t [] = Unit {0}
AreFreeInTurn t (change ∷ changes) = IsFree t change × AreFreeInTurn (changed t change) changes

-- the rows that making each change takes fit in the tables that those before it leave
abbrev pub RowsFitInTurn : Tables → List Change → Type 0
RowsFitInTurn t [] = Unit {0}
RowsFitInTurn t (change ∷ changes) = ChangeRowsFit t change × RowsFitInTurn (changed t change) changes

-- the tables after a beginning of the changes
pub record IsBegun (t : Tables) (changes : List Change) (now : Tables) : Type 0 where
  pub made : List Change
  pub rest : List Change
  pub parts : changes ≡ made ++ rest
  pub leads : now ≡ after t made
