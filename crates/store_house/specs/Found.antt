-- Typed rows of a house, as a statement shows them.
use Rattle.std.specs.Prelude.{◌≡◌, ℕ, List, map}
use Rattle.sqlite_value.specs.Order.{Row}
use Rattle.sqlite_trees.specs.Tree.{Trees}
use Rattle.sqlite.specs.State.{State, Shown}
use Rattle.store_rows.specs.House.{IsHouse}

-- what a statement shows of a house are these rows of it, in this order
abbrev pub Lists : {T : Type 0} → State → State → List ℕ → Row → (Row → T) → (Trees → List T) → Type 0
Lists old new sql params report rows = IsHouse old.now → (answer : List Row) → Shown sql params old new answer
    → map report answer ≡ rows old.now.trees
