-- The first rows of what a query shows.
use Rattle.std.specs.Prelude.{◌≡◌, ℕ, List, [], ◌∷◌, take, Result, Ok, Err}
use Rattle.sqlite_value.specs.Order.{Row}
use Rattle.sqlite_schema.specs.declared.command.Command.{Command}
use Rattle.sqlite_schema.specs.declared.command.Command.TheVariants.{Select}
use Rattle.sqlite_resolve.specs.declared.compiled.Compiled.{Compiled}
use Rattle.sqlite_resolve.specs.declared.error.CompileError.{CompileError}
use Rattle.sqlite.specs.State.{State, Shown}

abbrev pub HasNoWith : Command → Type 0
HasNoWith (Select program names) = program.lets ≡ []
HasNoWith _ = ⊥

-- a SELECT with no WITH, whose answer has an end
abbrev pub IsFinite : Result Compiled CompileError → Type 0
IsFinite (Ok c) = HasNoWith c.command
IsFinite (Err e) = ⊥

-- the first rows of what the query shows, at most so many, and all where fewer came
pub record ShowsFirst (most : ℕ) (sql : List ℕ) (params : Row) (old new : State) (rows : List Row) : Type 0 where
  pub all : List Row
  pub shown : Shown sql params old new all
  pub are : rows ≡ take most all

-- the query shows a row
pub record ShowsSome (sql : List ℕ) (params : Row) (old new : State) : Type 0 where
  pub first : Row
  pub others : List Row
  pub shown : Shown sql params old new (first ∷ others)
