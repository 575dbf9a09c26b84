-- Transactions that a statement of the connection begins.
use Rattle.std.specs.Prelude.{◌≢◌, ℕ, List, Result, Ok, Err}
use Rattle.sqlite_schema.specs.declared.command.Command.{Command}
use Rattle.sqlite_schema.specs.declared.command.Command.TheVariants.{Commit, Release}
use Rattle.sqlite_resolve.specs.declared.compiled.Compiled.{Compiled}
use Rattle.sqlite_resolve.specs.declared.error.CompileError.{CompileError}

-- a statement that ends no transaction
abbrev pub IsInner : Command → Type 0
IsInner command = (command ≢ Commit) × ((name : List ℕ) → command ≢ Release name)

abbrev pub StaysInside : Result Compiled CompileError → Type 0
StaysInside (Ok c) = IsInner c.command
StaysInside (Err e) = Unit {0}
