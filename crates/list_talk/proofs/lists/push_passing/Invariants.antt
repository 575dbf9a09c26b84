use Rattle.std.proofs.Common.{◌≡◌, ◌++◌, Bool, Bor, take, filter}
use Rattle.list_talk.proofs.lists.push_passing.Given as goal

-- those of the rows so far that pass were copied
abbrev pub invariant-loop-row : goal.invariant-loop-row
invariant-loop-row g l = goal.F-IsAlwaysCallable g l.passes
    × ((test : g.row.R.Denot → Bool) → ((row : Bor g.row.R.Denot) (answer : Bool) → goal.F-post g l.passes row answer → answer ≡ test row.now)
    → l.found.items ≡ l.initial.found.items ++ filter test (take l.row-index l.rows))
