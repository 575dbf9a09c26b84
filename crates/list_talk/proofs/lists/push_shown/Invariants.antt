use Rattle.std.proofs.Common.{◌≡◌, ◌≤◌, ◌++◌, Bool, Bor, take, filter, length}
use Rattle.house_rows.specs.Limits.{most_shown}
use Rattle.list_talk.proofs.lists.push_shown.Given as goal

-- those of the rows so far that pass were copied, up to fifty in all
abbrev pub invariant-loop-row : goal.invariant-loop-row
invariant-loop-row g l = goal.F-IsAlwaysCallable g l.passes
    × (length l.initial.found.items ≤ most_shown)
    × ((test : g.row.R.Denot → Bool) → ((row : Bor g.row.R.Denot) (answer : Bool) → goal.F-post g l.passes row answer → answer ≡ test row.now)
    → l.found.items ≡ take most_shown (l.initial.found.items ++ filter test (take l.row-index l.rows)))
