use Rattle.std.proofs.Common.{◌≡◌, ◌≤◌, ℕ, Bool, length, take}
use Rattle.house_rows.specs.Limits.{most_shown}
use Rattle.list_rows.specs.Blocks.{rows_of}
use Rattle.list_talk.proofs.Waiting.{waiting_among}
use Rattle.list_talk.proofs.questions.Questions.first_waiting_on.Given as goal

-- the first of those that wait on the items so far were found
abbrev pub invariant-loop-number : goal.invariant-loop-number
invariant-loop-number g l = goal.F-IsAlwaysCallable g l.passes
    × (length l.found.items ≤ most_shown)
    × ((test : ℕ → Bool) → ((item : ℕ) (answer : Bool) → goal.F-post g l.passes item answer → answer ≡ test item)
    → l.found.items ≡ take most_shown (waiting_among test (rows_of l.self-inside.blocks.items) (take l.number-index l.items)))
