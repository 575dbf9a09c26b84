use Rattle.std.proofs.Common.{◌≡◌, ℕ, Bool, take}
use Rattle.list_rows.specs.Blocks.{rows_of}
use Rattle.list_talk.proofs.Waiting.{waiting_among}
use Rattle.list_talk.proofs.questions.Questions.waiting_on.Given as goal

-- those that wait on the items so far were found
abbrev pub invariant-loop-number : goal.invariant-loop-number
invariant-loop-number g l = goal.F-IsAlwaysCallable g l.passes
    × ((test : ℕ → Bool) → ((item : ℕ) (answer : Bool) → goal.F-post g l.passes item answer → answer ≡ test item)
    → l.found.items ≡ waiting_among test (rows_of l.self-inside.blocks.items) (take l.number-index l.items))
