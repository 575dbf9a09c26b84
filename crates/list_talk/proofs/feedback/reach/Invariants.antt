use Rattle.std.proofs.Common.{◌≡◌, ◌+◌, ◌-◌, ℕ, get_or, length}
use Rattle.list_talk.specs.Rated.{unrated}
use Rattle.list_talk.proofs.feedback.reach.Given as goal

-- members that are added were never rated
abbrev pub invariant-loop-counts : goal.invariant-loop-counts
invariant-loop-counts l = (m : ℕ) → get_or l.counts.items m unrated ≡ get_or l.initial.counts.items m unrated

abbrev pub decreases-loop-counts : goal.decreases-loop-counts
decreases-loop-counts l = l.member + 1 - length l.counts.items
