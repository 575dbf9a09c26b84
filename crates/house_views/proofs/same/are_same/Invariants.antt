use Rattle.std.proofs.Common.{◌≡◌, take}
use Rattle.house_views.proofs.same.are_same.Given as goal

-- the rows so far are the same
abbrev pub invariant-loop-place : goal.invariant-loop-place
invariant-loop-place g l = take l.place l.left ≡ take l.place l.right
