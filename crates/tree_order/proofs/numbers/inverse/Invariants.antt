use Rattle.std.proofs.Common.{◌≡◌, ℕ, ◌<◌, ◌≤◌, length, get_or}
use Rattle.std.specs.Prelude.{◌⊎◌}
use Rattle.tree_order.proofs.numbers.inverse.Given as goal

-- what is set leads back, and what was met is set
abbrev pub invariant-loop-tree : goal.invariant-loop-tree
invariant-loop-tree l = record {
  same : length l.outer.items ≡ length l.numbers;
  few : length l.numbers ≤ 65536;
  met : (t : ℕ) → t < l.tree → (get_or l.numbers t 0 < length l.numbers) × (get_or l.outer.items (get_or l.numbers t 0) 0 ≡ t);
  back : (n : ℕ) → n < length l.numbers → (get_or l.outer.items n 0 ≡ 4294967295) ⊎ ((get_or l.outer.items n 0 < l.tree) × (get_or l.numbers (get_or l.outer.items n 0) 0 ≡ n));
}
