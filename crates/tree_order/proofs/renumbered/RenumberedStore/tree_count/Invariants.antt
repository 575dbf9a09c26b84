use Rattle.std.proofs.Common.{◌≡◌, ℕ, ◌<◌, ◌≤◌, length}
use Rattle.sqlite_trees.specs.declared.store.Shape.TheVariants.{Absent}
use Rattle.tree_order.specs.Numbers.{number}
use Rattle.tree_order.proofs.renumbered.RenumberedStore.tree_count.Given as goal

-- the trees past the count are none
abbrev pub invariant-loop-count : goal.invariant-loop-count
invariant-loop-count g l = record {
  low : l.count ≤ length l.self.numbers.inner.items;
  gone : (tree : ℕ) → l.count ≤ tree → tree < length l.self.numbers.inner.items → (g.S.Store.view l.self.inner).shape (number l.self.numbers.inner.items tree) ≡ Absent;
}

abbrev pub decreases-loop-count : goal.decreases-loop-count
decreases-loop-count g l = l.count
