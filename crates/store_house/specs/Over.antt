-- What a store under other numbers is to its callers, by what the other store is.
use Rattle.std.specs.Prelude.{◌≡◌, ◌⊎◌, option_map}
use Rattle.sqlite_trees.specs.declared.error.StoreError.TheVariants.{OutOfMemory}
use Rattle.sqlite_trees.specs.declared.store.Store.{Ghosts}
use Rattle.sqlite_trees.specs.Tree.{Trees}
use Rattle.tree_order.specs.Numbers.{number}
use Rattle.tree_order.specs.Shown.{shown, shown_trees}
use Rattle.tree_order.specs.declared.renumbered.Renumbered.{Renumbered}

abbrev pub over_numbers : {S : Type 0} → Ghosts S → Ghosts (Renumbered S)
over_numbers g = record {
  view = λ s. shown s.numbers (g.view s.inner);
  faults = λ s. g.faults s.inner;
  recovers = λ s db. (below : Trees) × g.recovers s.inner below × (db ≡ shown_trees s.numbers below);
  is_shielded = λ s. g.is_shielded s.inner;
  is_step = λ old new tree. (new ≡ old)
      ⊎ g.is_step old.inner new.inner (option_map (number old.numbers.inner.items) tree);
  blamed = λ s. g.blamed s.inner;
  names = λ old new error. (error ≡ OutOfMemory) ⊎ g.names old.inner new.inner error;
}
