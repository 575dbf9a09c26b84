-- What a store shows under the numbers of a `Numbers`.
use Rattle.sqlite_trees.specs.Tree.{Trees}
use Rattle.sqlite_trees.specs.View.{View}
use Rattle.tree_order.specs.declared.numbers.Numbers.{Numbers}
use Rattle.tree_order.specs.Renumbered.{renumbered_trees, renumbered}

abbrev pub shown_trees : Numbers → Trees → Trees
shown_trees numbers = renumbered_trees numbers.inner.items numbers.outer.items

abbrev pub shown : Numbers → View → View
shown numbers = renumbered numbers.inner.items numbers.outer.items
