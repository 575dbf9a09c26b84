-- What a store shows under other numbers.
use Rattle.std.specs.Prelude.{ℕ, List, map, if◌then◌else◌, ◌==◌}
use Rattle.sqlite_trees.specs.Tree.{Trees}
use Rattle.sqlite_trees.specs.Objects.{catalog_tree}
use Rattle.sqlite_trees.specs.View.{Snapshot, View}
use Rattle.tree_order.specs.Numbers.{number}
use Rattle.tree_order.specs.Rows.{renumbered_rows}

-- tree t has the rows of tree `number inner t`, and the list of objects goes by the numbers outside
abbrev pub renumbered_trees : List ℕ → List ℕ → Trees → Trees
renumbered_trees inner outer trees tree =
    if tree == catalog_tree then renumbered_rows outer (trees catalog_tree) else trees (number inner tree)

abbrev pub renumbered_mark : List ℕ → List ℕ → Snapshot → Snapshot
renumbered_mark inner outer mark = record {
  trees = renumbered_trees inner outer mark.trees;
  shape = λ tree. mark.shape (number inner tree);
  reals = λ tree. mark.reals (number inner tree);
}

-- `inner` has for each tree its number in the store below, and `outer` leads back
abbrev pub renumbered : List ℕ → List ℕ → View → View
renumbered inner outer below = record below {
  trees = renumbered_trees inner outer below.trees;
  committed = renumbered_trees inner outer below.committed;
  shape = λ tree. below.shape (number inner tree);
  reals = λ tree. below.reals (number inner tree);
  committed_shape = λ tree. below.committed_shape (number inner tree);
  committed_reals = λ tree. below.committed_reals (number inner tree);
  marks = map (renumbered_mark inner outer) below.marks;
}
