-- Which trees have names in the list of objects.
use Rattle.std.specs.Prelude.{ℕ, zero, suc, ◌+◌, pos, negsuc, nat_lt, if◌then◌else◌, List, [], ◌∷◌}
use Rattle.sqlite_value.specs.declared.value.Value.{Value}
use Rattle.sqlite_value.specs.declared.value.Value.TheVariants.{Null, Int, Real, Text, Blob}
use Rattle.sqlite_value.specs.Order.{Row, column}
use Rattle.sqlite_trees.specs.Sound.{is_word}
use Rattle.sqlite_trees.specs.Tree.{Trees}
use Rattle.sqlite_trees.specs.Objects.{catalog_tree}
use Rattle.tree_order.specs.Numbers.{number}

-- the tree of a rowid, which is one less, or another one where it is that of none
abbrev pub tree_or : ℕ → Value → ℕ
tree_or other Null = other
tree_or other (Int (pos zero)) = other
tree_or other (Int (pos (suc tree))) = if nat_lt tree 65536 then tree else other
tree_or other (Int (negsuc n)) = other
tree_or other (Real x) = other
tree_or other (Text t) = other
tree_or other (Blob b) = other

-- the tree of the first object that has the name
abbrev pub tree_named : List ℕ → ℕ → List Row → ℕ
tree_named name other [] = other
tree_named name other (row ∷ rows) =
    if is_word name (column row 2) then tree_or other (column row 0) else tree_named name other rows

-- for each name its tree, or its own place where no object has it
abbrev pub trees_named : List (List ℕ) → ℕ → List Row → List ℕ
trees_named [] at rows = []
trees_named (name ∷ names) at rows = tree_named name at rows ∷ trees_named names (at + 1) rows

-- the trees by the names of their objects: the one at the place of a name is that of this name
abbrev pub by_names : List (List ℕ) → Trees → Trees
by_names names db tree = db (number (trees_named names 0 (db catalog_tree)) tree)
