-- The rows of sqlite_schema under other numbers. That of tree t has the rowid t + 1.
use Rattle.std.specs.Prelude.{ℕ, zero, suc, ◌+◌, ℤ, pos, negsuc, Bool, true, ◌&&◌, if◌then◌else◌, List, [], ◌∷◌, map}
use Rattle.std.specs.Ordering.{is_lt}
use Rattle.sqlite_value.specs.declared.value.Value.{Value}
use Rattle.sqlite_value.specs.declared.value.Value.TheVariants.{Null, Int, Real, Text, Blob}
use Rattle.sqlite_value.specs.Order.{Row, value_cmp}
use Rattle.sqlite_trees.specs.Tree.{rowid, put_row}
use Rattle.sqlite_trees.specs.View.{is_int}
use Rattle.tree_order.specs.Numbers.{number}

-- the rowid under the other number, and one that no tree has as it is
abbrev pub shifted : List ℕ → ℤ → ℤ
shifted numbers (pos zero) = pos 0
shifted numbers (pos (suc tree)) = pos (number numbers tree + 1)
shifted numbers (negsuc n) = negsuc n

abbrev pub renumbered_id : List ℕ → Value → Value
renumbered_id numbers Null = Null
renumbered_id numbers (Int id) = Int (shifted numbers id)
renumbered_id numbers (Real x) = Real x
renumbered_id numbers (Text t) = Text t
renumbered_id numbers (Blob b) = Blob b

abbrev pub renumbered_row : List ℕ → Row → Row
renumbered_row numbers [] = []
renumbered_row numbers (id ∷ columns) = renumbered_id numbers id ∷ columns

-- the row is below the first of these
abbrev pub is_before : Row → List Row → Bool
is_before row [] = true
is_before row (next ∷ rows) = is_lt (value_cmp (rowid row) (rowid next))

-- the rowids are integers, and rise
abbrev pub is_table : List Row → Bool
is_table [] = true
is_table (row ∷ rows) = is_int (rowid row) && (is_before row rows && is_table rows)

abbrev pub in_order : List Row → List Row
in_order [] = []
in_order (row ∷ rows) = put_row row (in_order rows)

-- the list under the other numbers, in their order; what is no table stays as it is
abbrev pub renumbered_rows : List ℕ → List Row → List Row
renumbered_rows numbers rows = if is_table rows then in_order (map (renumbered_row numbers) rows) else rows
