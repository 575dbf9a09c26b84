-- Which stored rows take a key, whether or not they fit.
use Rattle.std.specs.Prelude.{◌≡◌, ℕ, ◌==◌, ◌&&◌, Bool}
use Rattle.std.specs.List.{list_any}
use Rattle.sqlite_value.specs.Order.{Row, column}
use Rattle.sqlite_trees.specs.Tree.{Trees}
use Rattle.store_rows.specs.Rows.{number_in}
use Rattle.store_rows.specs.Sorted.{sorted_feedback}

-- a row of the table of feedback has this item and this giver, whatever else it holds
abbrev pub has_feedback_key : ℕ → ℕ → Row → Bool
has_feedback_key item giver r = (number_in (column r 1) == item) && (number_in (column r 2) == giver)

-- whether there is feedback on an item by a giver
pub record IsKeyTaken (item giver : ℕ) (db : Trees) (is : Bool) : Type 0 where
  pub found : is ≡ list_any (λ f. (f.item == item) && (f.from == giver)) (sorted_feedback db)
  -- by the key alone: a row of this key is never passed over, whatever else it holds
  pub key : is ≡ list_any (has_feedback_key item giver) (db 14)
