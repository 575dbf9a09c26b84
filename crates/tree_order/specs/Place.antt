-- Where a row has its place among others.
use Rattle.std.specs.Prelude.{◌≡◌, ◌≢◌, ℕ, ◌<◌, ◌≤◌, Bool, true, false, IsTrue, List, [], length, slice_index_or}
use Rattle.std.specs.declared.cmp.Ordering.TheVariants.{Less}
use Rattle.std.specs.Ordering.{is_eq}
use Rattle.sqlite_value.specs.Order.{Row, value_cmp}
use Rattle.sqlite_trees.specs.Tree.{rowid}

pub record IsPlace (row : Row) (rows : List Row) (at : ℕ) : Type 0 where
  pub within : at ≤ length rows
  pub below : (k : ℕ) → k < at → value_cmp (rowid (slice_index_or rows k [])) (rowid row) ≡ Less
  pub there : at < length rows → value_cmp (rowid (slice_index_or rows at [])) (rowid row) ≢ Less

-- whether a row with its rowid has the place
abbrev pub IsTaken : Row → List Row → ℕ → Bool → Type 0
IsTaken row rows at true = (at < length rows) × IsTrue (is_eq (value_cmp (rowid (slice_index_or rows at [])) (rowid row)))
IsTaken row rows at false = at < length rows → is_eq (value_cmp (rowid (slice_index_or rows at [])) (rowid row)) ≡ false
