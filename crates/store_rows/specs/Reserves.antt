-- Reserves by their items, and what a write makes of their table.
use Rattle.std.specs.Prelude.{◌≡◌, ◌<◌, ◌≤◌, ℕ, List, [], ◌∷◌, ◌++◌, length, slice_index_or, All}
use Rattle.sqlite.specs.Effect.{Database}
use Rattle.store_rows.specs.House.{IsHouse, KeepsOthers}
use Rattle.store_rows.specs.Rows.{reserves_in}
use Rattle.store_rows.specs.declared.reserve.ReserveRow.{ReserveRow}

abbrev pub no_row : ReserveRow
no_row = record { item = 0; amount = 0 }

-- the item of the reserve at a place
abbrev pub item_at : List ReserveRow → ℕ → ℕ
item_at rows i = let row = slice_index_or rows i no_row in row.item

-- the items rise, so none comes twice
abbrev pub AreRising : List ReserveRow → Type 0
AreRising rows = (i j : ℕ) → i < j → j < length rows → item_at rows i < item_at rows j

-- the reserve at a place is that of the item
pub record IsAt (rows : List ReserveRow) (item i : ℕ) : Type 0 where
  pub in_range : i < length rows
  pub of_item : item_at rows i ≡ item

-- that of the item would go to a place: lesser items before it, and greater ones from it on
pub record IsGap (rows : List ReserveRow) (item i : ℕ) : Type 0 where
  pub in_range : i ≤ length rows
  pub lesser : (j : ℕ) → j < i → item_at rows j < item
  pub greater : (j : ℕ) → i ≤ j → j < length rows → item < item_at rows j

-- one more reserve, the last where its item is over every other
pub record AddsReserve (item amount : ℕ) (old new : Database) : Type 0 where
  pub house : IsHouse new
  pub schema : new.schema ≡ old.schema
  pub others : KeepsOthers 23 old new
  pub reserves : All (λ r. r.item < item) (reserves_in old.trees)
      → reserves_in new.trees ≡ reserves_in old.trees ++ record { item = item; amount = amount } ∷ []
