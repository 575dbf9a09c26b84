-- What the statements on items make of the house.
use Rattle.std.specs.Prelude.{◌≡◌, ◌≤◌, ◌<◌, ℕ, true, Bool, if◌then◌else◌, [], ◌∷◌, ◌++◌, map, All, Some, None, is_some}
use Rattle.sqlite_trees.specs.Tree.{Trees}
use Rattle.sqlite.specs.Effect.{Database}
use Rattle.proxy.specs.Kept.{Kept, opening_of}
use Rattle.proxy.specs.Opening.{Opening}
use Rattle.house_rows.specs.Changed.{is_item, with_terms, with_standing, with_purchase, with_settlement}
use Rattle.house_rows.specs.Items.{closed_state}
use Rattle.house_rows.specs.Limits.{most_cents}
use Rattle.house_rows.specs.Tables.{ItemRow}
use Rattle.store_rows.specs.House.{IsHouse, KeepsOthers}
use Rattle.store_rows.specs.ItemRows.{items_in}
use Rattle.store_rows.specs.Rows.{reserves_in}

-- every item is made another, and the other tables are as they were
pub record SetsItems (f : ItemRow → ItemRow) (old new : Database) : Type 0 where
  pub house : IsHouse new
  pub schema : new.schema ≡ old.schema
  pub others : KeepsOthers 6 old new
  pub items : items_in new.trees ≡ map f (items_in old.trees)

-- one more item without a reserve, the last where its number is over every other, that of each reserve among them
pub record AddsItem (row : ItemRow) (old new : Database) : Type 0 where
  pub house : IsHouse new
  pub schema : new.schema ≡ old.schema
  pub others : KeepsOthers 6 old new
  pub items : All (λ r. r.item.terms.item < row.item.terms.item) (items_in old.trees)
      → All (λ r. r.item < row.item.terms.item) (reserves_in old.trees)
      → items_in new.trees ≡ items_in old.trees ++ row ∷ []

-- of each row with the number
abbrev pub OfItemIn : ℕ → (ItemRow → Type 0) → Trees → Type 0
OfItemIn item P db = All (λ row. is_item item row ≡ true → P row) (items_in db)

abbrev pub OfItem : ℕ → (ItemRow → Type 0) → Database → Type 0
OfItem item P db = OfItemIn item P db.trees

-- the bids begin with that opening
abbrev pub StartsAt : Opening → ItemRow → Type 0
StartsAt opening row = opening_of row.standing ≡ opening

-- the item has the standing that its bids now have, if start and reserve are its own, and who leads
-- has a top
pub record SetsStanding (item : ℕ) (kept : Kept) (old new : Database) : Type 0 where
  pub house : IsHouse new
  pub schema : new.schema ≡ old.schema
  pub others : KeepsOthers 6 old new
  pub items : is_some kept.top ≡ is_some kept.leader → OfItem item (λ row. opening_of row.standing ≡ opening_of kept) old
      → items_in new.trees ≡ map (with_standing item kept) (items_in old.trees)

-- the item is sold at once, if its row fits and nobody has bid
pub record SetsBought (item buyer price moment : ℕ) (old new : Database) : Type 0 where
  pub house : IsHouse new
  pub schema : new.schema ≡ old.schema
  pub others : KeepsOthers 6 old new
  pub items : OfItem item (λ row. (row.item.terms.start ≤ most_cents)
      × (row.standing.price ≡ row.standing.start) × (row.standing.leader ≡ None)
      × (row.standing.top ≡ None)) old
      → items_in new.trees ≡ map (with_purchase item buyer price moment) (items_in old.trees)

-- the item is closed at its end, sold or unsold
abbrev pub with_end : ℕ → Bool → ItemRow → ItemRow
with_end item is_sold row =
    if is_item item row
    then with_terms (record row.item.terms { state = closed_state is_sold; closed = Some row.item.terms.end }) row
    else row

-- the item is closed at its end, if its row fits
pub record SetsClosed (item : ℕ) (is_sold : Bool) (old new : Database) : Type 0 where
  pub house : IsHouse new
  pub schema : new.schema ≡ old.schema
  pub others : KeepsOthers 6 old new
  pub items : OfItem item (λ row. row.item.terms.start ≤ most_cents) old
      → items_in new.trees ≡ map (with_end item is_sold) (items_in old.trees)

-- the item is settled, if its row fits
pub record SetsSettled (item : ℕ) (old new : Database) : Type 0 where
  pub house : IsHouse new
  pub schema : new.schema ≡ old.schema
  pub others : KeepsOthers 6 old new
  pub items : OfItem item (λ row. row.item.terms.start ≤ most_cents) old
      → items_in new.trees ≡ map (with_settlement item) (items_in old.trees)
