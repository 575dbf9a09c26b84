-- The change that lists an item.
use Rattle.std.specs.Prelude.{◌≡◌, ℕ, [], ◌∷◌, ◌++◌}
use Rattle.sqlite.specs.Effect.{Database}
use Rattle.house_rows.specs.Tables.{ItemRow}
use Rattle.store_rows.specs.House.{IsHouse}
use Rattle.store_rows.specs.Rows.{later_bands_in, reserves_in}
use Rattle.store_rows.specs.Tables.{IsNumbered, other_houses_in, tables_in, version_in, with_reserve}
use Rattle.house_rows.specs.declared.change.Change.{Change}
use Rattle.house_rows.specs.declared.change.Change.TheVariants.{List}
use Rattle.house_rows.specs.declared.change.NewItem.{NewItem}

-- with its end as it is stored
abbrev pub listed : ℕ → NewItem → ℕ → Change
listed moment item end = List moment (record item { end = end })

-- one item more, before the clock is set
pub record AddsListing (row : ItemRow) (old new : Database) : Type 0 where
  pub house : IsHouse new
  pub schema : new.schema ≡ old.schema
  pub numbered : IsNumbered new.trees
  pub version : version_in new.trees ≡ version_in old.trees
  pub other_houses : other_houses_in new.trees ≡ other_houses_in old.trees
  pub tables : tables_in new.trees
      ≡ record (tables_in old.trees) { items = (tables_in old.trees).items ++ row ∷ [] }
  pub reserves : reserves_in new.trees ≡ with_reserve row.item.terms.item row.standing.reserve (reserves_in old.trees)
  pub later_bands : later_bands_in new.trees ≡ later_bands_in old.trees
