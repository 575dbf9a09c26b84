-- What the writes of a band table make of the tables of editions and of their bands.
use Rattle.std.specs.Prelude.{◌≡◌, ◌<◌, ℕ, List, [], ◌∷◌, ◌++◌, map, All}
use Rattle.steps.specs.Table.{Band}
use Rattle.sqlite.specs.Effect.{Database}
use Rattle.store_rows.specs.declared.edition.LaterBandRow.{LaterBandRow}
use Rattle.store_rows.specs.House.{IsHouse, KeepsOthers}
use Rattle.store_rows.specs.Rows.{edition_rows_in, later_bands_in}

-- one more edition, the last where its number is over every other
pub record AddsEdition (edition first : ℕ) (old new : Database) : Type 0 where
  pub house : IsHouse new
  pub schema : new.schema ≡ old.schema
  pub others : KeepsOthers 24 old new
  pub editions : All (λ e. e.edition < edition) (edition_rows_in old.trees)
      → edition_rows_in new.trees ≡ edition_rows_in old.trees ++ record { edition = edition; first = first } ∷ []

-- a band of an edition as a row
abbrev pub later_band : ℕ → Band → LaterBandRow
later_band edition band = record { edition = edition; from = band.0; step = band.1 }

-- one more band of an edition, the last
pub record AddsLaterBand (edition from step : ℕ) (old new : Database) : Type 0 where
  pub house : IsHouse new
  pub schema : new.schema ≡ old.schema
  pub others : KeepsOthers 25 old new
  pub bands : later_bands_in new.trees ≡ later_bands_in old.trees ++ later_band edition (from, step) ∷ []

-- several of them, in turn
pub record AddsLaterBands (edition : ℕ) (bands : List Band) (old new : Database) : Type 0 where
  pub house : IsHouse new
  pub schema : new.schema ≡ old.schema
  pub others : KeepsOthers 25 old new
  pub later_bands : later_bands_in new.trees ≡ later_bands_in old.trees ++ map (later_band edition) bands
