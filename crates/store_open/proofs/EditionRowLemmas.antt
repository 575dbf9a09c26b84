-- What the statements on editions and their bands find and write.
use Rattle.std.proofs.Common.{◌≡◌, ℕ, ◌^◌, ◌<◌, pos, List, [], ◌∷◌, ◌++◌, map, Ok, refl, ap, ◌∙◌}
use Rattle.sqlite_value.specs.declared.value.Value.TheVariants.{Null, Int}
use Rattle.sqlite_value.specs.Order.{Row}
use Rattle.sqlite_sql.specs.Program.{overlay}
use Rattle.sqlite_trees.proofs.TreeLemmas.{IsShaped-put_row}
use Rattle.sqlite.specs.Edit.{next_rowid}
use Rattle.sqlite.specs.State.{State, Shown, Executes}
use Rattle.sqlite.proofs.Callers.{reads_as}
use Rattle.store_rows.specs.Schema.{edition_layout, later_band_layout}
use Rattle.store_rows.specs.House.{IsHouse}
use Rattle.store_rows.specs.declared.edition.EditionRow.{EditionRow}
use Rattle.store_rows.specs.Rows.{edition_row_in, edition_row_of, edition_rows_in, later_band_in, later_band_of, later_bands_in}
use Rattle.store_rows.proofs.RowLemmas.{small}
use Rattle.store_rows.proofs.Select.{listed, in_order, typed_all, by_rowid}
use Rattle.store_rows.proofs.Wrote.{still_house, map_more}
use Rattle.store_rows.proofs.Insert.{puts, put_last, put_over, cast_int, cast_null}
use Rattle.store_open.specs.Setting.{AddsEdition, AddsLaterBand, later_band}
use Rattle.store_open.proofs.EditionMeaning.{all_bands_are, all_bands_text, all_editions_are, all_editions_text, band_shown, band_terms, edition_shown, edition_terms, put_edition_is, put_edition_text, put_later_band_is, put_later_band_text}

module _ (old new : State) (answer : List Row) (house : IsHouse old.now) where
  pub editions_answer : Shown all_editions_text [] old new answer → map edition_row_of answer ≡ edition_rows_in old.now.trees
  editions_answer h =
      let table = old.now.trees 24 in
      let read = reads_as all_editions_text [] old new _ house.schema _ (all_editions_are _).0 (all_editions_are _).2 (all_editions_are _).1 answer h in
      typed_all edition_row_of edition_row_in edition_shown [] table answer (λ r. refl)
      (in_order [] edition_shown [] table answer house.shaped.1.1.1.1.1.1.1.1.1.1.0.0 (listed 24 [] edition_shown by_rowid (overlay old.now.trees []) [] answer (read.answer Null)))

  pub bands_answer : Shown all_bands_text [] old new answer → map later_band_of answer ≡ later_bands_in old.now.trees
  bands_answer h =
      let table = old.now.trees 25 in
      let read = reads_as all_bands_text [] old new _ house.schema _ (all_bands_are _).0 (all_bands_are _).2 (all_bands_are _).1 answer h in
      typed_all later_band_of later_band_in band_shown [] table answer (λ r. refl)
      (in_order [] band_shown [] table answer house.shaped.1.1.1.1.1.1.1.1.1.1.1.0.0 (listed 25 [] band_shown by_rowid (overlay old.now.trees []) [] answer (read.answer Null)))

pub adds_edition : (old new : State) (edition first : ℕ) (count : ℕ) → edition < 2 ^ 32 → first < 2 ^ 32 → IsHouse old.now
    → Executes put_edition_text (Int (pos edition) ∷ Int (pos first) ∷ []) old new (Ok count) → AddsEdition edition first old.now new.now
adds_edition old new edition first count low less house h =
    let params = Int (pos edition) ∷ Int (pos first) ∷ [] in
    let rows = old.now.trees 24 in
    let shaped = house.shaped.1.1.1.1.1.1.1.1.1.1.0 in
    let given : Row = Int (pos edition) ∷ Null ∷ Int (pos first) ∷ [] in
    let w = rw (cast_int (pos edition), cast_null, cast_int (pos first)) at (puts _ put_edition_text 10 edition_layout edition_terms 3 params given refl (put_edition_is _).0 (put_edition_is _).1 refl old new count house.schema h) in
    let back : edition_row_in given ≡ record { edition = edition; first = first } = rw (small edition low, small first less) refl in
    record {
      house = still_house 24 _ old.now new.now house w (IsShaped-put_row given rows refl shaped);
      schema = w.schema;
      others = w.others;
      editions = λ over. ap (map edition_row_in) (w.rows_are ∙ put_over edition_row_in (λ (e : EditionRow). e.edition) (λ r. refl) given edition rows shaped refl low over) ∙ map_more edition_row_in rows given ∙ ap (λ e. map edition_row_in rows ++ e ∷ []) back;
    }

pub adds_later_band : (old new : State) (edition from step : ℕ) (count : ℕ) → edition < 2 ^ 32 → from < 2 ^ 32 → step < 2 ^ 32 → IsHouse old.now
    → Executes put_later_band_text (Int (pos edition) ∷ Int (pos from) ∷ Int (pos step) ∷ []) old new (Ok count) → AddsLaterBand edition from step old.now new.now
adds_later_band old new edition from step count low less few house h =
    let params = Int (pos edition) ∷ Int (pos from) ∷ Int (pos step) ∷ [] in
    let rows = old.now.trees 25 in
    let given : Row = Int (next_rowid rows) ∷ Int (pos edition) ∷ Int (pos from) ∷ Int (pos step) ∷ [] in
    let shaped = house.shaped.1.1.1.1.1.1.1.1.1.1.1.0 in
    let w = rw (cast_null, cast_int (pos edition), cast_int (pos from), cast_int (pos step)) at (puts _ put_later_band_text 11 later_band_layout band_terms 4 params (Null ∷ params) refl (put_later_band_is _).0 (put_later_band_is _).1 refl old new count house.schema h) in
    let back : later_band_in given ≡ later_band edition (from, step) = rw (small edition low, small from less, small step few) refl in
    record {
      house = still_house 25 _ old.now new.now house w (IsShaped-put_row given rows refl shaped);
      schema = w.schema;
      others = w.others;
      bands = ap (map later_band_in) (w.rows_are ∙ put_last given rows shaped refl) ∙ map_more later_band_in rows given ∙ ap (λ b. map later_band_in rows ++ b ∷ []) back;
    }
