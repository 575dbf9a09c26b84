-- What setting a band table makes of the tables.
use Rattle.std.proofs.Common.{Bor, ◌≡◌, ◌≤◌, ◌+◌, ℕ, List, [], ◌∷◌, ◌++◌, map, length, refl, sym, ap, subst, ◌∙◌, arith}
use Rattle.std.specs.Prelude.{All}
use Rattle.std.proofs.lemmas.List.{length-map}
use Rattle.sqlite.specs.Effect.{Database}
use Rattle.house_rows.specs.Changed.{changed}
use Rattle.house_rows.specs.Tables.{Tables}
use Rattle.house_rows.specs.declared.change.Change.TheVariants.{SetBands}
use Rattle.house_rows.specs.declared.edition.Edition.{Edition}
use Rattle.store_rows.specs.declared.edition.EditionRow.{EditionRow}
use Rattle.store_rows.specs.declared.edition.LaterBandRow.{LaterBandRow}
use Rattle.store_rows.specs.House.{SetsClock}
use Rattle.store_rows.specs.ItemRows.{items_in}
use Rattle.store_rows.specs.Rows.{edition_rows_in, later_band_in, later_bands_in, reserve_in, edition_row_in}
use Rattle.store_rows.specs.Tables.{Changes, IsNumbered, bands_at, editions_by, editions_in, house_row_in, settings_in, tables_in}
use Rattle.store_rows.proofs.Made.{Makes, houses_then_clock, makes_both, other, same_houses, same_later_bands, same_reserves, same_version, sets_clock, version_then_clock}
use Rattle.store_open.specs.Setting.{AddsEdition, AddsLaterBands, later_band}
use Rattle.store_open.proofs.MoreEditions.{all_within, below, edition_more, longer, of_edition, under_all}

-- the edition and its bands
pub adds_table : (edition first : ℕ) (bands : List (ℕ × ℕ)) (old mid new : Database) → IsNumbered old.trees → edition ≡ length (edition_rows_in old.trees) + 2 → AddsEdition edition first old mid → AddsLaterBands edition bands mid new
    → Makes (λ t. record t { editions = t.editions ++ record { edition = edition; first = first; bands = bands } ∷ [] }) old new
unfolding house_row_in settings_in tables_in
adds_table edition first bands old mid new was next one two =
    let x : EditionRow = record { edition = edition; first = first } in
    let h = two.others.0 (other 0 25 refl) ∙ one.others.0 (other 0 24 refl) in
    let b = two.others.1.0 (other 1 25 refl) ∙ one.others.1.0 (other 1 24 refl) in
    let m = two.others.1.1.0 (other 2 25 refl) ∙ one.others.1.1.0 (other 2 24 refl) in
    let k = two.others.1.1.1.0 (other 4 25 refl) ∙ one.others.1.1.1.0 (other 4 24 refl) in
    let i = two.others.1.1.1.1.0 (other 6 25 refl) ∙ one.others.1.1.1.1.0 (other 6 24 refl) in
    let d = two.others.1.1.1.1.1.0 (other 8 25 refl) ∙ one.others.1.1.1.1.1.0 (other 8 24 refl) in
    let v = two.others.1.1.1.1.1.1.0 (other 10 25 refl) ∙ one.others.1.1.1.1.1.1.0 (other 10 24 refl) in
    let q = two.others.1.1.1.1.1.1.1.0 (other 12 25 refl) ∙ one.others.1.1.1.1.1.1.1.0 (other 12 24 refl) in
    let f = two.others.1.1.1.1.1.1.1.1.0 (other 14 25 refl) ∙ one.others.1.1.1.1.1.1.1.1.0 (other 14 24 refl) in
    let r = two.others.1.1.1.1.1.1.1.1.1.0 (other 23 25 refl) ∙ one.others.1.1.1.1.1.1.1.1.1.0 (other 23 24 refl) in
    let under = below (λ (e : EditionRow). e.edition) (length (edition_rows_in old.trees) + 1) edition (omega (arith, next)) (edition_rows_in old.trees) was.editions in
    let lower = below (λ (e : LaterBandRow). e.edition) (length (edition_rows_in old.trees) + 1) edition (omega (arith, next)) (later_bands_in old.trees) was.later_bands in
    let rows : edition_rows_in new.trees ≡ edition_rows_in old.trees ++ x ∷ [] =
    ap (map edition_row_in) (two.others.1.1.1.1.1.1.1.1.1.1.0 (other 24 25 refl)) ∙ one.editions (under_all (λ (e : EditionRow). e.edition) edition (edition_rows_in old.trees) under) in
    let later : later_bands_in new.trees ≡ later_bands_in old.trees ++ map (later_band edition) bands =
    two.later_bands ∙ ap (λ rows. map later_band_in rows ++ map (later_band edition) bands) (one.others.1.1.1.1.1.1.1.1.1.1.1.0 (other 25 24 refl)) in
    let long : length (edition_rows_in new.trees) ≡ length (edition_rows_in old.trees) + 1 = ap length rows ∙ longer (edition_rows_in old.trees) x in
    let sets : editions_in new.trees ≡ editions_in old.trees ++ record { edition = edition; first = first; bands = bands } ∷ [] =
    ap (λ (l : List LaterBandRow). editions_by l (edition_rows_in new.trees)) later ∙ ap (editions_by (later_bands_in old.trees ++ map (later_band edition) bands)) rows
    ∙ edition_more edition first bands (later_bands_in old.trees) (edition_rows_in old.trees) lower under in
    record {
      house = two.house;
      schema = two.schema ∙ one.schema;
      numbered = record {
        house = rw h was.house;
        members = rw m was.members;
        categories = rw k was.categories;
        items = rw (i, r) was.items;
        reserves = rw (i, r) was.reserves;
        editions = subst (λ (l : List EditionRow). All (λ (e : EditionRow). e.edition ≤ length (edition_rows_in new.trees) + 1) l) (sym rows)
            (all_within (λ (e : EditionRow). e.edition) edition (length (edition_rows_in new.trees) + 1) (omega (arith, next, long)) (edition_rows_in old.trees) (x ∷ []) under (refl, tt));
        later_bands = subst (λ (l : List LaterBandRow). All (λ (e : LaterBandRow). e.edition ≤ length (edition_rows_in new.trees) + 1) l) (sym later)
            (all_within (λ (e : LaterBandRow). e.edition) edition (length (edition_rows_in new.trees) + 1) (omega (arith, next, long)) (later_bands_in old.trees) (map (later_band edition) bands) lower (of_edition edition bands));
      };
      tables = rw (h, b, m, k, i, r, d, v, q, f) (ap (λ (es : List Edition). record (tables_in old.trees) { editions = es }) sets);
    }

-- the number of the edition and of its first item are those that come next
module _ (edition first moment : ℕ) (bands : Bor (List (ℕ × ℕ))) (old mid last new : Database) where
  so_many : length (edition_rows_in old.trees) ≡ length (tables_in old.trees).editions
  unfolding tables_in
  so_many = sym (length-map (edition_rows_in old.trees) (λ (r : EditionRow). record { edition = r.edition; first = r.first; bands = bands_at r.edition (later_bands_in old.trees) }))

  same_items : length (items_in old.trees) ≡ length (tables_in old.trees).items
  unfolding tables_in
  same_items = refl

  as_changed : edition ≡ length (tables_in old.trees).editions + 2 → first ≡ length (tables_in old.trees).items + 1
      → record (tables_in old.trees) { clock = moment; editions = (tables_in old.trees).editions ++ record { edition = edition; first = first; bands = bands.now } ∷ [] } ≡ changed (tables_in old.trees) (SetBands moment bands)
  unfolding changed
  as_changed next begins =
      let t : Tables = tables_in old.trees in
      ap (λ (n : ℕ). record t { clock = moment; editions = t.editions ++ record { edition = n; first = first; bands = bands.now } ∷ [] }) next
      ∙ ap (λ (n : ℕ). record t { clock = moment; editions = t.editions ++ record { edition = length t.editions + 2; first = n; bands = bands.now } ∷ [] }) begins

  pub sets : IsNumbered old.trees → edition ≡ length (edition_rows_in old.trees) + 2 → first ≡ length (items_in old.trees) + 1
      → AddsEdition edition first old mid → AddsLaterBands edition bands.now mid last → SetsClock moment last new → Changes (SetBands moment bands) old new
  sets was next begins one two three =
      let put = adds_table edition first bands.now old mid last was next one two in
      let it = makes_both _ _ old last new put (sets_clock moment last new put.numbered three) in
      record {
        house = it.house;
        schema = it.schema;
        numbered = it.numbered;
        version = version_then_clock 25 moment mid last new (omega arith) two.others three ∙ same_version 24 old mid (omega arith) one.others;
        other_houses = houses_then_clock 25 moment mid last new (omega arith) two.others three ∙ same_houses 24 old mid (omega arith) one.others;
        tables = it.tables ∙ as_changed (next ∙ ap (λ n. n + 2) so_many) (begins ∙ ap (λ n. n + 1) same_items);
        reserves = same_reserves 0 last new (omega arith) three.others
            ∙ ap (map reserve_in) (two.others.1.1.1.1.1.1.1.1.1.0 (other 23 25 refl) ∙ one.others.1.1.1.1.1.1.1.1.1.0 (other 23 24 refl));
        later_bands = same_later_bands 0 last new (omega arith) three.others ∙ two.later_bands
            ∙ ap (λ rows. map later_band_in rows ++ map (later_band edition) bands.now) (one.others.1.1.1.1.1.1.1.1.1.1.1.0 (other 25 24 refl))
            ∙ ap (λ (n : ℕ). later_bands_in old.trees ++ map (later_band n) bands.now) next;
      }
