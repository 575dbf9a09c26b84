-- What the statements on the house and the bands find and write.
use Rattle.std.proofs.Common.{◌≡◌, ◌==◌, ℕ, ◌^◌, ◌<◌, pos, true, List, [], ◌∷◌, map, filter, find, slice_get, option_map, drop, Ok, Some, None, refl, sym, ap, subst, ◌∙◌, IsTrue, arith, Bool}
use Rattle.sqlite_value.specs.declared.value.Value.TheVariants.{Null, Int}
use Rattle.sqlite_value.specs.Order.{Row, column}
use Rattle.sqlite_schema.specs.Rules.{are_typed, has_computed}
use Rattle.sqlite_schema.specs.declared.schema.Constraint.TheVariants.{Datatype}
use Rattle.sqlite_schema.specs.declared.schema.Kind.TheVariants as kind
use Rattle.sqlite_catalog.specs.Listing.{IsSound}
use Rattle.sqlite_sql.specs.Program.{overlay}
use Rattle.sqlite_trees.specs.Tree.{rowid}
use Rattle.sqlite_trees.specs.View.{is_int}
use Rattle.sqlite_rules.specs.Cast.{cast, cast_row}
use Rattle.sqlite_rules.proofs.TableLemmas.{int_is}
use Rattle.sqlite_keyed.proofs.ListLemmas.{all_weaker}
use Rattle.sqlite_keyed.proofs.RuleLemmas.{first_of_both}
use Rattle.sqlite.specs.State.{State, Shown, Executes}
use Rattle.sqlite.proofs.Callers.{reads_as, runs_as}
use Rattle.sqlite.specs.Command.TheVariants.{Update}
use Rattle.sqlite.specs.Listing.{understood}
use Rattle.sqlite.specs.Term.{col}
use Rattle.sqlite_schema.specs.declared.schema.Schema.{Schema}
use Rattle.store_rows.specs.Begun.{IsInner, StaysInside}
use Rattle.store_rows.specs.Plain.{plain_query}
use Rattle.store_rows.proofs.BegunLemmas.{is_inner, wrote_inside}
use Rattle.store_rows.specs.declared.house.HouseRow.{HouseRow}
use Rattle.store_rows.specs.Schema.{house_by, house_layout, house_table}
use Rattle.store_rows.specs.Rows.{number_in, house_of, house_in, houses_in, band_of, band_in, bands_in}
use Rattle.store_rows.specs.House.{IsHouse, IsInside, SetsClock, SetsVersion, with_clock, with_version}
use Rattle.store_rows.proofs.RowLemmas.{equals_number, first_is, first_part, alone, row_key, small}
use Rattle.store_rows.proofs.Select.{listed, in_order, typed_where, typed_all, typed_part, by_rowid, equals}
use Rattle.store_rows.proofs.Wrote.{still_house}
use Rattle.store_rows.proofs.Insert.{cast_int, cast_null}
use Rattle.store_rows.proofs.Update.{updates, typed_set, stays_all}
use Rattle.store_rows.proofs.HouseMeaning.{house_text, set_clock_text, bands_text, house_shown, bands_shown, clock_set, house_is, set_clock_is, bands_are, version_text, set_version_text, version_shown, version_set, version_is, set_version_is}

module _ (old new : State) (answer : List Row) (house : IsHouse old.now) where
  house_answer : Shown house_text (Int (pos 1) ∷ []) old new answer → map house_of answer ≡ filter (λ h. h.id == 1) (houses_in old.now.trees)
  house_answer h =
      let params = Int (pos 1) ∷ [] in
      let table = old.now.trees 0 in
      let read = reads_as house_text params old new _ house.schema _ (house_is _).0 (house_is _).2 (house_is _).1 answer h in
      let order = in_order (equals 0 ∷ []) house_shown params table answer house.shaped.0.0 (listed 0 (equals 0 ∷ []) house_shown by_rowid (overlay old.now.trees []) params answer (read.answer Null)) in
      let low : 1 < 2 ^ 32 = omega arith in
      typed_where house_of house_in (λ h. h.id == 1) (λ r. IsTrue (is_int (rowid r))) (equals 0 ∷ []) house_shown params table answer (λ r. refl) (λ r is. rw (equals_number (rowid r) 1 is low) (alone _)) house.shaped.0.1 order

  pub first_house : Shown house_text (Int (pos 1) ∷ []) old new answer → option_map house_of (slice_get answer 0) ≡ find (λ h. h.id == 1) (houses_in old.now.trees)
  first_house h = first_is house_of (λ (h : HouseRow). h.id == 1) answer (houses_in old.now.trees) (house_answer h)

  version_answer : Shown version_text (Int (pos 1) ∷ []) old new answer → map (λ r. number_in (column r 0)) answer ≡ map (λ (h : HouseRow). h.version) (filter (λ h. h.id == 1) (houses_in old.now.trees))
  version_answer h =
      let params = Int (pos 1) ∷ [] in
      let table = old.now.trees 0 in
      let read = reads_as version_text params old new _ house.schema _ (version_is _).0 (version_is _).2 (version_is _).1 answer h in
      let order = in_order (equals 0 ∷ []) version_shown params table answer house.shaped.0.0 (listed 0 (equals 0 ∷ []) version_shown by_rowid (overlay old.now.trees []) params answer (read.answer Null)) in
      let low : 1 < 2 ^ 32 = omega arith in
      typed_part (λ r. number_in (column r 0)) house_in (λ (h : HouseRow). h.version) (λ h. h.id == 1) (λ r. IsTrue (is_int (rowid r))) (equals 0 ∷ []) version_shown params table answer (λ r. refl) (λ r is. rw (equals_number (rowid r) 1 is low) (alone _)) house.shaped.0.1 order

  pub first_version : Shown version_text (Int (pos 1) ∷ []) old new answer → option_map (λ r. number_in (column r 0)) (slice_get answer 0) ≡ option_map (λ (h : HouseRow). h.version) (find (λ h. h.id == 1) (houses_in old.now.trees))
  first_version h = first_part (λ r. number_in (column r 0)) (λ (h : HouseRow). h.version) (λ (h : HouseRow). h.id == 1) answer (houses_in old.now.trees) (version_answer h)

  pub bands_answer : Shown bands_text [] old new answer → map band_of answer ≡ bands_in old.now.trees
  bands_answer h =
      let table = old.now.trees 1 in
      let read = reads_as bands_text [] old new _ house.schema _ (bands_are _).0 (bands_are _).2 (bands_are _).1 answer h in
      typed_all band_of band_in bands_shown [] table answer (λ r. refl)
      (in_order [] bands_shown [] table answer house.shaped.1.0.0 (listed 1 [] bands_shown by_rowid (overlay old.now.trees []) [] answer (read.answer Null)))

-- the row with another clock
abbrev clocked : ℕ → Row → Row
clocked moment r = column r 0 ∷ Null ∷ column r 2 ∷ Int (pos moment) ∷ column r 4 ∷ column r 5 ∷ []

abbrev IsTyped : Row → Type 0
IsTyped r = are_typed (Some 0) 0 house_table.columns (drop 1 r) ≡ true

casts : (moment : ℕ) (r : Row) → IsTyped r → IsTrue (is_int (rowid r)) → cast_row house_table (clocked moment r) ≡ clocked moment r
casts moment r typed int =
    let id : cast kind.Integer (column r 0) ≡ column r 0 = rw (int_is (rowid r) int) (cast_int (row_key r)) in
    let kept = stays_all (Some 0) house_table.columns r ((refl, tt), ((refl, tt), ((refl, tt), ((refl, tt), ((refl, tt), tt))))) typed in
    let version : cast kind.Integer (column r 2) ≡ column r 2 = kept.1.0 in
    let rate : cast kind.Integer (column r 4) ≡ column r 4 = kept.1.1.1.0 in
    let zone : cast kind.Text (column r 5) ≡ column r 5 = kept.1.1.1.1.0 in
    rw (id, cast_null, version, cast_int (pos moment), rate, zone) refl

pub sets_clock : (old new : State) (moment count : ℕ) → moment < 2 ^ 32 → IsHouse old.now → Executes set_clock_text (Int (pos 1) ∷ Int (pos moment) ∷ []) old new (Ok count) → SetsClock moment old.now new.now
sets_clock old new moment count low house h =
    let rows = old.now.trees 0 in
    let sound = subst (λ s. IsSound s old.now.trees) house.schema house.sound in
    let typed = all_weaker _ IsTyped (λ r. first_of_both (are_typed (Some 0) 0 house_table.columns (drop 1 r)) (has_computed house_table r)) rows (sound.obeys.rules Datatype).0 in
    let w = updates _ set_clock_text 0 house_layout clock_set 1 (Int (pos moment) ∷ []) (omega arith) refl (λ db. refl) (set_clock_is _).0 (set_clock_is _).1 (clocked moment) (λ r. refl) (λ r. refl) IsTyped (casts moment)
    old new count house.schema house.shaped.0 typed h in
    record {
      house = still_house 0 _ old.now new.now house w.0 w.1;
      schema = w.0.schema;
      others = w.0.others;
      houses = ap (map house_in) w.0.rows_are ∙ typed_set house_in (with_clock moment) 1 (clocked moment) rows house.shaped.0.1 (λ r e. rw (e, small moment low) refl) (λ r e. rw e refl);
    }

-- the row of another version
abbrev versioned : ℕ → Row → Row
versioned version r = column r 0 ∷ Null ∷ Int (pos version) ∷ column r 3 ∷ column r 4 ∷ column r 5 ∷ []

casts_version : (version : ℕ) (r : Row) → IsTyped r → IsTrue (is_int (rowid r)) → cast_row house_table (versioned version r) ≡ versioned version r
casts_version version r typed int =
    let id : cast kind.Integer (column r 0) ≡ column r 0 = rw (int_is (rowid r) int) (cast_int (row_key r)) in
    let kept = stays_all (Some 0) house_table.columns r ((refl, tt), ((refl, tt), ((refl, tt), ((refl, tt), ((refl, tt), tt))))) typed in
    let clock : cast kind.Integer (column r 3) ≡ column r 3 = kept.1.1.0 in
    let rate : cast kind.Integer (column r 4) ≡ column r 4 = kept.1.1.1.0 in
    let zone : cast kind.Text (column r 5) ≡ column r 5 = kept.1.1.1.1.0 in
    rw (id, cast_null, clock, cast_int (pos version), rate, zone) refl

pub sets_version : (old new : State) (version count : ℕ) → version < 2 ^ 32 → IsHouse old.now → Executes set_version_text (Int (pos 1) ∷ Int (pos version) ∷ []) old new (Ok count) → SetsVersion version old.now new.now
sets_version old new version count low house h =
    let rows = old.now.trees 0 in
    let sound = subst (λ s. IsSound s old.now.trees) house.schema house.sound in
    let typed = all_weaker _ IsTyped (λ r. first_of_both (are_typed (Some 0) 0 house_table.columns (drop 1 r)) (has_computed house_table r)) rows (sound.obeys.rules Datatype).0 in
    let w = updates _ set_version_text 0 house_layout version_set 1 (Int (pos version) ∷ []) (omega arith) refl (λ db. refl) (set_version_is _).0 (set_version_is _).1 (versioned version) (λ r. refl) (λ r. refl) IsTyped (casts_version version)
    old new count house.schema house.shaped.0 typed h in
    record {
      house = still_house 0 _ old.now new.now house w.0 w.1;
      schema = w.0.schema;
      others = w.0.others;
      houses = ap (map house_in) w.0.rows_are ∙ typed_set house_in (with_version version) 1 (versioned version) rows house.shaped.0.1 (λ r e. rw (e, small version low) refl) (λ r e. rw e refl);
    }

version_is_inner : IsInner (Update 0 (record { lets = []; body = plain_query 0 (equals 0 ∷ []) (col 1 0 ∷ version_set) [] }))
version_is_inner = ((λ e. absurd (let x = e in cc)), (λ name e. absurd (let x = e in cc)))

pub version_stays_inside : (b : Bool) (schema : Schema) → schema ≡ house_by b → StaysInside (understood schema set_version_text)
version_stays_inside b schema has = subst (λ s. StaysInside (understood s set_version_text)) (sym has) (is_inner _ (understood (house_by b) set_version_text) (set_version_is b).0 version_is_inner)

pub version_inside : (old new : State) (version count : ℕ) → IsHouse old.now → IsTrue old.in_transaction → Executes set_version_text (Int (pos 1) ∷ Int (pos version) ∷ []) old new (Ok count) → IsInside old new
version_inside old new version count house begun h =
    wrote_inside old new None _ _ _ count begun (runs_as set_version_text (Int (pos 1) ∷ Int (pos version) ∷ []) old new _ house.schema _ (set_version_is _).0 (set_version_is _).1 count h)
