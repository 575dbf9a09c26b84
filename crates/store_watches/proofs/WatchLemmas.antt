-- What the statements on watches find and write.
use Rattle.std.proofs.Common.{◌≡◌, ℕ, ◌^◌, ◌<◌, pos, true, not, ◌&&◌, [], ◌∷◌, ◌++◌, map, filter, drop, Ok, None, refl, sym, ap, subst, ◌∙◌, true≢false}
use Rattle.std.specs.List.{AllByRecursion}
use Rattle.sqlite_value.specs.declared.value.Value.TheVariants.{Null, Int}
use Rattle.sqlite_value.specs.Order.{Row, column}
use Rattle.sqlite_schema.specs.Rules.{are_typed, are_present, has_computed}
use Rattle.sqlite_schema.specs.declared.schema.Constraint.TheVariants.{Datatype, NotNull}
use Rattle.sqlite_catalog.specs.Listing.{IsSound}
use Rattle.sqlite_trees.specs.View.{is_int}
use Rattle.sqlite_trees.proofs.TreeLemmas.{IsShaped-put_row}
use Rattle.sqlite_keyed.proofs.ListLemmas.{all_both}
use Rattle.sqlite_keyed.proofs.RuleLemmas.{first_of_both, second_of_both}
use Rattle.sqlite.specs.Edit.{next_rowid}
use Rattle.sqlite.specs.Effect.{Database}
use Rattle.sqlite.specs.State.{State, Executes}
use Rattle.house_rows.specs.Watches.{WatchRow}
use Rattle.store_rows.specs.Schema.{watch_layout, watch_table}
use Rattle.store_rows.specs.Rows.{watch_in}
use Rattle.store_rows.specs.House.{IsHouse, AddsWatch, RemovesWatch}
use Rattle.store_rows.proofs.RowLemmas.{int_if, equals_number, small, two}
use Rattle.store_rows.specs.Plain.{passes}
use Rattle.sqlite_keyed.proofs.ListLemmas.{filter-map}
use Rattle.house_rows.specs.Watches.{is_watch}
use Rattle.store_rows.proofs.RowLemmas.{filter_same_on}
use Rattle.store_rows.proofs.Delete.{deletes}
use Rattle.store_rows.proofs.Wrote.{still_house, map_more}
use Rattle.store_rows.proofs.Insert.{puts, put_last, cast_int, cast_null}
use Rattle.store_watches.proofs.WatchMeaning.{put_watch_text, watch_terms, put_watch_is, cut_watch_text, cut_watch_is, this_watch}

abbrev pub IsWatch : Row → Type 0
IsWatch r = (is_int (column r 1) ≡ true) × (is_int (column r 2) ≡ true)

pub are_watches : (db : Database) → IsHouse db → AllByRecursion IsWatch (db.trees 10)
are_watches db house =
    let sound = subst (λ h. IsSound h db.trees) house.schema house.sound in
    all_both _ _ IsWatch one (db.trees 10) (sound.obeys.rules Datatype).1.1.1.1.1.1.0 (sound.obeys.rules NotNull).1.1.1.1.1.1.0
  where
    one : (r : Row) → (are_typed None 0 watch_table.columns (drop 1 r) && has_computed watch_table r) ≡ true → are_present None 0 watch_table.columns r ≡ true → IsWatch r
    one [] t p = absurd (true≢false (sym p))
    one (id ∷ []) t p = absurd (true≢false (sym p))
    one (id ∷ a ∷ []) t p = absurd (true≢false (sym (second_of_both _ _ p)))
    one (id ∷ a ∷ b ∷ more) t p =
        let typed = first_of_both _ _ t in (int_if a (first_of_both _ _ typed) (first_of_both _ _ p), int_if b (first_of_both _ _ (second_of_both _ _ typed)) (first_of_both _ _ (second_of_both _ _ p)))

pub adds_watch : (old new : State) (row : WatchRow) (count : ℕ) → row.member < 2 ^ 32 → row.item < 2 ^ 32 → IsHouse old.now → Executes put_watch_text (Int (pos row.member) ∷ Int (pos row.item) ∷ []) old new (Ok count) → AddsWatch row old.now new.now
adds_watch old new row count member_low item_low house h =
    let params = Int (pos row.member) ∷ Int (pos row.item) ∷ [] in
    let rows = old.now.trees 10 in
    let given : Row = Int (next_rowid rows) ∷ Int (pos row.member) ∷ Int (pos row.item) ∷ [] in
    let shaped = house.shaped.1.1.1.1.1.1.0 in
    let w = rw (cast_null, cast_int (pos row.member), cast_int (pos row.item)) at (puts _ put_watch_text 6 watch_layout watch_terms 3 params (Null ∷ params) refl (put_watch_is _).0 (put_watch_is _).1 refl old new count house.schema h) in
    let back : watch_in given ≡ row = rw (small row.member member_low, small row.item item_low) refl in
    record {
      house = still_house 10 _ old.now new.now house w (IsShaped-put_row given rows refl shaped);
      schema = w.schema;
      others = w.others;
      watches = ap (map watch_in) (w.rows_are ∙ put_last given rows shaped refl) ∙ map_more watch_in rows given ∙ ap (λ w. map watch_in rows ++ w ∷ []) back;
    }

pub removes_watch : (old new : State) (member item : ℕ) (count : ℕ) → IsHouse old.now → member < 2 ^ 32 → item < 2 ^ 32 → Executes cut_watch_text (Int (pos member) ∷ Int (pos item) ∷ []) old new (Ok count)
    → RemovesWatch member item old.now new.now
removes_watch old new member item count house low small h =
    let params = Int (pos member) ∷ Int (pos item) ∷ [] in
    let rows = old.now.trees 10 in
    let w = deletes _ cut_watch_text 6 watch_layout this_watch params refl (λ db. refl) (cut_watch_is _).0 (cut_watch_is _).1 old new count house.schema house.shaped.1.1.1.1.1.1.0 h in
    let same : filter (λ r. not (passes this_watch params r)) rows ≡ filter (λ r. not (is_watch member item (watch_in r))) rows =
    filter_same_on IsWatch (λ r. not (passes this_watch params r)) (λ r. not (is_watch member item (watch_in r))) (λ r is. ap not (rw (equals_number (column r 1) member is.0 low, equals_number (column r 2) item is.1 small) (two _ _))) rows (are_watches old.now house) in
    record {
      house = still_house 10 _ old.now new.now house w.0 w.1;
      schema = w.0.schema;
      others = w.0.others;
      watches = ap (map watch_in) (w.0.rows_are ∙ same) ∙ sym (filter-map (λ v. not (is_watch member item v)) watch_in rows);
    }
