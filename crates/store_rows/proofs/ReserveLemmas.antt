-- What the statements on reserves find and write.
use Rattle.std.proofs.Common.{◌≡◌, ℕ, ◌^◌, ◌<◌, pos, List, [], ◌∷◌, ◌++◌, map, Ok, refl, ap, ◌∙◌}
use Rattle.sqlite_value.specs.declared.value.Value.TheVariants.{Null, Int}
use Rattle.sqlite_value.specs.Order.{Row}
use Rattle.sqlite_sql.specs.Program.{overlay}
use Rattle.sqlite_trees.proofs.TreeLemmas.{IsShaped-put_row}
use Rattle.sqlite.specs.State.{State, Shown, Executes}
use Rattle.sqlite.proofs.Callers.{reads_as}
use Rattle.store_rows.specs.Schema.{reserve_layout}
use Rattle.store_rows.specs.House.{IsHouse}
use Rattle.store_rows.specs.declared.reserve.ReserveRow.{ReserveRow}
use Rattle.store_rows.specs.Rows.{reserve_in, reserve_of, reserves_in}
use Rattle.store_rows.proofs.RowLemmas.{small}
use Rattle.store_rows.proofs.Select.{listed, in_order, typed_all, by_rowid}
use Rattle.store_rows.proofs.Wrote.{still_house, map_more}
use Rattle.store_rows.proofs.Insert.{puts, put_over, cast_int, cast_null}
use Rattle.store_rows.specs.Reserves.{AddsReserve}
use Rattle.store_rows.proofs.ReserveMeaning.{all_reserves_are, all_reserves_text, pair_shown, pair_terms, put_reserve_is, put_reserve_text}

module _ (old new : State) (answer : List Row) (house : IsHouse old.now) where
  pub reserves_answer : Shown all_reserves_text [] old new answer → map reserve_of answer ≡ reserves_in old.now.trees
  reserves_answer h =
      let table = old.now.trees 23 in
      let read = reads_as all_reserves_text [] old new _ house.schema _ (all_reserves_are _).0 (all_reserves_are _).2 (all_reserves_are _).1 answer h in
      typed_all reserve_of reserve_in pair_shown [] table answer (λ r. refl)
      (in_order [] pair_shown [] table answer house.shaped.1.1.1.1.1.1.1.1.1.0.0 (listed 23 [] pair_shown by_rowid (overlay old.now.trees []) [] answer (read.answer Null)))

pub adds_reserve : (old new : State) (item amount : ℕ) (count : ℕ) → item < 2 ^ 32 → amount < 2 ^ 32 → IsHouse old.now
    → Executes put_reserve_text (Int (pos item) ∷ Int (pos amount) ∷ []) old new (Ok count) → AddsReserve item amount old.now new.now
adds_reserve old new item amount count low less house h =
    let params = Int (pos item) ∷ Int (pos amount) ∷ [] in
    let rows = old.now.trees 23 in
    let shaped = house.shaped.1.1.1.1.1.1.1.1.1.0 in
    let given : Row = Int (pos item) ∷ Null ∷ Int (pos amount) ∷ [] in
    let w = rw (cast_int (pos item), cast_null, cast_int (pos amount)) at (puts _ put_reserve_text 9 reserve_layout pair_terms 3 params given refl (put_reserve_is _).0 (put_reserve_is _).1 refl old new count house.schema h) in
    let back : reserve_in given ≡ record { item = item; amount = amount } = rw (small item low, small amount less) refl in
    record {
      house = still_house 23 _ old.now new.now house w (IsShaped-put_row given rows refl shaped);
      schema = w.schema;
      others = w.others;
      reserves = λ over. ap (map reserve_in) (w.rows_are ∙ put_over reserve_in (λ (r : ReserveRow). r.item) (λ r. refl) given item rows shaped refl low over) ∙ map_more reserve_in rows given ∙ ap (λ r. map reserve_in rows ++ r ∷ []) back;
    }
