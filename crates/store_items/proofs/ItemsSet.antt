-- What the tables of a house are after a write of items.
use Rattle.std.proofs.Common.{◌≡◌, ◌≤◌, ℕ, List, map, length, refl, ap, sym, subst, ◌∙◌, arith}
use Rattle.std.specs.Prelude.{All}
use Rattle.std.proofs.lemmas.List.{length-map}
use Rattle.std.proofs.lemmas.List.Elements.{All-map, All-weaker}
use Rattle.sqlite_value.specs.Order.{Row}
use Rattle.sqlite.specs.Effect.{Database}
use Rattle.house_rows.specs.Tables.{ItemRow, Tables}
use Rattle.store_rows.specs.declared.reserve.ReserveRow.{ReserveRow}
use Rattle.store_rows.specs.ItemRows.{items_in}
use Rattle.store_rows.specs.Rows.{reserve_in, reserves_in}
use Rattle.store_rows.specs.Tables.{IsNumbered, house_row_in, settings_in, tables_in}
use Rattle.store_rows.specs.House.{SetsClock}
use Rattle.store_rows.proofs.Clock.{Holds, clock_set}
use Rattle.store_items.specs.Items.{SetsItems}

-- a change of the items that leaves their numbers
pub items_set : (f : ItemRow → ItemRow) (old new : Database) → ((row : ItemRow) → (f row).item.terms.item ≡ row.item.terms.item) → IsNumbered old.trees → SetsItems f old new
    → Holds (record (tables_in old.trees) { items = map f (tables_in old.trees).items }) new
unfolding tables_in settings_in house_row_in
items_set f old new same numbered w =
    let house : new.trees 0 ≡ old.trees 0 = w.others.0 (λ e. omega (arith, e)) in
    let bands : new.trees 1 ≡ old.trees 1 = w.others.1.0 (λ e. omega (arith, e)) in
    let members : new.trees 2 ≡ old.trees 2 = w.others.1.1.0 (λ e. omega (arith, e)) in
    let categories : new.trees 4 ≡ old.trees 4 = w.others.1.1.1.0 (λ e. omega (arith, e)) in
    let bids : new.trees 8 ≡ old.trees 8 = w.others.1.1.1.1.1.0 (λ e. omega (arith, e)) in
    let watches : new.trees 10 ≡ old.trees 10 = w.others.1.1.1.1.1.1.0 (λ e. omega (arith, e)) in
    let questions : new.trees 12 ≡ old.trees 12 = w.others.1.1.1.1.1.1.1.0 (λ e. omega (arith, e)) in
    let feedback : new.trees 14 ≡ old.trees 14 = w.others.1.1.1.1.1.1.1.1.0 (λ e. omega (arith, e)) in
    let reserves : new.trees 23 ≡ old.trees 23 = w.others.1.1.1.1.1.1.1.1.1.0 (λ e. omega (arith, e)) in
    let editions : new.trees 24 ≡ old.trees 24 = w.others.1.1.1.1.1.1.1.1.1.1.0 (λ e. omega (arith, e)) in
    let later_bands : new.trees 25 ≡ old.trees 25 = w.others.1.1.1.1.1.1.1.1.1.1.1.0 (λ e. omega (arith, e)) in
    let were = All-weaker (λ (row : ItemRow). row.item.terms.item ≤ length (items_in old.trees)) (λ (row : ItemRow). (f row).item.terms.item ≤ length (items_in old.trees)) (λ row le. rw (same row) le) (items_in old.trees) numbered.items in
    let numbers : All (λ (row : ItemRow). row.item.terms.item ≤ length (map f (items_in old.trees))) (map f (items_in old.trees)) =
    subst (λ (n : ℕ). All (λ (row : ItemRow). row.item.terms.item ≤ n) (map f (items_in old.trees))) (sym (length-map (items_in old.trees) f))
    (All-map (λ (row : ItemRow). row.item.terms.item ≤ length (items_in old.trees)) f (items_in old.trees) were) in
    let sealed : All (λ (r : ReserveRow). r.item ≤ length (map f (items_in old.trees))) (reserves_in new.trees) =
    subst (λ (n : ℕ). All (λ (r : ReserveRow). r.item ≤ n) (reserves_in new.trees)) (sym (length-map (items_in old.trees) f))
    (subst (λ (rows : List Row). All (λ (r : ReserveRow). r.item ≤ length (items_in old.trees)) (map reserve_in rows)) (sym reserves) numbered.reserves) in
    record {
      tables = rw (house, bands, members, categories, w.items, bids, watches, questions, feedback, editions, later_bands) refl;
      numbered = record {
        house = rw house numbered.house;
        members = rw members numbered.members;
        categories = rw categories numbered.categories;
        items = subst (λ (l : List ItemRow). All (λ (row : ItemRow). row.item.terms.item ≤ length l) l) (sym w.items) numbers;
        reserves = subst (λ (l : List ItemRow). All (λ (r : ReserveRow). r.item ≤ length l) (reserves_in new.trees)) (sym w.items) sealed;
        editions = rw editions numbered.editions;
        later_bands = rw (editions, later_bands) numbered.later_bands;
      };
    }

-- the items changed, then the clock set
pub items_then_clock : (f : ItemRow → ItemRow) (moment : ℕ) (old mid new : Database) → ((row : ItemRow) → (f row).item.terms.item ≡ row.item.terms.item) → IsNumbered old.trees → SetsItems f old mid → SetsClock moment mid new
    → Holds (record (tables_in old.trees) { clock = moment; items = map f (tables_in old.trees).items }) new
items_then_clock f moment old mid new same numbered sets clock =
    let one = items_set f old mid same numbered sets in
    let two = clock_set moment mid new one.numbered clock in
    record { tables = two.tables ∙ ap (λ (t : Tables). record t { clock = moment }) one.tables; numbered = two.numbered }
