-- What look-ups say of the rows of an item.
use Rattle.proxy.specs.Opening.{Opening}
use Rattle.std.proofs.Common.{◌≡◌, ◌≤◌, ◌<◌, ◌^◌, ℕ, Bool, true, ◌&&◌, cond, List, [], ◌∷◌, map, filter, find, length, slice_get, option_map, Option, Some, None, eqb, refl, sym, ap, subst, ◌∙◌, arith, IsTrue, IfSome}
use Rattle.std.specs.Prelude.{All}
use Rattle.std.specs.List.{AllByRecursion}
use Rattle.std.proofs.lemmas.List.{length-map}
use Rattle.std.proofs.lemmas.List.Elements.{All-from_recursion}
use Rattle.sqlite_value.specs.Order.{Row, column}
use Rattle.sqlite_trees.specs.Tree.{Trees, rowid}
use Rattle.sqlite_trees.specs.View.{is_int}
use Rattle.sqlite_keyed.proofs.ListLemmas.{all_kept, filter-map, slice_get-filter}
use Rattle.sqlite.specs.Effect.{Database}
use Rattle.proxy.specs.Kept.{opening_of}
use Rattle.house_rows.specs.Changed.{is_item}
use Rattle.house_rows.specs.declared.item.Terms.{Terms}
use Rattle.house_rows.specs.Fits.{TermsFit}
use Rattle.house_rows.specs.Found.{row_at}
use Rattle.house_rows.specs.Editions.{BandTables}
use Rattle.house_rows.specs.Keeping.{FitsBy}
use Rattle.house_rows.specs.Limits.{most_cents}
use Rattle.house_rows.specs.Tables.{ItemRow, row_opening}
use Rattle.house_rows.proofs.ChangedRows.{there_numbered}
use Rattle.house_rows.proofs.Every.{found_has}
use Rattle.store_rows.specs.House.{IsHouse}
use Rattle.store_rows.specs.declared.reserve.ReserveRow.{ReserveRow}
use Rattle.store_rows.specs.ItemRows.{amount_of, is_state, item_row_in, items_in}
use Rattle.store_rows.specs.Rows.{maybe_number_in, number_in, reserves_in}
use Rattle.store_rows.proofs.RowLemmas.{filter_same_on, one_row}
use Rattle.store_items.specs.Items.{OfItem, StartsAt}
use Rattle.store_rows.specs.Tables.{tables_in}
use Rattle.store_items.specs.ConsistentRows.{RowFitsAt}
use Rattle.store_items.proofs.ItemLemmas.{fits_state, kept_opening}

-- one row at most has a number
pub one_item : (db : Database) → IsHouse db → (n : ℕ) → n < 2 ^ 32 → length (filter (is_item n) (items_in db.trees)) ≤ 1
one_item db house n low =
    let shaped = house.shaped.1.1.1.1.0 in
    let make = item_row_in (reserves_in db.trees) in
    let same : filter (λ r. is_item n (make r)) (db.trees 6) ≡ filter (λ r. is_int (rowid r) && eqb (number_in (rowid r)) n) (db.trees 6) =
    filter_same_on (λ r. IsTrue (is_int (rowid r))) (λ r. is_item n (make r)) (λ r. is_int (rowid r) && eqb (number_in (rowid r)) n) (λ r int. rw int refl) (db.trees 6) shaped.1 in
    rw (filter-map (is_item n) make (db.trees 6), length-map (filter (λ r. is_item n (make r)) (db.trees 6)) make, same) (one_row (db.trees 6) n shaped (omega arith))

all_of_few : {X : Type 0} (P : X → Type 0) (xs : List X) → length xs ≤ 1 → IfSome (slice_get xs 0) P → AllByRecursion P xs
all_of_few P [] few first = tt
all_of_few P (x ∷ []) few first = (first, tt)
all_of_few P (x ∷ y ∷ xs) few first = absurd (omega (arith, few))

-- what is so of the row that is found is so of each with its number
pub found_all : {X : Type 0} (P : X → Type 0) (p : X → Bool) (xs : List X) → length (filter p xs) ≤ 1 → IfSome (find p xs) P → All (λ x. p x ≡ true → P x) xs
found_all P p xs few found =
    All-from_recursion (λ x. p x ≡ true → P x) xs (all_kept P p xs (all_of_few P (filter p xs) few (subst (λ o. IfSome o P) (sym (slice_get-filter p xs)) found)))

pub of_found : (P : ItemRow → Type 0) (db : Database) → IsHouse db → (n : ℕ) → n < 2 ^ 32 → (row : ItemRow) → find (is_item n) (items_in db.trees) ≡ Some row → P row → OfItem n P db
of_found P db house n low row found p = found_all P (is_item n) (items_in db.trees) (one_item db house n low) (subst (λ o. IfSome o P) (sym found) p)

-- what has a part is there
pub whole : {X Y : Type 0} (f : X → Y) (o : Option X) (y : Y) → option_map f o ≡ Some y → (x : X) × (o ≡ Some x) × (f x ≡ y)
whole f None y e = absurd cc
whole f (Some x) y e = (x, refl, let e : f x ≡ y = cc in e)

pub none_whole : {X Y : Type 0} (f : X → Y) (o : Option X) (x : X) → o ≡ Some x → None ≡ option_map f o → ⊥
none_whole f None x is none = absurd cc
none_whole f (Some y) x is none = absurd cc

-- ---- what a standing opens with

-- the bids begin at the start
abbrev pub Begins : ItemRow → Type 0
Begins row = row.item.terms.start ≤ most_cents → opening_of row.standing ≡ row_opening row

row_begins : (reserves : List ReserveRow) (r : Row) → Begins (item_row_in reserves r)
row_begins reserves r fits =
    let is = fits_state (is_state (column r 10)) (number_in (column r 7)) fits in
    let reserve = amount_of reserves (number_in (column r 0)) in
    let start = number_in (column r 7) in
    let opens = kept_opening start reserve (number_in (column r 12)) (maybe_number_in (column r 13)) (maybe_number_in (column r 14)) (maybe_number_in (column r 15)) (number_in (column r 16)) in
    opens
    ∙ ap (λ n. record { start = n; reserve = reserve }) (sym (ap (λ b. cond b start (2 ^ 64)) is))
    ∙ ap (λ (o : Opening). record { start = (item_row_in reserves r).item.terms.start; reserve = o.reserve }) (sym opens)

rows_begin : (reserves : List ReserveRow) (rows : List Row) → AllByRecursion Begins (map (item_row_in reserves) rows)
rows_begin reserves [] = tt
rows_begin reserves (r ∷ rows) = (row_begins reserves r, rows_begin reserves rows)

pub begins : (db : Database) (n : ℕ) (row : ItemRow) → find (is_item n) (items_in db.trees) ≡ Some row → Begins row
begins db n row found = found_has Begins (is_item n) (items_in db.trees) row (rows_begin (reserves_in db.trees) (db.trees 6)) found

-- the reserve of a row is that of its number
row_reserve : (reserves : List ReserveRow) (r : Row) → (item_row_in reserves r).standing.reserve ≡ amount_of reserves (item_row_in reserves r).item.terms.item
row_reserve reserves r =
    ap (λ (o : Opening). o.reserve) (kept_opening (number_in (column r 7)) (amount_of reserves (number_in (column r 0))) (number_in (column r 12)) (maybe_number_in (column r 13)) (maybe_number_in (column r 14)) (maybe_number_in (column r 15)) (number_in (column r 16)))

abbrev pub IsReserved : List ReserveRow → ItemRow → Type 0
IsReserved reserves row = row.standing.reserve ≡ amount_of reserves row.item.terms.item

pub rows_reserved : (reserves : List ReserveRow) (rows : List Row) → AllByRecursion (IsReserved reserves) (map (item_row_in reserves) rows)
rows_reserved reserves [] = tt
rows_reserved reserves (r ∷ rows) = (row_reserve reserves r, rows_reserved reserves rows)

pub reserved : (db : Trees) (n : ℕ) (row : ItemRow) → find (is_item n) (items_in db) ≡ Some row → row.standing.reserve ≡ amount_of (reserves_in db) row.item.terms.item
reserved db n row found = found_has (IsReserved (reserves_in db)) (is_item n) (items_in db) row (rows_reserved (reserves_in db) (db 6)) found

pub standing_checked : (db : Database) → IsHouse db → (n : ℕ) → n < 2 ^ 32 → (t : Terms) (opening : Opening) → option_map (λ (row : ItemRow). row.item.terms) (find (is_item n) (items_in db.trees)) ≡ Some t → TermsFit t
    → opening ≡ record { start = t.start; reserve = amount_of (reserves_in db.trees) t.item } → OfItem n (StartsAt opening) db
standing_checked db house n low t opening found fits same =
    let row = whole (λ (row : ItemRow). row.item.terms) (find (is_item n) (items_in db.trees)) t found in
    let within = subst (λ (terms : Terms). terms.start ≤ most_cents) (sym row.2) fits.start.1 in
    of_found (StartsAt opening) db house n low row.0 row.1 (
    begins db n row.0 row.1 within
    ∙ ap (λ (r : Option ℕ). record { start = row.0.item.terms.start; reserve = r }) (reserved db.trees n row.0 row.1)
    ∙ ap (λ (terms : Terms). record { start = terms.start; reserve = amount_of (reserves_in db.trees) terms.item }) row.2 ∙ sym same)

-- ---- an item that is there

pub item_there : (db : Trees) (item : ℕ) (row : ItemRow) → row_at (tables_in db) item ≡ Some row → find (is_item item) (items_in db) ≡ Some row
unfolding tables_in
item_there db item row there = there

pub item_fits : (db : Trees) (editions : BandTables) (item : ℕ) (row : ItemRow) → RowFitsAt editions db item → row_at (tables_in db) item ≡ Some row → FitsBy editions row
item_fits db editions item row here there =
    found_has (λ (r : ItemRow). r.item.terms.item ≡ item → FitsBy editions r) (is_item item) (items_in db) row here (item_there db item row there)
    (there_numbered (tables_in db) item row there)
