-- What was read of a house says what it is.
use Rattle.std.proofs.Common.{◌≡◌, ◌≤◌, ◌+◌, ◌==◌, ℕ, true, List, map, find, is_some, length, All, Option, Some, unwrap_or, [], ◌∷◌, refl, sym, ap, subst, ◌∙◌, IsTrue, arith}
use Rattle.std.specs.List.{AllByRecursion}
use Rattle.std.proofs.lemmas.List.{length-map}
use Rattle.std.proofs.lemmas.List.Elements.{All-from_recursion}
use Rattle.sqlite_value.specs.Order.{Row}
use Rattle.sqlite_trees.specs.Tree.{Trees}
use Rattle.sqlite.specs.Effect.{Database}
use Rattle.sqlite.specs.State.{State, IsUnchanged}
use Rattle.steps.specs.Table.{IsBand}
use Rattle.house_rows.specs.Fits.{IsWithin}
use Rattle.house_rows.specs.Found.{counts_of}
use Rattle.house_rows.specs.Editions.{BandTables}
use Rattle.house_rows.specs.Tables.{ItemRow, band_tables}
use Rattle.house_rows.specs.declared.edition.Edition.{Edition}
use Rattle.house_rows.specs.declared.people.Category.{Category}
use Rattle.house_rows.specs.declared.people.Counts.{Counts}
use Rattle.house_rows.specs.declared.people.Member.{Member}
use Rattle.house_rows.specs.declared.settings.Settings.{Settings}
use Rattle.store_rows.specs.declared.band.BandRow.{BandRow}
use Rattle.store_rows.specs.declared.house.HouseRow.{HouseRow}
use Rattle.store_rows.specs.Fitting.{BandRowFits, HouseRowFits}
use Rattle.store_rows.specs.House.{IsHouse}
use Rattle.store_rows.specs.ItemRows.{item_row_in, items_by, items_in}
use Rattle.store_rows.specs.Rows.{bands_in, categories_in, edition_rows_in, houses_in, later_bands_in, members_in, reserves_in}
use Rattle.store_rows.specs.declared.edition.LaterBandRow.{LaterBandRow}
use Rattle.store_rows.specs.declared.reserve.ReserveRow.{ReserveRow}
use Rattle.store_rows.specs.Tables.{IsAtRest, IsNumbered, house_row_in, settings_in, tables_in}
use Rattle.store_house.specs.Opening.{AreNumbered, AreSet, HasEditions, HasRead, HasReserves, HasSettings, HaveNumbers}
use Rattle.store_open.proofs.EditionLemmas.{are_numbered, are_tables, none_over}

abbrev pairs : List BandRow → List (ℕ × ℕ)
pairs = map (λ b. (b.from, b.step))

-- the rows of a band table have 32 bits
pub bands_fit : (rows : List BandRow) → AllByRecursion IsBand (pairs rows) → AllByRecursion BandRowFits rows
bands_fit [] each = tt
bands_fit (b ∷ rows) each = (record { from = omega (arith, each.0.0); step = omega (arith, each.0.2) }, bands_fit rows each.1)

pub has_settings : (db : Trees) (house : HouseRow) (rows : List BandRow) (s : Settings) → Some house ≡ find (λ h. h.id == 1) (houses_in db) → HouseRowFits house → rows ≡ bands_in db
    → s.bands ≡ pairs rows → s.rate ≡ house.rate → s.zone ≡ house.zone → HasSettings db s house.clock
unfolding settings_in house_row_in
has_settings db house rows s found fits read bands rate zone =
    let none : HouseRow = record { id = 0; version = 0; clock = 0; rate = 0; zone = [] } in
    let row : unwrap_or (find (λ h. h.id == 1) (houses_in db)) none ≡ house = ap (λ (o : Option HouseRow). unwrap_or o none) (sym found) in
    let b : pairs (bands_in db) ≡ s.bands = ap pairs (sym read) ∙ sym bands in
    let r : (unwrap_or (find (λ h. h.id == 1) (houses_in db)) none).rate ≡ s.rate = ap (λ (h : HouseRow). h.rate) row ∙ sym rate in
    let z : (unwrap_or (find (λ h. h.id == 1) (houses_in db)) none).zone ≡ s.zone = ap (λ (h : HouseRow). h.zone) row ∙ sym zone in
    let was : Settings = settings_in db in
    record {
      house = subst (λ (o : Option HouseRow). is_some o ≡ true) found refl;
      row = subst HouseRowFits (sym row) fits;
      settings_are = ap (λ (bs : List (ℕ × ℕ)). record was { bands = bs }) b
          ∙ ap (λ (n : ℕ). record was { bands = s.bands; rate = n }) r
          ∙ ap (λ (t : List ℕ). record { bands = s.bands; rate = s.rate; zone = t }) z;
      clock_is = ap (λ (h : HouseRow). h.clock) row;
    }

each_within : {T : Type 0} (number : T → ℕ) (n : ℕ) (xs : List T) → AllByRecursion (λ x. IsWithin 1 n (number x)) xs → AllByRecursion (λ x. number x ≤ n) xs
each_within number n [] all = tt
each_within number n (x ∷ xs) all = (all.0.1, each_within number n xs all.1)

within : {T : Type 0} (number : T → ℕ) (n : ℕ) (xs : List T) → AllByRecursion (λ x. IsWithin 1 n (number x)) xs → All (λ x. number x ≤ n) xs
within number n xs all = All-from_recursion (λ x. number x ≤ n) xs (each_within number n xs all)

-- items have the same numbers by any reserves
numbers_by : (reserves others : List ReserveRow) (n : ℕ) (rows : List Row) → AllByRecursion (λ (row : ItemRow). IsWithin 1 n row.item.terms.item) (map (item_row_in reserves) rows)
    → AllByRecursion (λ (row : ItemRow). IsWithin 1 n row.item.terms.item) (map (item_row_in others) rows)
numbers_by reserves others n [] all = tt
numbers_by reserves others n (r ∷ rows) all = (all.0, numbers_by reserves others n rows all.1)

count_by : (reserves others : List ReserveRow) (rows : List Row) → length (map (item_row_in reserves) rows) ≡ length (map (item_row_in others) rows)
count_by reserves others rows = length-map rows (item_row_in reserves) ∙ sym (length-map rows (item_row_in others))

pub so_many : (db : Trees) → length (items_by [] db) ≡ length (items_in db)
so_many db = count_by [] (reserves_in db) (db 6)

numbered : (db : Trees) (s : Settings) (clock : ℕ) (reserves : List ReserveRow) (later : List Edition) → HasSettings db s clock → AreNumbered db → HasReserves db reserves → HasEditions db later → IsNumbered db
numbered db s clock reserves later set are sealed editions = record {
  house = set.house;
  members = within (λ (m : Member). m.member) _ (members_in db) are.members;
  categories = within (λ (k : Category). k.category) _ (categories_in db) are.categories;
  items = within (λ (row : ItemRow). row.item.terms.item) _ (items_in db)
      (subst (λ n. AllByRecursion (λ (row : ItemRow). IsWithin 1 n row.item.terms.item) (items_in db)) (so_many db) (numbers_by [] (reserves_in db) (length (items_by [] db)) (db 6) are.items));
  reserves = All-from_recursion (λ (r : ReserveRow). r.item ≤ length (items_in db)) (reserves_in db)
      (subst (λ n. AllByRecursion (λ (r : ReserveRow). r.item ≤ n) (reserves_in db)) (so_many db) sealed.within);
  editions = are_numbered (edition_rows_in db) editions.set.in_turn;
  later_bands = All-from_recursion (λ (b : LaterBandRow). b.edition ≤ length (edition_rows_in db) + 1) (later_bands_in db) (none_over (length (edition_rows_in db) + 1) (later_bands_in db) editions.set.within);
}

counts_are : (db : Trees) (counts : Counts) → HaveNumbers db counts → counts_of (tables_in db) ≡ counts
unfolding tables_in
counts_are db counts have =
    ap (λ (n : ℕ). record (counts_of (tables_in db)) { members = n }) have.members
    ∙ ap (λ (n : ℕ). record (counts_of (tables_in db)) { members = counts.members; categories = n }) have.categories
    ∙ ap (λ (n : ℕ). record { members = counts.members; categories = counts.categories; items = n }) (sym (so_many db) ∙ have.items)

clock_of : (db : Trees) → (tables_in db).clock ≡ (house_row_in db).clock
unfolding tables_in
clock_of db = refl

-- a house that was read, and is as it was
pub record WasRead (was is : State) (editions : BandTables) (clock : ℕ) (counts : Counts) (reserves : List ReserveRow) : Type 0 where
  pub rests : IsAtRest is
  pub editions_are : band_tables (tables_in is.now.trees) ≡ editions
  pub counts_are : counts_of (tables_in is.now.trees) ≡ counts
  pub clock_is : (tables_in is.now.trees).clock ≡ clock
  pub reserves_are : reserves ≡ reserves_in is.now.trees
  pub row : HouseRowFits (house_row_in is.now.trees)
  pub numbered : AreNumbered is.now.trees
  pub set : AreSet is.now.trees
  pub same : is.now ≡ was.now
  pub committed : is.committed ≡ is.now

pub was_read : (was is : State) (editions : BandTables) (clock : ℕ) (counts : Counts) (reserves : List ReserveRow) → IsTrue was.is_open × IsHouse was.now → was.now ≡ was.committed → IsUnchanged was is
    → HasRead was.now.trees editions clock counts reserves → WasRead was is editions clock counts reserves
was_read was is editions clock counts reserves house settled unchanged has =
    let now = unchanged.0.now_is in
    let committed = unchanged.0.committed_is in
    let still = subst (λ (d : Database). HasRead d.trees editions clock counts reserves) (sym now) has in
    record {
      rests = record { is_open = unchanged.0.is_open; house = subst IsHouse (sym now) house.1; settled = now ∙ settled ∙ sym committed; numbered = numbered is.now.trees editions.settings clock reserves editions.later still.has_settings still.have_numbers.numbered still.has_reserves still.has_editions };
      editions_are = are_tables is.now.trees editions still.has_settings.settings_are still.has_editions;
      counts_are = counts_are is.now.trees counts still.have_numbers;
      clock_is = clock_of is.now.trees ∙ still.has_settings.clock_is;
      reserves_are = still.has_reserves.reserves_are;
      row = still.has_settings.row;
      numbered = still.have_numbers.numbered;
      set = still.has_editions.set;
      same = now;
      committed = committed ∙ sym settled ∙ sym now;
    }
