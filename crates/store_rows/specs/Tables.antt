-- The tables of the house that a database holds.
use Rattle.std.specs.Prelude.{◌≡◌, ◌≤◌, ◌+◌, ◌==◌, not, true, ℕ, List, [], ◌∷◌, ◌++◌, Option, Some, None, map, filter, find, length, All, is_some, option_map, unwrap_or, IsTrue}
use Rattle.steps.specs.Table.{Band}
use Rattle.sqlite_trees.specs.Tree.{Trees}
use Rattle.sqlite.specs.Effect.{Database}
use Rattle.sqlite.specs.State.{State, HasCleanDisk}
use Rattle.house_rows.specs.Changed.{changed}
use Rattle.house_rows.specs.Tables.{Tables}
use Rattle.house_rows.specs.declared.change.Change.{Change}
use Rattle.house_rows.specs.declared.change.Change.TheVariants.{Register, AddCategory, List as Listed, Bid, Buy, Close, Settle, Watch, Unwatch, Ask, Answer, Feedback, SetBands}
use Rattle.house_rows.specs.declared.edition.Edition.{Edition}
use Rattle.house_rows.specs.declared.settings.Settings.{Settings}
use Rattle.store_rows.specs.declared.house.HouseRow.{HouseRow}
use Rattle.store_rows.specs.declared.reserve.ReserveRow.{ReserveRow}
use Rattle.store_rows.specs.declared.edition.EditionRow.{EditionRow}
use Rattle.store_rows.specs.declared.edition.LaterBandRow.{LaterBandRow}
use Rattle.store_rows.specs.House.{IsHouse}
use Rattle.store_rows.specs.ItemRows.{items_in}
use Rattle.store_rows.specs.Rows.{bands_in, categories_in, edition_rows_in, houses_in, later_bands_in, members_in, reserves_in}
use Rattle.store_rows.specs.Sorted.{sorted_bids, sorted_feedback, sorted_questions, sorted_watches}

-- the row of the house, or none of ours
unfoldable pub house_row_in : Trees → HouseRow
house_row_in db = unwrap_or (find (λ h. h.id == 1) (houses_in db)) (record { id = 0; version = 0; clock = 0; rate = 0; zone = [] })

-- the version of the tables, as the row of the house gives it
abbrev pub version_in : Trees → Option ℕ
version_in db = option_map (λ h. h.version) (find (λ h. h.id == 1) (houses_in db))

-- the other rows of its table: an opening and every look-up pass them over
abbrev pub other_houses_in : Trees → List HouseRow
other_houses_in db = filter (λ h. not (h.id == 1)) (houses_in db)

unfoldable pub settings_in : Trees → Settings
settings_in db = record {
  bands = map (λ b. (b.from, b.step)) (bands_in db);
  rate = (house_row_in db).rate;
  zone = (house_row_in db).zone;
}

-- the bands of an edition among those of all, as they were written
abbrev pub bands_at : ℕ → List LaterBandRow → List Band
bands_at edition bands = map (λ b. (b.from, b.step)) (filter (λ b. b.edition == edition) bands)

-- editions with their bands
abbrev pub editions_by : List LaterBandRow → List EditionRow → List Edition
editions_by bands rows = map (λ r. record { edition = r.edition; first = r.first; bands = bands_at r.edition bands }) rows

-- the editions of the band table that the house has set, by number
abbrev pub editions_in : Trees → List Edition
editions_in db = editions_by (later_bands_in db) (edition_rows_in db)

-- the tables, each in the order of its keys
unfoldable pub tables_in : Trees → Tables
tables_in db = record {
  settings = settings_in db;
  clock = (house_row_in db).clock;
  members = members_in db;
  categories = categories_in db;
  items = items_in db;
  bids = sorted_bids db;
  watches = sorted_watches db;
  questions = sorted_questions db;
  feedback = sorted_feedback db;
  editions = editions_in db;
}

-- The house has its row, and no member, category or item has a number over how many there are, nor has a reserve. No edition has
-- one over how many there are with the first, nor has a band of one.
pub record IsNumbered (db : Trees) : Type 0 where
  pub house : is_some (find (λ h. h.id == 1) (houses_in db)) ≡ true
  pub members : All (λ m. m.member ≤ length (members_in db)) (members_in db)
  pub categories : All (λ k. k.category ≤ length (categories_in db)) (categories_in db)
  pub items : All (λ row. row.item.terms.item ≤ length (items_in db)) (items_in db)
  pub reserves : All (λ r. r.item ≤ length (items_in db)) (reserves_in db)
  pub editions : All (λ e. e.edition ≤ length (edition_rows_in db) + 1) (edition_rows_in db)
  pub later_bands : All (λ b. b.edition ≤ length (edition_rows_in db) + 1) (later_bands_in db)

-- the connection is open, and a numbered house is committed
pub record IsAtRest (s : State) : Type 0 where
  pub is_open : IsTrue s.is_open
  pub house : IsHouse s.now
  pub settled : s.now ≡ s.committed
  pub numbered : IsNumbered s.now.trees

-- as far as the disk was honest
abbrev pub Rests : State → Type 0
Rests s = HasCleanDisk s → IsAtRest s

-- one reserve more, if there is one
abbrev pub with_reserve : ℕ → Option ℕ → List ReserveRow → List ReserveRow
with_reserve item None reserves = reserves
with_reserve item (Some amount) reserves = reserves ++ record { item = item; amount = amount } ∷ []

-- the reserves after a change: a listing adds that of its item, which has the next number
abbrev pub reserves_after : List ReserveRow → ℕ → Change → List ReserveRow
reserves_after reserves next (Register moment name) = reserves
reserves_after reserves next (AddCategory moment name) = reserves
reserves_after reserves next (Listed moment item) = with_reserve next item.reserve reserves
reserves_after reserves next (Bid moment item placed standing) = reserves
reserves_after reserves next (Buy moment item buyer price) = reserves
reserves_after reserves next (Close moment) = reserves
reserves_after reserves next (Settle moment item) = reserves
reserves_after reserves next (Watch member item) = reserves
reserves_after reserves next (Unwatch member item) = reserves
reserves_after reserves next (Ask item asker number text) = reserves
reserves_after reserves next (Answer moment item asker number text) = reserves
reserves_after reserves next (Feedback moment item from to rating text) = reserves
reserves_after reserves next (SetBands moment bands) = reserves

-- the bands of the later tables after a change: a table that is set adds its own, under the number that comes next
abbrev pub later_bands_after : List LaterBandRow → ℕ → Change → List LaterBandRow
later_bands_after rows next (Register moment name) = rows
later_bands_after rows next (AddCategory moment name) = rows
later_bands_after rows next (Listed moment item) = rows
later_bands_after rows next (Bid moment item placed standing) = rows
later_bands_after rows next (Buy moment item buyer price) = rows
later_bands_after rows next (Close moment) = rows
later_bands_after rows next (Settle moment item) = rows
later_bands_after rows next (Watch member item) = rows
later_bands_after rows next (Unwatch member item) = rows
later_bands_after rows next (Ask item asker number text) = rows
later_bands_after rows next (Answer moment item asker number text) = rows
later_bands_after rows next (Feedback moment item from to rating text) = rows
later_bands_after rows next (SetBands moment bands) = rows ++ map (λ (b : Band). record { edition = next; from = b.0; step = b.1 }) bands.now

-- what a change makes of the house
pub record Changes (change : Change) (old new : Database) : Type 0 where
  pub house : IsHouse new
  pub schema : new.schema ≡ old.schema
  pub numbered : IsNumbered new.trees
  pub version : version_in new.trees ≡ version_in old.trees
  pub other_houses : other_houses_in new.trees ≡ other_houses_in old.trees
  pub tables : tables_in new.trees ≡ changed (tables_in old.trees) change
  pub reserves : reserves_in new.trees ≡ reserves_after (reserves_in old.trees) (length (items_in old.trees) + 1) change
  pub later_bands : later_bands_in new.trees ≡ later_bands_after (later_bands_in old.trees) (length (edition_rows_in old.trees) + 2) change
