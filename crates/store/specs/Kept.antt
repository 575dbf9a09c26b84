-- What a house in SQLite is to its callers.
use Rattle.std.specs.Prelude.{◌≡◌, ℕ, List, Option, Some, None, IfSome, Bool, false, refl}
use Rattle.steps.specs.Table.{Band}
use Rattle.std.specs.Coded.{Coded, code_by, coded×, coded_ℕ, coded_bool, coded_list}
use Rattle.sqlite_trees.specs.declared.store.Store.{Ghosts}
use Rattle.sqlite_trees.specs.Tree.{Trees}
use Rattle.sqlite.specs.Held.{Held, held_code, state}
use Rattle.sqlite.specs.State.{HasCleanDisk, State}
use Rattle.house_rows.specs.Fits.{IsMoment, StandingFits, TermsFit}
use Rattle.house_rows.specs.Found.{counts_of}
use Rattle.house_rows.specs.Editions.{BandTables}
use Rattle.house_rows.specs.Tables.{Tables, band_tables}
use Rattle.house_rows.specs.declared.auction.Auction.{Auction}
use Rattle.house_rows.specs.declared.people.Counts.{Counts}
use Rattle.house_rows.specs.declared.edition.Edition.{Edition}
use Rattle.house_rows.specs.declared.settings.Settings.{Settings}
use Rattle.store_rows.specs.declared.reserve.ReserveRow.{ReserveRow}
use Rattle.store_rows.specs.House.{IsHouse}
use Rattle.store_rows.specs.Rows.{reserves_in}
use Rattle.store_rows.specs.Tables.{IsAtRest, tables_in, version_in}
use Rattle.store_items.specs.Seen.{IsThere}
use Rattle.sqlite.specs.Effect.{Database, IsDatabase}

-- the connection, and what is known of its tables without asking it
pub record House (S : Type 0) : Type 0 where
  pub conn : Held S
  -- the settings, and all band tables
  pub editions : BandTables
  pub reserves : List ReserveRow
  pub counts : Counts
  pub clock : ℕ
  -- a call has answered `Store`
  pub failed : Bool

-- settings, editions, reserves, counts and a house are stored as the tuples of their fields
abbrev pub settings_code : Coded Settings
settings_code =
    code_by (List Band × (ℕ × List ℕ)) (coded× (coded_list (coded× coded_ℕ coded_ℕ)) (coded× coded_ℕ (coded_list coded_ℕ)))
    (λ s. (s.bands, (s.rate, s.zone)))
    (λ p. record { bands = p.0; rate = p.1.0; zone = p.1.1 })
    (λ _. refl)

abbrev pub edition_code : Coded Edition
edition_code =
    code_by (ℕ × (ℕ × List Band)) (coded× coded_ℕ (coded× coded_ℕ (coded_list (coded× coded_ℕ coded_ℕ))))
    (λ e. (e.edition, (e.first, e.bands)))
    (λ p. record { edition = p.0; first = p.1.0; bands = p.1.1 })
    (λ _. refl)

abbrev pub editions_code : Coded BandTables
editions_code =
    code_by (Settings × List Edition) (coded× settings_code (coded_list edition_code))
    (λ b. (b.settings, b.later))
    (λ p. record { settings = p.0; later = p.1 })
    (λ _. refl)

abbrev pub reserve_code : Coded ReserveRow
reserve_code =
    code_by (ℕ × ℕ) (coded× coded_ℕ coded_ℕ)
    (λ r. (r.item, r.amount))
    (λ p. record { item = p.0; amount = p.1 })
    (λ _. refl)

abbrev pub counts_code : Coded Counts
counts_code =
    code_by (ℕ × (ℕ × ℕ)) (coded× coded_ℕ (coded× coded_ℕ coded_ℕ))
    (λ c. (c.members, (c.categories, c.items)))
    (λ p. record { members = p.0; categories = p.1.0; items = p.1.1 })
    (λ _. refl)

abbrev pub house_code : {S : Type 0} → Coded S → Coded (House S)
house_code {S} store =
    code_by (Held S × (BandTables × (List ReserveRow × (Counts × (ℕ × Bool)))))
    (coded× (held_code store) (coded× editions_code (coded× (coded_list reserve_code) (coded× counts_code (coded× coded_ℕ coded_bool)))))
    (λ k. (k.conn, (k.editions, (k.reserves, (k.counts, (k.clock, k.failed))))))
    (λ p. record { conn = p.0; editions = p.1.0; reserves = p.1.1.0; counts = p.1.1.1.0; clock = p.1.1.1.1.0; failed = p.1.1.1.1.1 })
    (λ _. refl)

-- what is known of the tables is so, and what was seen of an item's row last, if anything was
pub record IsKnown (editions : BandTables) (reserves : List ReserveRow) (counts : Counts) (clock : ℕ) (seen : Option Auction) (db : Trees) : Type 0 where
  pub editions_are : band_tables (tables_in db) ≡ editions
  pub reserves_are : reserves ≡ reserves_in db
  pub counts_are : counts_of (tables_in db) ≡ counts
  pub clock_is : (tables_in db).clock ≡ clock
  pub seen_is : IfSome seen (λ a. IsThere editions a.terms.item a db)

-- what a crash may leave is a house, as far as the disk was honest
abbrev pub LeavesHouses : State → Type 0
LeavesHouses s = HasCleanDisk s → (db : Trees) → s.may_leave db
    → (house : Database) × IsHouse house × (db ≡ house.trees)

-- and all that it may leave has one schema
abbrev pub LeavesOneSchema : State → Type 0
LeavesOneSchema s = HasCleanDisk s → (one two : Database) → IsDatabase one → IsDatabase two
    → s.may_leave one.trees → s.may_leave two.trees → one.schema ≡ two.schema

-- and is of the version that an opening takes
abbrev pub LeavesVersion : State → Type 0
LeavesVersion s = HasCleanDisk s → (db : Trees) → s.may_leave db → version_in db ≡ Some 2

-- No transaction is open, and no limit on steps is set; and until it failed, a house is committed, as far as the disk was
-- honest, and an item that was seen last is as it was seen. A crash leaves a house whether it failed or not, of the version
-- that an opening takes, and of one schema, which at rest is that of the house which is committed.
pub record IsKeptSeen {S : Type 0} (g : Ghosts S) (seen : Option Auction) (k : House S) : Type 0 where
  pub idle : k.conn.in_transaction ≡ false
  pub unlimited : k.conn.step_limit ≡ None
  pub moment : IsMoment k.clock
  pub rests : k.failed ≡ false → HasCleanDisk (state g k.conn) → IsAtRest (state g k.conn)
  pub known : k.failed ≡ false → HasCleanDisk (state g k.conn) → IsKnown k.editions k.reserves k.counts k.clock seen (state g k.conn).now.trees
  pub seen_fits : IfSome seen (λ a. TermsFit a.terms × StandingFits a.standing)
  pub houses : LeavesHouses (state g k.conn)
  pub one_schema : LeavesOneSchema (state g k.conn)
  pub version : LeavesVersion (state g k.conn)

-- whatever was seen
abbrev pub IsKept : {S : Type 0} → Ghosts S → House S → Type 0
IsKept g k = IsKeptSeen g None k

-- ---- what the clauses of a keep speak of

abbrev pub content : {S : Type 0} → Ghosts S → House S → Tables
content g k = tables_in (state g k.conn).now.trees

abbrev pub is_failed : {S : Type 0} → House S → Bool
is_failed k = k.failed

-- so far the disk has returned what was written
abbrev pub IsHonest : {S : Type 0} → Ghosts S → House S → Type 0
IsHonest g k = HasCleanDisk (state g k.conn)

-- the tables of what a crash may leave
abbrev pub MayLeave : {S : Type 0} → Ghosts S → House S → Tables → Type 0
MayLeave g k tables = (db : Trees) × (state g k.conn).may_leave db × (tables ≡ tables_in db)
