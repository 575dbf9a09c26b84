-- The tables that a history leaves: the rows of each, in the order of their keys.
use Rattle.std.specs.Prelude.{ℕ, List, map}
use Rattle.steps.specs.Table.{Band}
use Rattle.proxy.specs.Opening.{Opening}
use Rattle.proxy.specs.Bids.{standing_of}
use Rattle.proxy.specs.Kept.{Kept}
use Rattle.house_rows.specs.declared.edition.Edition.{Edition}
use Rattle.house_rows.specs.declared.item.Item.{Item}
use Rattle.house_rows.specs.declared.people.Category.{Category}
use Rattle.house_rows.specs.declared.people.Member.{Member}
use Rattle.house_rows.specs.declared.settings.Settings.{Settings}
use Rattle.house_rows.specs.declared.talk.Feedback.{Feedback}
use Rattle.house_rows.specs.declared.talk.Question.{Question}
use Rattle.house_rows.specs.History.{History, clock}
use Rattle.house_rows.specs.People.{categories, members}
use Rattle.house_rows.specs.Editions.{BandTables, bands_in, edition_in, editions}
use Rattle.house_rows.specs.Listings.{Listing, bands_by, listed_opening, listings}
use Rattle.house_rows.specs.Bids.{BidRow, bid_rows, bids_on}
use Rattle.house_rows.specs.Items.{item_now}
use Rattle.house_rows.specs.Questions.{questions}
use Rattle.house_rows.specs.Ratings.{feedback}
use Rattle.house_rows.specs.Watches.{WatchRow, watches}

-- an item with the standing of its bids, whose maxima are sealed
pub record ItemRow : Type 0 where
  pub item : Item
  pub standing : Kept

-- what bidding on it opened with
abbrev pub row_opening : ItemRow → Opening
row_opening row = record { start = row.item.terms.start; reserve = row.standing.reserve }

-- what a keep holds: the settings, the clock, and the rows of each table
pub record Tables : Type 0 where
  pub settings : Settings
  pub clock : ℕ
  pub members : List Member
  pub categories : List Category
  pub items : List ItemRow
  pub bids : List BidRow
  pub watches : List WatchRow
  pub questions : List Question
  pub feedback : List Feedback
  pub editions : List Edition

-- all band tables
abbrev pub band_tables : Tables → BandTables
band_tables t = record { settings = t.settings; later = t.editions }

-- the edition of an item, by the tables
abbrev pub edition_for : Tables → ℕ → ℕ
edition_for t item = edition_in (band_tables t) item

-- the band table of an item, by the tables
abbrev pub bands_for : Tables → ℕ → List Band
bands_for t item = bands_in (band_tables t) item

-- the row of a listed item after a history
abbrev pub row_now : Settings → History → Listing → ItemRow
row_now settings h l = record {
  item = item_now settings h l;
  standing = standing_of (bands_by settings l) (listed_opening l) (bids_on h l.item);
}

-- the tables of a history
unfoldable pub tables_of : Settings → History → Tables
tables_of settings h = record {
  settings = settings;
  clock = clock h;
  members = members h;
  categories = categories h;
  items = map (row_now settings h) (listings h);
  bids = bid_rows h;
  watches = watches h;
  questions = questions h;
  feedback = feedback h;
  editions = editions h;
}
