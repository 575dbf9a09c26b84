-- Items as they were listed, each by the newest band table.
use Rattle.std.specs.Prelude.{ℕ, ◌+◌, List, [], ◌∷◌, ◌++◌, ◌==◌, Bool, false, length, find, Option, Some, None}
use Rattle.steps.specs.Table.{Band}
use Rattle.proxy.specs.Opening.{Opening}
use Rattle.house_rows.specs.declared.command.Command.{Command}
use Rattle.house_rows.specs.declared.command.Command.TheVariants.{List as Listed, SetBands}
use Rattle.house_rows.specs.declared.settings.Settings.{Settings}
use Rattle.house_rows.specs.History.{History}

-- the band tables set so far, and the one that a command sets
abbrev pub with_table : List (List Band) → Command → List (List Band)
with_table set (SetBands bands) = set ++ bands ∷ []
with_table set _ = set

-- the band tables that the house has set, in order
abbrev pub tables_set : History → List (List Band)
tables_set [] = []
tables_set (e ∷ h) = with_table (tables_set h) e.command

-- the newest table: the last of those that were set, or this one where there is none
abbrev pub newest_of : List Band → List (List Band) → List Band
newest_of first [] = first
newest_of first (bands ∷ set) = newest_of bands set

-- what its seller said of an item, and the band tables that were set before it
pub record Listing : Type 0 where
  pub item : ℕ
  pub seller : ℕ
  pub category : ℕ
  pub lot : List ℕ
  pub title : List ℕ
  pub text : List ℕ
  pub start : ℕ
  pub buy_now : Option ℕ
  pub end : ℕ
  pub set : List (List Band)
  -- the least for which the seller sells, which is sealed
  pub reserve : Option ℕ

-- what bidding on it opens with
abbrev pub listed_opening : Listing → Opening
listed_opening l = record { start = l.start; reserve = l.reserve }

-- the listing that a command makes, if it is one
abbrev pub listing_in : ℕ → List (List Band) → ℕ → Command → List Listing
listing_in number set caller (Listed category lot title text start buy_now end reserve) = record {
  item = number;
  seller = caller;
  category = category;
  lot = lot;
  title = title;
  text = text;
  start = start;
  buy_now = buy_now;
  end = end;
  set = set;
  reserve = reserve;
} ∷ []
listing_in number set caller _ = []

-- the listings, each with the next number
abbrev pub listings : History → List Listing
listings [] = []
listings (e ∷ h) = listings h ++ listing_in (length (listings h) + 1) (tables_set h) e.caller e.command

-- the edition by which what was listed goes: 1 more than the tables that were set before it
abbrev pub edition_by : Listing → ℕ
edition_by l = length l.set + 1

-- and its band table: the newest of them, or the one that the house was set up with
abbrev pub bands_by : Settings → Listing → List Band
bands_by settings l = newest_of settings.bands l.set

-- the listing of an item
abbrev pub listing_at : List Listing → ℕ → Option Listing
listing_at ls i = find (λ l. l.item == i) ls

-- whether a member sells what was listed
abbrev pub is_seller : Option Listing → ℕ → Bool
is_seller None c = false
is_seller (Some l) c = l.seller == c

-- a reserve and its item
pub record ReserveRow : Type 0 where
  pub item : ℕ
  pub amount : ℕ

-- the row of a reserve, if there is one
abbrev pub reserve_row : ℕ → Option ℕ → List ReserveRow
reserve_row item None = []
reserve_row item (Some amount) = record { item = item; amount = amount } ∷ []

-- the reserves of what was listed, by item
abbrev pub reserve_rows : List Listing → List ReserveRow
reserve_rows [] = []
reserve_rows (l ∷ ls) = reserve_row l.item l.reserve ++ reserve_rows ls
