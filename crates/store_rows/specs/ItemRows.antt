-- The rows of the item table as items with the standings of their bids.
use Rattle.std.specs.Prelude.{ℕ, ◌^◌, Bool, true, ◌==◌, nat_le, if◌then◌else◌, List, [], ◌∷◌, find, map, option_map, Option, Some, None}
use Rattle.sqlite_value.specs.declared.value.Value.{Value}
use Rattle.sqlite_value.specs.Order.{Row, column}
use Rattle.sqlite_trees.specs.Tree.{Trees}
use Rattle.proxy.specs.Bids.{met_by}
use Rattle.proxy.specs.Kept.{Kept}
use Rattle.house_rows.specs.declared.auction.Auction.{Auction}
use Rattle.house_rows.specs.declared.item.Item.{Item}
use Rattle.house_rows.specs.declared.item.Terms.{Terms}
use Rattle.house_rows.specs.declared.state.State.{State}
use Rattle.house_rows.specs.declared.state.State.TheVariants.{Open, Sold, Unsold, Settled}
use Rattle.house_rows.specs.Tables.{ItemRow}
use Rattle.store_rows.specs.declared.reserve.ReserveRow.{ReserveRow}
use Rattle.store_rows.specs.Rows.{number_in, text_in, maybe_number_in, reserves_in}

abbrev pub is_state : Value → Bool
is_state v = nat_le (number_in v) 3

abbrev pub state_in : Value → State
state_in v = if number_in v == 0 then Open else (if number_in v == 1 then Sold else (if number_in v == 2 then Unsold else Settled))

-- the standing of the bids: a leader with no top has bought the item at once, and then nobody has
-- bid. The reserve is in a table of its own
abbrev pub kept_from : ℕ → Option ℕ → ℕ → Option ℕ → Option ℕ → Option ℕ → ℕ → Kept
kept_from start reserve price None top second count = record {
  start = start;
  reserve = reserve;
  price = price;
  leader = None;
  top = top;
  second = second;
  count = count;
}
kept_from start reserve price (Some leader) None second count = record {
  start = start;
  reserve = reserve;
  price = start;
  leader = None;
  top = None;
  second = second;
  count = count;
}
kept_from start reserve price (Some leader) (Some top) second count = record {
  start = start;
  reserve = reserve;
  price = price;
  leader = Some leader;
  top = Some top;
  second = second;
  count = count;
}

-- whether the reserve is met, if there is one: what was bought at once meets it
abbrev pub met_with : Option ℕ → Option ℕ → Option ℕ → Option Bool
met_with reserve None top = met_by reserve top
met_with reserve (Some leader) None = option_map (λ r. true) reserve
met_with reserve (Some leader) (Some top) = met_by reserve (Some top)

-- ---- as a query shows a row

-- where the state is none, the start is none of ours. Whether a reserve is met is in no column
abbrev pub terms_of : Row → Terms
terms_of r = record {
  item = number_in (column r 0);
  seller = number_in (column r 1);
  category = number_in (column r 2);
  start = if is_state (column r 6) then number_in (column r 3) else 2 ^ 64;
  buy_now = maybe_number_in (column r 4);
  end = number_in (column r 5);
  state = state_in (column r 6);
  closed = maybe_number_in (column r 7);
  price = number_in (column r 8);
  leader = maybe_number_in (column r 9);
  count = number_in (column r 10);
  met = None;
}

-- the terms first, then the texts
abbrev pub item_of : Row → Item
item_of r = record { terms = terms_of r; lot = text_in (column r 11); title = text_in (column r 12); text = text_in (column r 13) }

-- with the reserve of the item, if it has one
abbrev pub kept_of : Option ℕ → Row → Kept
kept_of reserve r = kept_from
    (number_in (column r 0)) reserve (number_in (column r 1)) (maybe_number_in (column r 2))
    (maybe_number_in (column r 3)) (maybe_number_in (column r 4)) (number_in (column r 5))

-- terms and items with the reserve, by the greatest maximum
abbrev pub with_met : Option ℕ → Option ℕ → Terms → Terms
with_met reserve top t = record t { met = met_with reserve t.leader top }

abbrev pub item_with : Option ℕ → Option ℕ → Item → Item
item_with reserve top it = record it { terms = with_met reserve top it.terms }

-- the reserve of an item, if it has one
abbrev pub amount_of : List ReserveRow → ℕ → Option ℕ
amount_of reserves item = option_map (λ r. r.amount) (find (λ r. r.item == item) reserves)

-- a query shows what is sealed after the terms, or after the texts
abbrev pub terms_by : List ReserveRow → Row → Terms
terms_by reserves r =
    with_met (amount_of reserves (number_in (column r 0))) (maybe_number_in (column r 11)) (terms_of r)

abbrev pub item_by : List ReserveRow → Row → Item
item_by reserves r =
    item_with (amount_of reserves (number_in (column r 0))) (maybe_number_in (column r 14)) (item_of r)

abbrev pub auction_by : List ReserveRow → Row → Auction
auction_by reserves r = record {
  terms = terms_by reserves r;
  standing = kept_of (amount_of reserves (number_in (column r 0)))
      (column r 3 ∷ column r 8 ∷ column r 9 ∷ column r 11 ∷ column r 12 ∷ column r 10 ∷ []);
}

-- the whole row that a query shows with what is sealed after the texts
abbrev pub row_by : List ReserveRow → Row → ItemRow
row_by reserves r = record {
  item = item_by reserves r;
  standing = kept_of (amount_of reserves (number_in (column r 0)))
      (column r 3 ∷ column r 8 ∷ column r 9 ∷ column r 14 ∷ column r 15 ∷ column r 10 ∷ []);
}

-- ---- as a tree holds it

abbrev pub item_columns : Row → Row
item_columns r =
    column r 0 ∷ column r 2 ∷ column r 3 ∷ column r 7 ∷ column r 8 ∷ column r 9 ∷ column r 10
    ∷ column r 11 ∷ column r 12 ∷ column r 13 ∷ column r 16
    ∷ column r 4 ∷ column r 5 ∷ column r 6 ∷ []

abbrev pub kept_columns : Row → Row
kept_columns r =
    column r 7 ∷ column r 12 ∷ column r 13 ∷ column r 14 ∷ column r 15 ∷ column r 16 ∷ []

abbrev pub item_row_with : Option ℕ → Row → ItemRow
item_row_with reserve r = record {
  item = item_with reserve (maybe_number_in (column r 14)) (item_of (item_columns r));
  standing = kept_of reserve (kept_columns r);
}

-- by some reserves
abbrev pub item_row_in : List ReserveRow → Row → ItemRow
item_row_in reserves r = item_row_with (amount_of reserves (number_in (column r 0))) r

-- the rows of the table, by number, by some reserves
abbrev pub items_by : List ReserveRow → Trees → List ItemRow
items_by reserves db = map (item_row_in reserves) (db 6)

-- and by those that the database holds
abbrev pub items_in : Trees → List ItemRow
items_in db = items_by (reserves_in db) db
