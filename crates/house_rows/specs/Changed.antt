-- The tables after a change.
use Rattle.std.specs.Prelude.{if◌then◌else◌, ℕ, ◌+◌, List, [], ◌∷◌, ◌++◌, Bool, ◌==◌, length, map, Option, Some, None, option_map, true}
use Rattle.proxy.specs.Opening.{Opening}
use Rattle.proxy.specs.Bids.{standing_of, met_by}
use Rattle.proxy.specs.Kept.{Kept}
use Rattle.house_rows.specs.declared.change.Change.{Change}
use Rattle.house_rows.specs.declared.change.NewItem.{NewItem}
use Rattle.house_rows.specs.declared.change.Change.TheVariants.{Register, AddCategory, List as Listed, Bid, Buy, Close, Settle, Watch, Unwatch, Ask, Answer, Feedback, SetBands}
use Rattle.house_rows.specs.declared.item.Terms.{Terms}
use Rattle.house_rows.specs.declared.state.State.TheVariants.{Open, Sold, Settled}
use Rattle.house_rows.specs.declared.talk.Question.{Question}
use Rattle.house_rows.specs.History.{Key, put_by}
use Rattle.house_rows.specs.Bids.{bid_key}
use Rattle.house_rows.specs.Items.{close_sells, closed_state, is_due}
use Rattle.house_rows.specs.Questions.{is_question}
use Rattle.house_rows.specs.Ratings.{feedback_key}
use Rattle.house_rows.specs.Tables.{ItemRow, Tables}
use Rattle.house_rows.specs.Watches.{unwatched, watch_key}

-- a row with other terms
abbrev pub with_terms : Terms → ItemRow → ItemRow
with_terms terms row = record row { item = record row.item { terms = terms } }

-- whether it is the item of that number
abbrev pub is_item : ℕ → ItemRow → Bool
is_item i row = row.item.terms.item == i

-- whether the reserve is met, as bids are kept
abbrev pub kept_met : Kept → Option Bool
kept_met kept = met_by kept.reserve kept.top

-- the standing of the item of that number is now that of its bids
abbrev pub with_standing : ℕ → Kept → ItemRow → ItemRow
with_standing i kept row =
    if is_item i row
    then record (with_terms (record row.item.terms { price = kept.price; leader = kept.leader; count = kept.count; met = kept_met kept }) row) { standing = kept }
    else row

-- the item of that number is sold at once
abbrev pub with_purchase : ℕ → ℕ → ℕ → ℕ → ItemRow → ItemRow
with_purchase i buyer price moment row =
    if is_item i row
    then with_terms (record row.item.terms { state = Sold; closed = Some moment; price = price; leader = Some buyer; met = option_map (λ m. true) row.item.terms.met }) row
    else row

-- an item that is due is closed at its end, sold or unsold
abbrev pub with_close : ℕ → ItemRow → ItemRow
with_close moment row =
    if is_due moment row.item.terms
    then with_terms (record row.item.terms { state = closed_state (close_sells row.item.terms.leader row.item.terms.met); closed = Some row.item.terms.end }) row
    else row

-- the item of that number is settled
abbrev pub with_settlement : ℕ → ItemRow → ItemRow
with_settlement i row = if is_item i row then with_terms (record row.item.terms { state = Settled }) row else row

-- questions go by item, asker and number
abbrev pub question_key : Question → Key
question_key q = record { first = q.item; second = q.asker; third = q.number }

-- the question of that key is answered
abbrev pub with_answer : ℕ → ℕ → ℕ → List ℕ → Question → Question
with_answer i asker number text q = if is_question i asker number q then record q { answer = Some text } else q

-- what bidding on a new item opens with
abbrev pub new_opening : NewItem → Opening
new_opening new = record { start = new.start; reserve = new.reserve }

-- the row of a new item. Where nobody has bid no band table matters
abbrev pub new_item : ℕ → NewItem → ItemRow
new_item number new = record {
  item = record {
    terms = record {
      item = number;
      seller = new.seller;
      category = new.category;
      start = new.start;
      buy_now = new.buy_now;
      end = new.end;
      state = Open;
      closed = None;
      price = new.start;
      leader = None;
      count = 0;
      met = met_by new.reserve None;
    };
    lot = new.lot.now;
    title = new.title.now;
    text = new.text.now;
  };
  standing = standing_of [] (new_opening new) [];
}

-- the tables after a change
unfoldable pub changed : Tables → Change → Tables
changed t (Register moment name) = record t {
  clock = moment;
  members = t.members ++ record { member = length t.members + 1; name = name.now } ∷ [];
}
changed t (AddCategory moment name) = record t {
  clock = moment;
  categories = t.categories ++ record { category = length t.categories + 1; name = name.now } ∷ [];
}
changed t (Listed moment item) = record t {
  clock = moment;
  items = t.items ++ new_item (length t.items + 1) item ∷ [];
}
changed t (Bid moment item placed standing) = record t {
  clock = moment;
  items = map (with_standing item standing) t.items;
  bids = put_by bid_key (record { item = item; bid = placed }) t.bids;
}
changed t (Buy moment item buyer price) = record t { clock = moment; items = map (with_purchase item buyer price moment) t.items }
changed t (Close moment) = record t { clock = moment; items = map (with_close moment) t.items }
changed t (Settle moment item) = record t { clock = moment; items = map (with_settlement item) t.items }
changed t (Watch member item) = record t {
  watches = put_by watch_key (record { member = member; item = item }) (unwatched member item t.watches);
}
changed t (Unwatch member item) = record t { watches = unwatched member item t.watches }
changed t (Ask item asker number text) = record t {
  questions = put_by question_key (record { item = item; asker = asker; number = number; text = text.now; answer = None }) t.questions;
}
changed t (Answer moment item asker number text) = record t {
  clock = moment;
  questions = map (with_answer item asker number text.now) t.questions;
}
changed t (Feedback moment item from to rating text) = record t {
  clock = moment;
  feedback = put_by feedback_key (record { item = item; from = from; to = to; rating = rating; text = text.now }) t.feedback;
}
changed t (SetBands moment bands) = record t {
  clock = moment;
  editions = t.editions ++ record { edition = length t.editions + 2; first = length t.items + 1; bands = bands.now } ∷ [];
}
