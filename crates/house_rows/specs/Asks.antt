-- What a keep may ask of a change: that it fits the tables, each row of which fits. That its new key is free the keep finds out.
use Rattle.std.specs.Prelude.{◌≡◌, ◌≢◌, ◌<◌, ◌≤◌, ◌+◌, ◌⊎◌, ◌==◌, ◌&&◌, not, ℕ, List, length, true, false, IfSome, is_some, Some, None}
use Rattle.std.specs.List.{list_any}
use Rattle.steps.specs.Table.{Band, IsBandTable}
use Rattle.proxy.specs.declared.bid.Bid as bid
use Rattle.proxy.specs.Accepted.{AreAccepted}
use Rattle.proxy.specs.Bids.{one_more, standing_of}
use Rattle.proxy.specs.Kept.{Kept}
use Rattle.house_rows.specs.declared.change.Change.{Change}
use Rattle.house_rows.specs.declared.change.NewItem.{NewItem}
use Rattle.house_rows.specs.declared.change.Change.TheVariants.{Register, AddCategory, List as Listed, Bid, Buy, Close, Settle, Watch, Unwatch, Ask, Answer, Feedback, SetBands}
use Rattle.house_rows.specs.declared.state.State.TheVariants.{Open, Sold}
use Rattle.house_rows.specs.declared.talk.Question.{Question}
use Rattle.house_rows.specs.Fits.{IsMoment, IsWithin, ReserveFits}
use Rattle.house_rows.specs.Found.{ask_count, category_at, category_named, is_given, item_with_lot, member_named, question_at, row_at}
use Rattle.house_rows.specs.History.{counted}
use Rattle.house_rows.specs.Limits.{most_cents, most_categories, most_editions, most_items, most_members, most_questions, most_watches}
use Rattle.house_rows.specs.Ratings.{other_party}
use Rattle.house_rows.specs.Tables.{ItemRow, Tables, bands_for, row_opening}
use Rattle.house_rows.specs.Verdict.{was_sold}
use Rattle.house_rows.specs.Text.{is_lot, is_text}

-- the number is that of a member that is there
abbrev pub HasMember : Tables → ℕ → Type 0
HasMember t n = IsWithin 1 (length t.members) n

-- there is such an item
abbrev pub HasItem : Tables → ℕ → Type 0
HasItem t i = (row : ItemRow) × (row_at t i ≡ Some row)

-- a new name: the moment and the name fit, and of such rows there are fewer than there may be
pub record NameFits (moment : ℕ) (name : List ℕ) (count most : ℕ) : Type 0 where
  pub moment_fits : IsMoment moment
  pub name_fits : is_text 1 40 name ≡ true
  pub room : count < most

-- a listing by a member that is there, in a category that is there: every field of it fits
pub record ListingFits (t : Tables) (moment : ℕ) (item : NewItem) : Type 0 where
  pub moment_fits : IsMoment moment
  pub seller_there : HasMember t item.seller
  pub category_there : is_some (category_at t item.category) ≡ true
  pub lot_fits : is_lot item.lot.now ≡ true
  pub title_fits : is_text 1 80 item.title.now ≡ true
  pub text_fits : is_text 0 2000 item.text.now ≡ true
  pub start_fits : IsWithin 1 most_cents item.start
  pub buy_now_fits : IfSome item.buy_now (λ amount. IsWithin item.start most_cents amount)
  pub end_fits : IsMoment item.end
  pub reserve_fits : ReserveFits item.start item.buy_now item.reserve
  pub room : length t.items < most_items

-- a bid on another member's open item, one that is accepted over the item's standing, with the standing after it
pub record BidFits (t : Tables) (moment item : ℕ) (placed : bid.Bid) (standing : Kept) : Type 0 where
  pub moment_fits : IsMoment moment
  pub row : ItemRow
  pub row_there : row_at t item ≡ Some row
  pub is_open : row.item.terms.state ≡ Open
  pub bidder_there : HasMember t placed.member
  pub apart : placed.member ≢ row.item.terms.seller
  pub maximum_fits : placed.maximum ≤ most_cents
  -- some bids of which the row keeps the standing, whichever they are
  pub bids : List bid.Bid
  pub is_consistent : row.standing ≡ standing_of (bands_for t item) (row_opening row) bids
  pub accepted : AreAccepted (bands_for t item) (row_opening row) (one_more bids placed.member placed.maximum)
  pub numbered : placed.no ≡ length bids + 1
  pub is_consistent_after : standing ≡ standing_of (bands_for t item) (row_opening row) (one_more bids placed.member placed.maximum)

-- a purchase of another member's open item that has a buy-now price and no bid, at that price
pub record PurchaseFits (t : Tables) (moment item buyer price : ℕ) : Type 0 where
  pub moment_fits : IsMoment moment
  pub row : ItemRow
  pub row_there : row_at t item ≡ Some row
  pub is_open : row.item.terms.state ≡ Open
  pub buyer_there : HasMember t buyer
  pub apart : buyer ≢ row.item.terms.seller
  pub no_bid : row.item.terms.count ≡ 0
  pub at_price : row.item.terms.buy_now ≡ Some price

-- the item is sold, and not settled yet
pub record SettlementFits (t : Tables) (moment item : ℕ) : Type 0 where
  pub moment_fits : IsMoment moment
  pub row : ItemRow
  pub row_there : row_at t item ≡ Some row
  pub is_sold : row.item.terms.state ≡ Sold

-- of the items that the member watches beside this one there are fewer than it may watch
pub record WatchFits (t : Tables) (member item : ℕ) : Type 0 where
  pub member_there : HasMember t member
  pub item_there : HasItem t item
  pub room : counted (λ w. (w.member == member) && not (w.item == item)) t.watches < most_watches

-- the member and the item are there, whether it watches the item or not
pub record UnwatchFits (t : Tables) (member item : ℕ) : Type 0 where
  pub member_there : HasMember t member
  pub item_there : HasItem t item

-- the question has the next number of its asker on the item, and there is room for it
pub record QuestionAsked (t : Tables) (item asker number : ℕ) (text : List ℕ) : Type 0 where
  pub item_there : HasItem t item
  pub asker_there : HasMember t asker
  pub numbered : number ≡ ask_count t asker item + 1
  pub room : ask_count t asker item < most_questions
  pub text_fits : is_text 1 500 text ≡ true

-- the question is there, and waits
pub record AnswerFits (t : Tables) (moment item asker number : ℕ) (text : List ℕ) : Type 0 where
  pub moment_fits : IsMoment moment
  pub question : Question
  pub question_there : question_at t item asker number ≡ Some question
  pub waits : question.answer ≡ None
  pub text_fits : is_text 1 500 text ≡ true

-- between the parties of a sale
pub record RatingFits (t : Tables) (moment item from to : ℕ) (text : List ℕ) : Type 0 where
  pub moment_fits : IsMoment moment
  pub row : ItemRow
  pub row_there : row_at t item ≡ Some row
  pub was_sold : was_sold row.item.terms.state ≡ true
  pub giver_there : HasMember t from
  pub is_party : (row.item.terms.seller ≡ from) ⊎ (row.item.terms.leader ≡ Some from)
  pub receiver : to ≡ other_party row.item.terms.seller row.item.terms.leader from
  pub text_fits : is_text 0 200 text ≡ true

-- a valid band table, and room for it
pub record TableFits (t : Tables) (moment : ℕ) (bands : List Band) : Type 0 where
  pub moment_fits : IsMoment moment
  pub valid : IsBandTable bands
  pub room : length t.editions + 1 < most_editions

-- the change fits the tables
abbrev pub ChangeFits : Tables → Change → Type 0
ChangeFits t (Register moment name) = NameFits moment name.now (length t.members) most_members
ChangeFits t (AddCategory moment name) = NameFits moment name.now (length t.categories) most_categories
ChangeFits t (Listed moment item) = ListingFits t moment item
ChangeFits t (Bid moment item placed standing) = BidFits t moment item placed standing
ChangeFits t (Buy moment item buyer price) = PurchaseFits t moment item buyer price
ChangeFits t (Close moment) = IsMoment moment
ChangeFits t (Settle moment item) = SettlementFits t moment item
ChangeFits t (Watch member item) = WatchFits t member item
ChangeFits t (Unwatch member item) = UnwatchFits t member item
ChangeFits t (Ask item asker number text) = QuestionAsked t item asker number text.now
ChangeFits t (Answer moment item asker number text) = AnswerFits t moment item asker number text.now
ChangeFits t (Feedback moment item from to rating text) = RatingFits t moment item from to text.now
ChangeFits t (SetBands moment bands) = TableFits t moment bands.now

-- the new key of the change is free. A watch puts a row that may be there
abbrev pub IsFree : Tables → Change → Type 0
IsFree t (Register moment name) = member_named t name.now ≡ None
IsFree t (AddCategory moment name) = category_named t name.now ≡ None
IsFree t (Listed moment item) = item_with_lot t item.seller item.lot.now ≡ None
IsFree t (Bid moment item placed standing) = list_any (λ b. (b.item == item) && (b.bid.no == placed.no)) t.bids ≡ false
IsFree t (Buy moment item buyer price) = Unit {0}
IsFree t (Close moment) = Unit {0}
IsFree t (Settle moment item) = Unit {0}
IsFree t (Watch member item) = Unit {0}
IsFree t (Unwatch member item) = Unit {0}
IsFree t (Ask item asker number text) = question_at t item asker number ≡ None
IsFree t (Answer moment item asker number text) = Unit {0}
IsFree t (Feedback moment item from to rating text) = is_given t item from ≡ false
IsFree t (SetBands moment bands) = Unit {0}
