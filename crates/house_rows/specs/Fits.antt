-- Which rows fit: every number in its range, every text as its field takes it.
use Rattle.std.specs.Prelude.{◌≡◌, ◌≢◌, ◌≤◌, ◌<◌, ℕ, Option, true, IfSome, is_some, Some}
use Rattle.steps.specs.Table.{IsBandTable}
use Rattle.proxy.specs.Kept.{Kept}
use Rattle.house_rows.specs.declared.edition.Edition.{Edition}
use Rattle.house_rows.specs.declared.item.Item.{Item}
use Rattle.house_rows.specs.declared.item.OwnBid.{OwnBid}
use Rattle.house_rows.specs.declared.item.OwnReserve.{OwnReserve}
use Rattle.house_rows.specs.declared.item.Terms.{Terms}
use Rattle.house_rows.specs.declared.people.Category.{Category}
use Rattle.house_rows.specs.declared.people.Member.{Member}
use Rattle.house_rows.specs.declared.talk.Feedback.{Feedback}
use Rattle.house_rows.specs.declared.talk.Question.{Question}
use Rattle.house_rows.specs.Limits.{last_moment, most_bids, most_categories, most_cents, most_editions, most_items, most_members, most_questions}
use Rattle.house_rows.specs.Bids.{BidRow}
use Rattle.house_rows.specs.Text.{is_lot, is_text}
use Rattle.house_rows.specs.Verdict.{was_sold}
use Rattle.house_rows.specs.Watches.{WatchRow}

-- a number from the least to the most, both among them
abbrev pub IsWithin : ℕ → ℕ → ℕ → Type 0
IsWithin least most n = (least ≤ n) × (n ≤ most)

-- the number of a member
abbrev pub IsMember : ℕ → Type 0
IsMember n = IsWithin 1 most_members n

-- the number of an item
abbrev pub IsItem : ℕ → Type 0
IsItem n = IsWithin 1 most_items n

-- a moment
abbrev pub IsMoment : ℕ → Type 0
IsMoment n = n ≤ last_moment

-- a reserve is greater than the start, and at most the buy-now price
abbrev pub ReserveFits : ℕ → Option ℕ → Option ℕ → Type 0
ReserveFits start buy_now reserve = IfSome reserve (λ amount. (start < amount) × (amount ≤ most_cents) × IfSome buy_now (λ most. amount ≤ most))

-- a row of the members fits
pub record MemberFits (m : Member) : Type 0 where
  pub member : IsMember m.member
  pub name : is_text 1 40 m.name ≡ true

-- a row of the categories fits
pub record CategoryFits (k : Category) : Type 0 where
  pub category : IsWithin 1 most_categories k.category
  pub name : is_text 1 40 k.name ≡ true

-- what an item's row says beside its texts fits; nobody leads an item of its own
pub record TermsFit (t : Terms) : Type 0 where
  pub item : IsItem t.item
  pub seller : IsMember t.seller
  pub category : IsWithin 1 most_categories t.category
  pub start : IsWithin 1 most_cents t.start
  pub buy_now : IfSome t.buy_now (λ amount. IsWithin t.start most_cents amount)
  pub end : IsMoment t.end
  pub closed : IfSome t.closed IsMoment
  pub price : t.price ≤ most_cents
  pub leader : IfSome t.leader IsMember
  pub apart : t.leader ≢ Some t.seller
  pub count : t.count ≤ most_bids
  -- what was sold has a buyer and a closing moment
  pub sold_led : was_sold t.state ≡ true → is_some t.leader ≡ true
  pub sold_closed : was_sold t.state ≡ true → is_some t.closed ≡ true

-- an item fits, with its texts
pub record ItemFits (it : Item) : Type 0 where
  pub terms : TermsFit it.terms
  pub lot : is_lot it.lot ≡ true
  pub title : is_text 1 80 it.title ≡ true
  pub text : is_text 0 2000 it.text ≡ true

-- the standing of an item's bids
pub record StandingFits (k : Kept) : Type 0 where
  pub leader : IfSome k.leader IsMember
  pub count : k.count ≤ most_bids

-- what a member has bid on an item
pub record OwnBidFits (b : OwnBid) : Type 0 where
  pub item : IsItem b.item
  -- how many bids are its own
  pub mine : 1 ≤ b.mine

-- a reserve of a member
pub record OwnReserveFits (r : OwnReserve) : Type 0 where
  pub item : IsItem r.item

-- a question fits, and its answer where it has one
pub record QuestionFits (q : Question) : Type 0 where
  pub item : IsItem q.item
  pub asker : IsMember q.asker
  pub number : IsWithin 1 most_questions q.number
  pub text : is_text 1 500 q.text ≡ true
  pub answer : IfSome q.answer (λ text. is_text 1 500 text ≡ true)

-- a row of feedback fits
pub record FeedbackFits (f : Feedback) : Type 0 where
  pub item : IsItem f.item
  pub from : IsMember f.from
  pub to : IsMember f.to
  pub text : is_text 0 200 f.text ≡ true

-- a bid fits, with the number of its item
pub record BidRowFits (b : BidRow) : Type 0 where
  pub item : IsItem b.item
  pub member : IsMember b.bid.member
  pub maximum : b.bid.maximum ≤ most_cents
  pub number : IsWithin 1 most_bids b.bid.no

-- a row of the watches fits
pub record WatchRowFits (w : WatchRow) : Type 0 where
  pub member : IsMember w.member
  pub item : IsItem w.item

-- an edition fits: its number, and its table
pub record EditionFits (e : Edition) : Type 0 where
  pub edition : IsWithin 2 most_editions e.edition
  pub bands : IsBandTable e.bands
