-- What look-ups and lists find in the tables.
use Rattle.std.specs.Prelude.{ℕ, List, [], ◌∷◌, ◌++◌, Bool, false, not, ◌==◌, ◌&&◌, nat_le, nat_lt, filter, find, length, map, option_map, option_and_then, take, Option, Some, None, is_some}
use Rattle.std.specs.List.{list_any}
use Rattle.proxy.specs.Bids.{greatest_of, is_leader}
use Rattle.proxy.specs.Kept.{Kept}
use Rattle.settle.specs.Statement.{is_party}
use Rattle.settle.specs.declared.sale.Sold.{Sold}
use Rattle.house_rows.specs.declared.auction.Auction.{Auction}
use Rattle.house_rows.specs.declared.item.Due.{Due}
use Rattle.house_rows.specs.declared.item.Item.{Item}
use Rattle.house_rows.specs.declared.item.OwnBest.{OwnBest}
use Rattle.house_rows.specs.declared.item.OwnBid.{OwnBid}
use Rattle.house_rows.specs.declared.item.OwnReserve.{OwnReserve}
use Rattle.house_rows.specs.declared.item.Terms.{Terms}
use Rattle.house_rows.specs.declared.people.Category.{Category}
use Rattle.house_rows.specs.declared.people.Counts.{Counts}
use Rattle.house_rows.specs.declared.people.Member.{Member}
use Rattle.house_rows.specs.declared.talk.Feedback.{Feedback}
use Rattle.house_rows.specs.declared.talk.Question.{Question}
use Rattle.house_rows.specs.Text.{same_text}
use Rattle.house_rows.specs.Limits.{most_shown}
use Rattle.house_rows.specs.History.{counted}
use Rattle.house_rows.specs.Bids.{BidRow}
use Rattle.house_rows.specs.Changed.{is_item}
use Rattle.house_rows.specs.Items.{close_sells, is_due}
use Rattle.house_rows.specs.Pages.{reserve_reported, sale_of}
use Rattle.house_rows.specs.Questions.{is_question}
use Rattle.house_rows.specs.Tables.{ItemRow, Tables}
use Rattle.house_rows.specs.Watches.{is_watch}

-- how many members, categories and items there are
abbrev pub counts_of : Tables → Counts
counts_of t = record { members = length t.members; categories = length t.categories; items = length t.items }

-- the member of that name
abbrev pub member_named : Tables → List ℕ → Option Member
member_named t name = find (λ m. same_text m.name name) t.members

-- the category of that number
abbrev pub category_at : Tables → ℕ → Option Category
category_at t n = find (λ k. k.category == n) t.categories

-- the category of that name
abbrev pub category_named : Tables → List ℕ → Option Category
category_named t name = find (λ k. same_text k.name name) t.categories

-- the row of the item of that number, with the standing of its bids
abbrev pub row_at : Tables → ℕ → Option ItemRow
row_at t i = find (is_item i) t.items

-- the item of that number
abbrev pub item_at : Tables → ℕ → Option Item
item_at t i = option_map (λ (row : ItemRow). row.item) (row_at t i)

-- its terms alone, without the texts
abbrev pub terms_at : Tables → ℕ → Option Terms
terms_at t i = option_map (λ (row : ItemRow). row.item.terms) (row_at t i)

-- the standing of its bids
abbrev pub standing_at : Tables → ℕ → Option Kept
standing_at t i = option_map (λ (row : ItemRow). row.standing) (row_at t i)

-- its terms and its standing, as a bid finds them
abbrev pub auction_of : ItemRow → Auction
auction_of row = record { terms = row.item.terms; standing = row.standing }

abbrev pub auction_at : Tables → ℕ → Option Auction
auction_at t i = option_map auction_of (row_at t i)

-- the number of a seller's item with a lot
abbrev pub item_with_lot : Tables → ℕ → List ℕ → Option ℕ
item_with_lot t seller lot =
    option_map (λ (row : ItemRow). row.item.terms.item) (find (λ row. (row.item.terms.seller == seller) && same_text row.item.lot lot) t.items)

-- a member's bids on an item
abbrev pub bids_of_on : Tables → ℕ → ℕ → List BidRow
bids_of_on t member item = filter (λ b. (b.bid.member == member) && (b.item == item)) t.bids

-- the greatest maximum that a member bid on an item, or 0, and how often it bid
abbrev pub best_of : Tables → ℕ → ℕ → OwnBest
best_of t member item = record {
  maximum = greatest_of (map (λ (b : BidRow). b.bid.maximum) (bids_of_on t member item));
  mine = length (bids_of_on t member item);
}

-- whether a member watches an item
abbrev pub is_watched : Tables → ℕ → ℕ → Bool
is_watched t member item = list_any (is_watch member item) t.watches

-- how many items a member watches
abbrev pub watch_count : Tables → ℕ → ℕ
watch_count t member = counted (λ w. w.member == member) t.watches

-- how many questions an asker has on an item
abbrev pub ask_count : Tables → ℕ → ℕ → ℕ
ask_count t asker item = counted (λ q. (q.asker == asker) && (q.item == item)) t.questions

-- the question of that item, asker and number
abbrev pub question_at : Tables → ℕ → ℕ → ℕ → Option Question
question_at t item asker number = find (is_question item asker number) t.questions

-- whether a party has given feedback on an item
abbrev pub is_given : Tables → ℕ → ℕ → Bool
is_given t item giver = list_any (λ f. (f.item == item) && (f.from == giver)) t.feedback

-- how many items a close at a moment would leave sold, and how many unsold
abbrev pub due_at : Tables → ℕ → Due
due_at t moment = record {
  sold = counted (λ row. is_due moment row.item.terms && close_sells row.item.terms.leader row.item.terms.met) t.items;
  unsold = counted (λ row. is_due moment row.item.terms && not (close_sells row.item.terms.leader row.item.terms.met)) t.items;
}

-- every item, by number
abbrev pub all_items : Tables → List Item
all_items t = map (λ (row : ItemRow). row.item) t.items

-- the items of a category, from a number on; at most fifty
abbrev pub items_in : Tables → ℕ → ℕ → List Item
items_in t category from = take most_shown (filter (λ it. (it.terms.category == category) && nat_le from it.terms.item) (all_items t))

-- what a member has bid on an item, with the price and the state of the item
abbrev pub own_bid : Tables → ℕ → Item → OwnBid
own_bid t member it = record {
  item = it.terms.item;
  leading = is_leader it.terms.leader member;
  maximum = (best_of t member it.terms.item).maximum;
  mine = (best_of t member it.terms.item).mine;
  price = it.terms.price;
  state = it.terms.state;
}

-- the items on which a member has bid, from a number on; at most fifty
abbrev pub own_bids : Tables → ℕ → ℕ → List OwnBid
own_bids t member from = take most_shown (filter (λ b. nat_lt 0 b.mine && nat_le from b.item) (map (own_bid t member) (all_items t)))

-- the reserve of the item of that number, if it has one
abbrev pub reserve_at : Tables → ℕ → Option ℕ
reserve_at t i = option_and_then (λ (row : ItemRow). row.standing.reserve) (row_at t i)

-- the reserve on an item, with whether it is met, if there is one
abbrev pub own_reserve : ItemRow → List OwnReserve
own_reserve row = reserve_reported row.item.terms row.standing.reserve

-- the reserves on items, by number
abbrev pub reserves_in : List ItemRow → List OwnReserve
reserves_in [] = []
reserves_in (row ∷ rows) = own_reserve row ++ reserves_in rows

-- a member's reserves on what it sells, from an item on; at most fifty
abbrev pub own_reserves : Tables → ℕ → ℕ → List OwnReserve
own_reserves t member from =
    take most_shown (filter (λ r. nat_le from r.item) (reserves_in (filter (λ row. row.item.terms.seller == member) t.items)))

-- the published questions: those that were answered
abbrev pub all_published : Tables → List Question
all_published t = filter (λ q. is_some q.answer) t.questions

-- the published questions on an item, from an asker on; at most fifty
abbrev pub published_on : Tables → ℕ → ℕ → List Question
published_on t item from = take most_shown (filter (λ q. (q.item == item) && nat_le from q.asker) (all_published t))

-- a member's own questions, from an item on; at most fifty
abbrev pub questions_of : Tables → ℕ → ℕ → List Question
questions_of t member from = take most_shown (filter (λ q. (q.asker == member) && nat_le from q.item) t.questions)

-- the feedback to a member, from an item on; at most fifty
abbrev pub feedback_to : Tables → ℕ → ℕ → List Feedback
feedback_to t member from = take most_shown (filter (λ f. (f.to == member) && nat_le from f.item) t.feedback)

-- the items that a member watches
abbrev pub items_watched : Tables → ℕ → List Item
items_watched t member = filter (λ it. is_watched t member it.terms.item) (all_items t)

-- whether a member sells the item of a row
abbrev pub sells : Option ItemRow → ℕ → Bool
sells None member = false
sells (Some row) member = row.item.terms.seller == member

-- the questions that wait for a member's answer
abbrev pub waiting_for : Tables → ℕ → List Question
waiting_for t member = filter (λ q. not (is_some q.answer) && sells (row_at t q.item) member) t.questions

-- the first fifty of them
abbrev pub first_waiting : Tables → ℕ → List Question
first_waiting t member = take most_shown (waiting_for t member)

-- the sales of those items that were sold
abbrev pub sales_in : List Item → List Sold
sales_in [] = []
sales_in (it ∷ its) = sale_of it.terms ++ sales_in its

-- the sales to which a member is a party
abbrev pub sales_to : Tables → ℕ → List Sold
sales_to t member = filter (is_party member) (sales_in (all_items t))
