-- What every read shows.
use Rattle.std.specs.Prelude.{if◌then◌else◌, ℕ, List, [], ◌∷◌, ◌++◌, Bool, ◌==◌, ◌&&◌, nat_le, nat_lt, filter, find, length, map, take, Option, Some, None, false, is_some, unwrap_or}
use Rattle.steps.specs.Table.{Band}
use Rattle.std.specs.List.{list_any}
use Rattle.proxy.specs.Bids.{bids_by, greatest, is_leader}
use Rattle.settle.specs.Statement.{is_party}
use Rattle.settle.specs.declared.sale.Sold.{Sold}
use Rattle.house_rows.specs.declared.item.ItemShown.{ItemShown}
use Rattle.house_rows.specs.declared.item.OwnBid.{OwnBid}
use Rattle.house_rows.specs.declared.item.OwnReserve.{OwnReserve}
use Rattle.house_rows.specs.declared.item.Terms.{Terms}
use Rattle.house_rows.specs.declared.page.Page.{Page}
use Rattle.house_rows.specs.declared.page.Page.TheVariants.{Refused, House, Bands, Categories, Items, OneItem, Questions, OneMember, Feedbacks, Bids, Reserves, Statement}
use Rattle.house_rows.specs.declared.people.Member.{Member}
use Rattle.house_rows.specs.declared.people.Ratings.{Ratings}
use Rattle.house_rows.specs.declared.query.Query.{Query}
use Rattle.house_rows.specs.declared.query.Query.TheVariants as query
use Rattle.house_rows.specs.declared.refusal.Refusal.TheVariants.{NoCaller, Unknown}
use Rattle.house_rows.specs.declared.settings.Settings.{Settings}
use Rattle.house_rows.specs.declared.talk.Feedback.{Feedback}
use Rattle.house_rows.specs.Limits.{most_shown}
use Rattle.house_rows.specs.History.{History, clock, counted}
use Rattle.house_rows.specs.Listings.{newest_of, tables_set}
use Rattle.house_rows.specs.People.{categories, members}
use Rattle.house_rows.specs.Bids.{bids_on}
use Rattle.house_rows.specs.Editions.{table_of}
use Rattle.house_rows.specs.Items.{items_shown, shown_at}
use Rattle.house_rows.specs.Questions.{published, questions, waiting}
use Rattle.house_rows.specs.Ratings.{feedback, is_minus, is_plus, is_zero}
use Rattle.house_rows.specs.Verdict.{was_sold}
use Rattle.house_rows.specs.Listings.{ReserveRow}
use Rattle.house_rows.specs.Views.{own_reserves, own_watches}

-- how often a member was rated with each rating
abbrev pub ratings_of : List Feedback → ℕ → Ratings
ratings_of feedback c = record {
  plus = counted (λ f. (f.to == c) && is_plus f.rating) feedback;
  zero = counted (λ f. (f.to == c) && is_zero f.rating) feedback;
  minus = counted (λ f. (f.to == c) && is_minus f.rating) feedback;
}

-- whether the reserve of terms is met
abbrev pub met_in : Terms → Bool
met_in terms = unwrap_or terms.met false

-- whether the reserve of an item is met
abbrev pub is_met : Option ItemShown → Bool
is_met None = false
is_met (Some it) = met_in it.item.terms

-- the reserve of an item, if it has one, with whether it is met
abbrev pub reserve_reported : Terms → Option ℕ → List OwnReserve
reserve_reported terms None = []
reserve_reported terms (Some amount) = record { item = terms.item; met = met_in terms; reserve = amount } ∷ []

-- what a member has bid on an item
abbrev pub own_bid : History → ℕ → Terms → OwnBid
own_bid h c terms = record {
  item = terms.item;
  leading = is_leader terms.leader c;
  maximum = greatest (bids_on h terms.item) c;
  mine = length (bids_by c (bids_on h terms.item));
  price = terms.price;
  state = terms.state;
}

-- the items on which a member has bid, by number
unfoldable pub own_bids : History → ℕ → List ItemShown → List OwnBid
own_bids h c its = filter (λ b. nat_lt 0 b.mine) (map (λ it. own_bid h c it.item.terms) its)

-- a reserve with whether it is met, as everybody sees of the item
abbrev pub report_reserve : List ItemShown → ReserveRow → OwnReserve
report_reserve its r = record { item = r.item; met = is_met (shown_at its r.item); reserve = r.amount }

-- a member's reserves, each with whether it is met, by item
unfoldable pub reserves_shown : History → ℕ → List ItemShown → List OwnReserve
reserves_shown h c its = map (report_reserve its) (own_reserves h c)

-- the sale of an item, if it was sold
abbrev pub sale_of : Terms → List Sold
sale_of terms =
    if was_sold terms.state
    then record { item = terms.item; seller = terms.seller; buyer = unwrap_or terms.leader 0; closed = unwrap_or terms.closed 0; price = terms.price } ∷ []
    else []

-- all sales, by item
abbrev pub all_sales : List ItemShown → List Sold
all_sales [] = []
all_sales (it ∷ its) = sale_of it.item.terms ++ all_sales its

-- the sales to which a member is a party
abbrev pub sales_of : List ItemShown → ℕ → List Sold
sales_of its c = filter (is_party c) (all_sales its)

-- a page of somebody registered, the house among them
abbrev pub for_all : List Member → ℕ → Page → Page
for_all members c page = if nat_le c (length members) then page else Refused NoCaller

-- a page of a member alone
abbrev pub for_member : List Member → ℕ → Page → Page
for_member members c page = if nat_le 1 c && nat_le c (length members) then page else Refused NoCaller

-- a page of what is known, or the refusal of what is unknown
abbrev pub if_known : Bool → Page → Page
if_known known page = if known then page else Refused Unknown

-- the page of an item, if there is one
abbrev pub item_page : Option ItemShown → Page
item_page None = Refused Unknown
item_page (Some it) = OneItem it

-- the page of a band table, if there is one
abbrev pub table_page : Option (List Band) → Page
table_page None = Refused Unknown
table_page (Some bands) = Bands bands

-- the page of a member, if there is one, with how often it was rated
abbrev pub member_page : Option Member → Ratings → Page
member_page None ratings = Refused Unknown
member_page (Some m) ratings = OneMember m ratings

-- the member of that number
abbrev pub member_at : List Member → ℕ → Option Member
member_at members c = find (λ m. m.member == c) members

-- the page of a read
unfoldable pub page_of : Settings → History → ℕ → Query → Page
page_of settings h c query.House = for_all (members h) c (House
    (record { members = length (members h); categories = length (categories h); items = length (items_shown settings h) })
    (clock h) settings.rate settings.zone)
page_of settings h c query.Bands = for_all (members h) c (Bands (newest_of settings.bands (tables_set h)))
page_of settings h c (query.BandsOf edition) = for_all (members h) c (table_page (table_of settings.bands (tables_set h) edition))
page_of settings h c query.Categories = for_all (members h) c (Categories (categories h))
page_of settings h c (query.ItemsIn category from) = for_all (members h) c (
    if_known (list_any (λ k. k.category == category) (categories h))
    (Items (take most_shown (filter (λ it. (it.item.terms.category == category) && nat_le from it.item.terms.item) (items_shown settings h)))))
page_of settings h c (query.Item i) = for_all (members h) c (item_page (shown_at (items_shown settings h) i))
page_of settings h c (query.Questions i from) = for_all (members h) c (
    if_known (is_some (shown_at (items_shown settings h) i))
    (Questions (take most_shown (filter (λ q. (q.item == i) && nat_le from q.asker) (published h)))))
page_of settings h c (query.Member m) = for_all (members h) c (member_page (member_at (members h) m) (ratings_of (feedback h) m))
page_of settings h c (query.FeedbackTo m from) = for_all (members h) c (
    if_known (is_some (member_at (members h) m))
    (Feedbacks (take most_shown (filter (λ f. (f.to == m) && nat_le from f.item) (feedback h)))))
page_of settings h c (query.MyBids from) = for_member (members h) c (
    Bids (take most_shown (filter (λ b. nat_le from b.item) (own_bids h c (items_shown settings h)))))
page_of settings h c (query.MyReserves from) = for_member (members h) c (
    Reserves (take most_shown (filter (λ r. nat_le from r.item) (reserves_shown h c (items_shown settings h)))))
page_of settings h c query.MyWatches = for_member (members h) c (
    Items (filter (λ it. list_any (λ w. w.item == it.item.terms.item) (own_watches h c)) (items_shown settings h)))
page_of settings h c (query.MyQuestions from) = for_member (members h) c (
    Questions (take most_shown (filter (λ q. (q.asker == c) && nat_le from q.item) (questions h))))
page_of settings h c query.MyWaiting = for_member (members h) c (Questions (take most_shown (waiting h c)))
page_of settings h c (query.MyStatement from to) = for_member (members h) c (
    Statement c from to settings.rate (sales_of (items_shown settings h) c))
