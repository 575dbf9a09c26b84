-- The page of a read by the tables of a history is the page of the history.
use Rattle.house_rows.proofs.Numbered.{numbered}
use Rattle.house_rows.proofs.RangedTables.{every_filter}
use Rattle.house_rows.proofs.Every.{every_as}
use Rattle.house_rows.specs.declared.item.OwnReserve.{OwnReserve}
use Rattle.std.proofs.Common.{◌≡◌, ℕ, List, [], ◌∷◌, map, filter, take, length, Bool, refl, ◌∙◌, ap, sym, Option, Some, None, ◌++◌}
use Rattle.std.specs.Prelude.{is_some, option_map, ◌==◌, ◌&&◌, not, nat_le, nat_lt}
use Rattle.std.specs.List.{list_any, AllByRecursion}
use Rattle.std.proofs.lemmas.List.{length-map, take-map}
use Rattle.house_rows.specs.declared.item.Item.{Item}
use Rattle.proxy.specs.Bids.{is_leader}
use Rattle.settle.specs.Statement.{is_party}
use Rattle.settle.specs.declared.sale.Sold.{Sold}
use Rattle.house_rows.specs.declared.item.OwnBest.{OwnBest}
use Rattle.house_rows.specs.declared.item.OwnBid.{OwnBid}
use Rattle.house_rows.specs.declared.people.Category.{Category}
use Rattle.house_rows.specs.declared.query.Query.{Query}
use Rattle.house_rows.specs.declared.query.Query.TheVariants as query
use Rattle.house_rows.specs.declared.settings.Settings.{Settings}
use Rattle.house_rows.specs.declared.talk.Question.{Question}
use Rattle.house_rows.specs.Editions.{table_of}
use Rattle.house_rows.specs.Found.{all_items, own_bid, row_at, sales_in, sells, reserves_in}
use Rattle.house_rows.specs.History.{History, clock}
use Rattle.house_rows.specs.declared.item.ItemShown.{ItemShown}
use Rattle.house_rows.specs.Items.{items, items_shown, shown_at, shown_now, terms_now}
use Rattle.house_rows.specs.Limits.{most_shown}
use Rattle.house_rows.specs.Listings.{Listing, is_seller, listing_at, listings, newest_of, ReserveRow, reserve_row, reserve_rows}
use Rattle.house_rows.specs.Pages as pages
use Rattle.house_rows.specs.declared.page.Page.TheVariants as page
use Rattle.house_rows.specs.Pages.{all_sales, for_all, for_member, if_known, item_page, page_of, reserve_reported, table_page, report_reserve}
use Rattle.house_rows.specs.People.{categories, members}
use Rattle.house_rows.specs.Questions.{published, questions, waiting}
use Rattle.house_rows.specs.Tables.{ItemRow, Tables, row_now, tables_of}
use Rattle.house_rows.specs.Views.{own_watches, own_reserves}
use Rattle.house_rows.specs.Watches.{WatchRow, is_watch, watches}
use Rattle.house_rows.proofs.GoesBy.{sets_are}
use Rattle.house_rows.proofs.ItemRows.{shown_are}
use Rattle.house_rows.proofs.Passed.{item_from, shown_is}
use Rattle.house_rows.proofs.Shown.{row_found, shown_by_row, shown_row}
use Rattle.house_rows.proofs.Lists.{any_of_filtered, filter_made, filter_twice, map_same, map_twice, some_found}
use Rattle.house_rows.proofs.OwnBids.{best_is}
use Rattle.house_rows.proofs.Put.{filter_alike}
use Rattle.pages_laws.specs.ByTables.{page_by, shown_by, shown_in}

-- by the tables every item is shown as everybody sees it
pub all_shown : (settings : Settings) (h : History) → map (shown_in (tables_of settings h)) (all_items (tables_of settings h)) ≡ items_shown settings h
all_shown settings h = shown_are settings h

-- those that pass a test
those_shown : (settings : Settings) (h : History) (p : Item → Bool)
    → map (shown_in (tables_of settings h)) (filter p (all_items (tables_of settings h))) ≡ filter (λ (it : ItemShown). p it.item) (items_shown settings h)
those_shown settings h p =
    sym (filter_made (λ (it : ItemShown). p it.item) (shown_in (tables_of settings h)) (all_items (tables_of settings h))) ∙ ap (filter (λ (it : ItemShown). p it.item)) (all_shown settings h)

-- the first of them
first_shown : (settings : Settings) (h : History) (p : Item → Bool)
    → map (shown_in (tables_of settings h)) (take most_shown (filter p (all_items (tables_of settings h)))) ≡ take most_shown (filter (λ (it : ItemShown). p it.item) (items_shown settings h))
first_shown settings h p = sym (take-map (shown_in (tables_of settings h)) most_shown (filter p (all_items (tables_of settings h)))) ∙ ap (take most_shown) (those_shown settings h p)

-- what a row shows, and whether there is one
one_shown : (t : Tables) (o : Option ItemRow) → option_map (shown_in t) (option_map (λ (row : ItemRow). row.item) o) ≡ option_map (shown_row t) o
one_shown t None = refl
one_shown t (Some row) = refl

is_there : (t : Tables) (o : Option ItemRow) → is_some (option_map (λ (row : ItemRow). row.item.terms) o) ≡ is_some (option_map (shown_row t) o)
is_there t None = refl
is_there t (Some row) = refl

seller_is : (settings : Settings) (h : History) (c : ℕ) (o : Option Listing) → sells (option_map (row_now settings h) o) c ≡ is_seller o c
seller_is settings h c None = refl
seller_is settings h c (Some l) = refl

sales_are : (t : Tables) (its : List Item) → sales_in its ≡ all_sales (map (shown_in t) its)
sales_are t [] = refl
sales_are t (it ∷ its) = rw (sales_are t its) refl

own_is : (settings : Settings) (h : History) (c : ℕ) (it : Item) → own_bid (tables_of settings h) c it ≡ pages.own_bid h c it.terms
own_is settings h c it = let report : OwnBest → OwnBid = λ best. record { item = it.terms.item; leading = is_leader it.terms.leader c; maximum = best.maximum; mine = best.mine; price = it.terms.price; state = it.terms.state } in ap report (best_is settings h c it.terms.item)

bids_are : (settings : Settings) (h : History) (c : ℕ) → map (own_bid (tables_of settings h) c) (all_items (tables_of settings h)) ≡ map (λ (it : ItemShown). pages.own_bid h c it.item.terms) (items_shown settings h)
bids_are settings h c =
    map_same _ _ (all_items (tables_of settings h)) (own_is settings h c)
    ∙ sym (map_twice (shown_in (tables_of settings h)) (λ (it : ItemShown). pages.own_bid h c it.item.terms) (all_items (tables_of settings h)))
    ∙ ap (map (λ (it : ItemShown). pages.own_bid h c it.item.terms)) (all_shown settings h)

counts_are : (settings : Settings) (h : History) → length (map (row_now settings h) (listings h)) ≡ length (items_shown settings h)
unfolding items_shown
counts_are settings h = length-map (listings h) (row_now settings h) ∙ sym (length-map (listings h) (shown_now settings h))

watched_is : (h : History) (c i : ℕ) → list_any (is_watch c i) (watches h) ≡ list_any (λ (w : WatchRow). w.item == i) (own_watches h c)
unfolding own_watches
watched_is h c i = any_of_filtered (λ (w : WatchRow). w.member == c) (λ (w : WatchRow). w.item == i) (watches h)

-- what a read shows whoever may read it
house_same : (settings : Settings) (h : History) (c : ℕ) → shown_by (tables_of settings h) c query.House
    ≡ page.House (record { members = length (members h); categories = length (categories h); items = length (items_shown settings h) }) (clock h) settings.rate settings.zone
unfolding shown_by tables_of
house_same settings h c =
    ap (λ (n : ℕ). page.House (record { members = length (members h); categories = length (categories h); items = n }) (clock h) settings.rate settings.zone) (counts_are settings h)

items_in_same : (settings : Settings) (h : History) (c category from : ℕ) → shown_by (tables_of settings h) c (query.ItemsIn category from)
    ≡ if_known (list_any (λ (k : Category). k.category == category) (categories h))
    (page.Items (take most_shown (filter (λ (it : ItemShown). (it.item.terms.category == category) && nat_le from it.item.terms.item) (items_shown settings h))))
unfolding shown_by tables_of
items_in_same settings h c category from =
    ap (λ (known : Bool). if_known known (page.Items (map (shown_in (tables_of settings h)) (take most_shown (filter (λ (it : Item). (it.terms.category == category) && nat_le from it.terms.item) (all_items (tables_of settings h)))))))
    (some_found (λ (k : Category). k.category == category) (categories h))
    ∙ ap (λ (its : List ItemShown). if_known (list_any (λ (k : Category). k.category == category) (categories h)) (page.Items its))
    (first_shown settings h (λ (it : Item). (it.terms.category == category) && nat_le from it.terms.item))

item_same : (settings : Settings) (h : History) (c i : ℕ) → shown_by (tables_of settings h) c (query.Item i) ≡ item_page (shown_at (items_shown settings h) i)
unfolding shown_by tables_of
item_same settings h c i = ap item_page (one_shown (tables_of settings h) (row_at (tables_of settings h) i) ∙ sym (shown_by_row settings h i))

questions_same : (settings : Settings) (h : History) (c i from : ℕ) → shown_by (tables_of settings h) c (query.Questions i from)
    ≡ if_known (is_some (shown_at (items_shown settings h) i)) (page.Questions (take most_shown (filter (λ (q : Question). (q.item == i) && nat_le from q.asker) (published h))))
unfolding shown_by tables_of published
questions_same settings h c i from =
    ap (λ (known : Bool). if_known known (page.Questions (take most_shown (filter (λ (q : Question). (q.item == i) && nat_le from q.asker) (published h)))))
    (is_there (tables_of settings h) (row_at (tables_of settings h) i) ∙ sym (ap is_some (shown_by_row settings h i)))

bids_same : (settings : Settings) (h : History) (c from : ℕ) → shown_by (tables_of settings h) c (query.MyBids from)
    ≡ page.Bids (take most_shown (filter (λ (b : OwnBid). nat_le from b.item) (pages.own_bids h c (items_shown settings h))))
unfolding shown_by tables_of pages.own_bids
bids_same settings h c from =
    ap (λ (bs : List OwnBid). page.Bids (take most_shown (filter (λ (b : OwnBid). nat_lt 0 b.mine && nat_le from b.item) bs))) (bids_are settings h c)
    ∙ ap (λ (bs : List OwnBid). page.Bids (take most_shown bs))
    (sym (filter_twice (λ (b : OwnBid). nat_lt 0 b.mine) (λ (b : OwnBid). nat_le from b.item) (map (λ (it : ItemShown). pages.own_bid h c it.item.terms) (items_shown settings h))))

reserve_one : (settings : Settings) (h : History) (l : Listing) (o : Option ℕ) (rest : List OwnReserve) (rows : List ReserveRow)
    → shown_at (items_shown settings h) l.item ≡ Some (shown_now settings h l) → rest ≡ map (report_reserve (items_shown settings h)) rows
    → reserve_reported (terms_now settings h l) o ++ rest ≡ map (report_reserve (items_shown settings h)) (reserve_row l.item o ++ rows)
reserve_one settings h l None rest rows here same = same
reserve_one settings h l (Some r) rest rows here same = rw (here, same) refl

reserves_reported : (settings : Settings) (h : History) (ls : List Listing) → AllByRecursion (λ l. shown_at (items_shown settings h) l.item ≡ Some (shown_now settings h l)) ls
    → reserves_in (map (row_now settings h) ls) ≡ map (report_reserve (items_shown settings h)) (reserve_rows ls)
reserves_reported settings h [] all = refl
reserves_reported settings h (l ∷ ls) all = reserve_one settings h l l.reserve _ _ all.0 (reserves_reported settings h ls all.1)

each_shown : (settings : Settings) (h : History) → AllByRecursion (λ l. shown_at (items_shown settings h) l.item ≡ Some (shown_now settings h l)) (listings h)
each_shown settings h =
    every_as (λ l. listing_at (listings h) l.item ≡ Some l) (λ l. shown_at (items_shown settings h) l.item ≡ Some (shown_now settings h l)) (listings h)
    (λ l own. shown_is settings h l.item ∙ ap (item_from settings h) own) (numbered h).own

reserves_same : (settings : Settings) (h : History) (c from : ℕ) → shown_by (tables_of settings h) c (query.MyReserves from)
    ≡ page.Reserves (take most_shown (filter (λ (r : OwnReserve). nat_le from r.item) (pages.reserves_shown h c (items_shown settings h))))
unfolding shown_by tables_of pages.reserves_shown own_reserves
reserves_same settings h c from =
    ap (λ (rs : List OwnReserve). page.Reserves (take most_shown (filter (λ (r : OwnReserve). nat_le from r.item) rs)))
    (ap reserves_in (filter_made (λ (row : ItemRow). row.item.terms.seller == c) (row_now settings h) (listings h))
    ∙ reserves_reported settings h (filter (λ (l : Listing). l.seller == c) (listings h)) (every_filter _ (λ (l : Listing). l.seller == c) (listings h) (each_shown settings h)))

watches_same : (settings : Settings) (h : History) (c : ℕ) → shown_by (tables_of settings h) c query.MyWatches
    ≡ page.Items (filter (λ (it : ItemShown). list_any (λ (w : WatchRow). w.item == it.item.terms.item) (own_watches h c)) (items_shown settings h))
unfolding shown_by tables_of
watches_same settings h c =
    ap page.Items (those_shown settings h (λ (it : Item). list_any (is_watch c it.terms.item) (watches h))
    ∙ filter_alike _ _ (items_shown settings h) (λ (it : ItemShown). watched_is h c it.item.terms.item))

waiting_same : (settings : Settings) (h : History) (c : ℕ) → shown_by (tables_of settings h) c query.MyWaiting ≡ page.Questions (take most_shown (waiting h c))
unfolding shown_by tables_of waiting
waiting_same settings h c =
    ap (λ (qs : List Question). page.Questions (take most_shown qs))
    (filter_alike _ _ (questions h) (λ (q : Question). ap (λ (sells_it : Bool). not (is_some q.answer) && sells_it)
    (ap (λ (o : Option ItemRow). sells o c) (row_found settings h q.item) ∙ seller_is settings h c (listing_at (listings h) q.item))))

statement_same : (settings : Settings) (h : History) (c from to : ℕ) → shown_by (tables_of settings h) c (query.MyStatement from to)
    ≡ page.Statement c from to settings.rate (pages.sales_of (items_shown settings h) c)
unfolding shown_by tables_of
statement_same settings h c from to =
    ap (λ (sales : List Sold). page.Statement c from to settings.rate (filter (is_party c) sales)) (sales_are (tables_of settings h) (all_items (tables_of settings h)) ∙ ap all_sales (all_shown settings h))

pub page_same : (settings : Settings) (h : History) (c : ℕ) (q : Query) → page_by (tables_of settings h) c q ≡ page_of settings h c q
unfolding page_by shown_by page_of tables_of published
page_same settings h c query.House = ap (for_all (members h) c) (house_same settings h c)
page_same settings h c query.Bands = ap (λ (set : List (List (ℕ × ℕ))). for_all (members h) c (page.Bands (newest_of settings.bands set))) (sets_are h)
page_same settings h c (query.BandsOf edition) = ap (λ (set : List (List (ℕ × ℕ))). for_all (members h) c (table_page (table_of settings.bands set edition))) (sets_are h)
page_same settings h c query.Categories = refl
page_same settings h c (query.ItemsIn category from) = ap (for_all (members h) c) (items_in_same settings h c category from)
page_same settings h c (query.Item i) = ap (for_all (members h) c) (item_same settings h c i)
page_same settings h c (query.Questions i from) = ap (for_all (members h) c) (questions_same settings h c i from)
page_same settings h c (query.Member m) = refl
page_same settings h c (query.FeedbackTo m from) = refl
page_same settings h c (query.MyBids from) = ap (for_member (members h) c) (bids_same settings h c from)
page_same settings h c (query.MyReserves from) = ap (for_member (members h) c) (reserves_same settings h c from)
page_same settings h c query.MyWatches = ap (for_member (members h) c) (watches_same settings h c)
page_same settings h c (query.MyQuestions from) = refl
page_same settings h c query.MyWaiting = ap (for_member (members h) c) (waiting_same settings h c)
page_same settings h c (query.MyStatement from to) = ap (for_member (members h) c) (statement_same settings h c from to)
