-- The page of a read by the tables, row by row as page_of says it of a history.
use Rattle.std.specs.Prelude.{if◌then◌else◌, ◌≡◌, ℕ, map, option_map, take, length, Bool, true, false, not, ◌&&◌, ◌||◌, nat_le, is_some}
use Rattle.house_rows.specs.declared.item.Item.{Item}
use Rattle.house_rows.specs.declared.item.ItemShown.{ItemShown}
use Rattle.house_rows.specs.declared.page.Page.{Page}
use Rattle.house_rows.specs.declared.page.Page.TheVariants.{Refused, House, Bands, Categories, Items, Questions, Feedbacks, Bids, Reserves, Statement}
use Rattle.house_rows.specs.declared.people.Member.{Member}
use Rattle.house_rows.specs.declared.query.Query.{Query}
use Rattle.house_rows.specs.declared.query.Query.TheVariants as query
use Rattle.house_rows.specs.declared.refusal.Refusal.TheVariants.{NoCaller}
use Rattle.house_rows.specs.Editions.{BandTables, bands_in, bands_of, edition_in, newest_bands_in}
use Rattle.house_rows.specs.Found.{category_at, counts_of, feedback_to, item_at, items_in, items_watched, own_bids, published_on, questions_of, sales_to, terms_at, waiting_for, own_reserves}
use Rattle.house_rows.specs.Items.{shown}
use Rattle.house_rows.specs.Limits.{most_shown}
use Rattle.house_rows.specs.Pages.{if_known, item_page, member_at, member_page, ratings_of, table_page}
use Rattle.house_rows.specs.Tables.{Tables, band_tables}

-- a page of the caller's own, which the house has none of
abbrev pub is_own : Query → Bool
is_own (query.MyBids from) = true
is_own (query.MyReserves from) = true
is_own query.MyWatches = true
is_own (query.MyQuestions from) = true
is_own query.MyWaiting = true
is_own (query.MyStatement from to) = true
is_own _ = false

-- whether a caller may read, by how many members there are
abbrev pub may_read : ℕ → ℕ → Bool → Bool
may_read members c own = (not own || nat_le 1 c) && nat_le c members

-- an item by the edition and the band table that it has
abbrev pub shown_among : BandTables → Item → ItemShown
shown_among b it = shown (edition_in b it.terms.item) (bands_in b it.terms.item) it

abbrev pub shown_in : Tables → Item → ItemShown
shown_in t it = shown_among (band_tables t) it

-- what a read shows whoever may read it
unfoldable pub shown_by : Tables → ℕ → Query → Page
shown_by t c query.House = House (counts_of t) t.clock t.settings.rate t.settings.zone
shown_by t c query.Bands = Bands (newest_bands_in (band_tables t))
shown_by t c (query.BandsOf edition) = table_page (bands_of (band_tables t) edition)
shown_by t c query.Categories = Categories t.categories
shown_by t c (query.ItemsIn category from) = if_known (is_some (category_at t category)) (Items (map (shown_in t) (items_in t category from)))
shown_by t c (query.Item i) = item_page (option_map (shown_in t) (item_at t i))
shown_by t c (query.Questions i from) = if_known (is_some (terms_at t i)) (Questions (published_on t i from))
shown_by t c (query.Member m) = member_page (member_at t.members m) (ratings_of t.feedback m)
shown_by t c (query.FeedbackTo m from) = if_known (is_some (member_at t.members m)) (Feedbacks (feedback_to t m from))
shown_by t c (query.MyBids from) = Bids (own_bids t c from)
shown_by t c (query.MyReserves from) = Reserves (own_reserves t c from)
shown_by t c query.MyWatches = Items (map (shown_in t) (items_watched t c))
shown_by t c (query.MyQuestions from) = Questions (questions_of t c from)
shown_by t c query.MyWaiting = Questions (take most_shown (waiting_for t c))
shown_by t c (query.MyStatement from to) = Statement c from to t.settings.rate (sales_to t c)

-- the page of a read
unfoldable pub page_by : Tables → ℕ → Query → Page
unfolding shown_by
page_by t c q = if may_read (length t.members) c (is_own q) then shown_by t c q else Refused NoCaller
