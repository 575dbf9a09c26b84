-- The result of an accepted command.
use Rattle.std.specs.Prelude.{ℕ, ◌+◌, ◌-◌, true, false, not, ◌&&◌, length, Option, Some, None, unwrap_or}
use Rattle.settle.specs.Fee.{fee_of}
use Rattle.house_rows.specs.declared.command.Command.{Command}
use Rattle.house_rows.specs.declared.command.Command.TheVariants.{Register, AddCategory, List as Listed, Bid, Buy, Close, Settle, Watch, Unwatch, Ask, Answer, Feedback, SetBands}
use Rattle.house_rows.specs.declared.item.ItemShown.{ItemShown}
use Rattle.house_rows.specs.declared.rating.Rating.{Rating}
use Rattle.house_rows.specs.declared.settings.Settings.{Settings}
use Rattle.house_rows.specs.declared.command_result.CommandResult.{CommandResult}
use Rattle.house_rows.specs.declared.command_result.CommandResult.TheVariants.{Registered, Added, Listing, Placed, Bought, Closed, Settlement, Watched, Question, Rated, Edition, Nothing}
use Rattle.house_rows.specs.History.{History, counted}
use Rattle.house_rows.specs.Listings.{tables_set}
use Rattle.house_rows.specs.People.{categories, members}
use Rattle.house_rows.specs.Items.{close_sells, is_due, items_shown, shown_at}
use Rattle.house_rows.specs.Questions.{ask_count}
use Rattle.house_rows.specs.Ratings.{other_party}
use Rattle.house_rows.specs.Views.{own_questions}

-- of a bid: how many bids the item has, its floor, its leader and its price, as they now are
abbrev pub placed_result : Option ItemShown → CommandResult
placed_result None = Nothing
placed_result (Some it) = Placed it.item.terms.count (unwrap_or it.floor 0) it.item.terms.leader it.item.terms.price

-- of a purchase: the item and its price
abbrev pub bought_result : Option ItemShown → CommandResult
bought_result None = Nothing
bought_result (Some it) = Bought it.item.terms.item it.item.terms.price

-- of a settlement: the fee, the item, what is left to the seller, and the price
abbrev pub settled_result : ℕ → Option ItemShown → CommandResult
settled_result rate None = Nothing
settled_result rate (Some it) =
    Settlement (fee_of it.item.terms.price rate) it.item.terms.item (it.item.terms.price - fee_of it.item.terms.price rate) it.item.terms.price

-- of feedback: the item, the rating, and to whom it goes
abbrev pub rated_result : ℕ → Option Rating → Option ItemShown → CommandResult
rated_result c (Some rating) (Some it) = Rated it.item.terms.item rating (other_party it.item.terms.seller it.item.terms.leader c)
rated_result c _ _ = Nothing

-- the result of an accepted command, over the history with its entry and the history before it
abbrev pub result_of : Settings → History → ℕ → ℕ → Command → History → CommandResult
result_of settings after moment caller (Register name) before = Registered (length (members after))
result_of settings after moment caller (AddCategory name) before = Added (length (categories after))
result_of settings after moment caller (Listed category lot title text start buy_now end reserve) before = Listing (length (items_shown settings after))
result_of settings after moment caller (Bid i maximum) before = placed_result (shown_at (items_shown settings after) i)
result_of settings after moment caller (Buy i) before = bought_result (shown_at (items_shown settings after) i)
result_of settings after moment caller Close before = Closed
    (counted (λ it. is_due moment it.item.terms && close_sells it.item.terms.leader it.item.terms.met) (items_shown settings before))
    (counted (λ it. is_due moment it.item.terms && not (close_sells it.item.terms.leader it.item.terms.met)) (items_shown settings before))
result_of settings after moment caller (Settle i) before = settled_result settings.rate (shown_at (items_shown settings after) i)
result_of settings after moment caller (Watch i) before = Watched i true
result_of settings after moment caller (Unwatch i) before = Watched i false
result_of settings after moment caller (Ask i text) before = Question caller i (ask_count (own_questions after caller) caller i)
result_of settings after moment caller (Answer i asker number text) before = Question asker i number
result_of settings after moment caller (Feedback i rating text) before = rated_result caller rating (shown_at (items_shown settings after) i)
result_of settings after moment caller (SetBands bands) before = Edition (length (tables_set after) + 1)
