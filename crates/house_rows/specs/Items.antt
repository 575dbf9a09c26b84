-- What became of items, and items as everybody sees them.
use Rattle.std.specs.Prelude.{if◌then◌else◌, ℕ, List, [], ◌∷◌, ◌++◌, Bool, true, false, not, ◌==◌, ◌&&◌, nat_le, map, find, Option, Some, None, is_some, option_map, unwrap_or, length}
use Rattle.std.specs.List.{list_any}
use Rattle.steps.specs.Table.{Band, over}
use Rattle.proxy.specs.Bids.{leader, met, price}
use Rattle.house_rows.specs.declared.command.Command.{Command}
use Rattle.house_rows.specs.declared.command.Command.TheVariants.{Buy, Close, Settle}
use Rattle.house_rows.specs.declared.item.Item.{Item}
use Rattle.house_rows.specs.declared.item.ItemShown.{ItemShown}
use Rattle.house_rows.specs.declared.item.Terms.{Terms}
use Rattle.house_rows.specs.declared.settings.Settings.{Settings}
use Rattle.house_rows.specs.declared.state.State.{State}
use Rattle.house_rows.specs.declared.state.State.TheVariants.{Open, Sold, Unsold, Settled}
use Rattle.house_rows.specs.History.{History}
use Rattle.house_rows.specs.Listings.{Listing, bands_by, edition_by, listed_opening, listings}
use Rattle.house_rows.specs.Bids.{bids_on}

-- who bought an item at once, and when
pub record Purchase : Type 0 where
  pub item : ℕ
  pub buyer : ℕ
  pub moment : ℕ

-- the purchase that a command makes, if it is one
abbrev pub purchase_in : ℕ → ℕ → Command → List Purchase
purchase_in moment caller (Buy i) = record { item = i; buyer = caller; moment = moment } ∷ []
purchase_in moment caller _ = []

-- all purchases, in order
abbrev pub purchases : History → List Purchase
purchases [] = []
purchases (e ∷ h) = purchases h ++ purchase_in e.moment e.caller e.command

-- the purchase of an item, if it was bought at once
abbrev pub purchase_of : History → ℕ → Option Purchase
purchase_of h i = find (λ p. p.item == i) (purchases h)

-- the moment of a close, and how many items were listed before it
pub record Closing : Type 0 where
  pub moment : ℕ
  pub listed : ℕ

-- the close that a command makes, if it is one
abbrev pub closing_in : ℕ → ℕ → Command → List Closing
closing_in moment listed Close = record { moment = moment; listed = listed } ∷ []
closing_in moment listed _ = []

-- all closes, in order
abbrev pub closings : History → List Closing
closings [] = []
closings (e ∷ h) = closings h ++ closing_in e.moment (length (listings h)) e.command

-- the item that a command settles, if it settles one
abbrev pub settlement_in : Command → List ℕ
settlement_in (Settle i) = i ∷ []
settlement_in _ = []

-- the items whose sales were settled
abbrev pub settlements : History → List ℕ
settlements [] = []
settlements (e ∷ h) = settlements h ++ settlement_in e.command

-- whether an item was bought at once
abbrev pub is_bought : History → ℕ → Bool
is_bought h i = is_some (purchase_of h i)

-- a close takes what was listed before it, has its end at or before the close's moment, and was not bought
abbrev pub is_taken : History → Listing → Bool
is_taken h l = not (is_bought h l.item) && list_any (λ c. nat_le l.item c.listed && nat_le l.end c.moment) (closings h)

-- whether the sale of an item was settled
abbrev pub is_settled : History → ℕ → Bool
is_settled h i = list_any (λ s. s == i) (settlements h)

-- the leader: the buyer of what was bought, else whoever leads by its bids
abbrev pub leader_from : Option Purchase → Option ℕ → Option ℕ
leader_from None by_bids = by_bids
leader_from (Some p) by_bids = Some p.buyer

-- the leader of a listed item after a history
abbrev pub leader_of : History → Listing → Option ℕ
leader_of h l = leader_from (purchase_of h l.item) (leader (bids_on h l.item))

-- the price: the buy-now price of what was bought, else that of its bids
abbrev pub price_of : List Band → History → Listing → ℕ
price_of bands h l = if is_bought h l.item then unwrap_or l.buy_now 0 else price bands (listed_opening l) (bids_on h l.item)

-- whether the reserve is met, if there is one: what was bought at once meets it
abbrev pub met_from : Bool → Option ℕ → Option Bool → Option Bool
met_from bought reserve by_bids = if bought then option_map (λ r. true) reserve else by_bids

-- whether the reserve of a listed item is met after a history
abbrev pub met_of : History → Listing → Option Bool
met_of h l = met_from (is_bought h l.item) l.reserve (met (listed_opening l) (bids_on h l.item))

-- whether a close sells an item, by its leader and its reserve: somebody leads, and the reserve isn't unmet
abbrev pub close_sells : Option ℕ → Option Bool → Bool
close_sells leader met = is_some leader && unwrap_or met true

-- what a close leaves an item
abbrev pub closed_state : Bool → State
closed_state sells = if sells then Sold else Unsold

-- the state by what became of an item; the latest counts: settled, bought, taken by a close
abbrev pub state_from : Bool → Bool → Bool → Bool → State
state_from bought taken sells settled =
    if settled then Settled else (if bought then Sold else (if taken then closed_state sells else Open))

-- the state of a listed item after a history
abbrev pub state_of : History → Listing → State
state_of h l = state_from (is_bought h l.item) (is_taken h l) (close_sells (leader_of h l) (met_of h l)) (is_settled h l.item)

-- the closing moment: that of the purchase, or the end of what was taken
abbrev pub closed_from : Option Purchase → Bool → ℕ → Option ℕ
closed_from None taken end = if taken then Some end else None
closed_from (Some p) taken end = Some p.moment

-- the closing moment of a listed item, if it is closed
abbrev pub closed_at : History → Listing → Option ℕ
closed_at h l = closed_from (purchase_of h l.item) (is_taken h l) l.end

-- the terms of a listed item after a history
abbrev pub terms_now : Settings → History → Listing → Terms
terms_now settings h l = record {
  item = l.item;
  seller = l.seller;
  category = l.category;
  start = l.start;
  buy_now = l.buy_now;
  end = l.end;
  state = state_of h l;
  closed = closed_at h l;
  price = price_of (bands_by settings l) h l;
  leader = leader_of h l;
  count = length (bids_on h l.item);
  met = met_of h l;
}

-- a listed item after a history, with its texts as they were listed
abbrev pub item_now : Settings → History → Listing → Item
item_now settings h l = record { terms = terms_now settings h l; lot = l.lot; title = l.title; text = l.text }

-- every item, by number
unfoldable pub items : Settings → History → List Item
items settings h = map (item_now settings h) (listings h)

-- whether a state is that of an open item
abbrev pub is_open : State → Bool
is_open Open = true
is_open _ = false

-- whether a close at the moment takes it
abbrev pub is_due : ℕ → Terms → Bool
is_due moment terms = is_open terms.state && nat_le terms.end moment

-- the floor, which is shown while the item is open: the start with no bid, else one step over the price
abbrev pub floor_of : List Band → Terms → Option ℕ
floor_of bands terms =
    if is_open terms.state then Some (if terms.count == 0 then terms.start else over bands terms.price) else None

-- an item as pages show it, by an edition and its band table
abbrev pub shown : ℕ → List Band → Item → ItemShown
shown edition bands it = record { item = it; edition = edition; floor = floor_of bands it.terms }

-- a listed item as pages show it, by the edition of its listing
abbrev pub shown_now : Settings → History → Listing → ItemShown
shown_now settings h l = shown (edition_by l) (bands_by settings l) (item_now settings h l)

-- every item as pages show it, by number
unfoldable pub items_shown : Settings → History → List ItemShown
items_shown settings h = map (shown_now settings h) (listings h)

-- the item of that number, if there is one
abbrev pub shown_at : List ItemShown → ℕ → Option ItemShown
shown_at its i = find (λ it. it.item.terms.item == i) its
