-- The verdict on a command: the first rule that fails gives the refusal, and where none fails it is accepted.
use Rattle.std.specs.Prelude.{◌≡◌, ℕ, ◌+◌, List, [], ◌∷◌, ◌++◌, Bool, true, false, not, ◌==◌, ◌&&◌, ◌||◌, nat_le, nat_lt, length, Option, Some, None, is_none, unwrap_or}
use Rattle.steps.specs.Table.{Band}
use Rattle.std.specs.List.{list_any}
use Rattle.steps.specs.Valid.{is_band_table}
use Rattle.proxy.specs.Bids.{greatest, is_leader}
use Rattle.proxy.specs.Rules.{first_failing}
use Rattle.house_rows.specs.declared.command.Command.{Command}
use Rattle.house_rows.specs.declared.command.Command.TheVariants.{Register, AddCategory, List as Listed, Bid, Buy, Close, Settle, Watch, Unwatch, Ask, Answer, Feedback, SetBands}
use Rattle.house_rows.specs.declared.item.ItemShown.{ItemShown}
use Rattle.house_rows.specs.declared.item.Terms.{Terms}
use Rattle.house_rows.specs.declared.people.Category.{Category}
use Rattle.house_rows.specs.declared.people.Member.{Member}
use Rattle.house_rows.specs.declared.rating.Rating.{Rating}
use Rattle.house_rows.specs.declared.refusal.Refusal.{Refusal}
use Rattle.house_rows.specs.declared.refusal.Refusal.TheVariants.{NoCaller, HouseOnly, SellerOnly, Unknown, MomentBehind, Ended, NotOpen, OwnItem, Low, NotHigher, HasBids, NoBuyNow, LotExists, NameTaken, AlreadyAnswered, AlreadyGiven, NotParty, NotSold, Limit, Range}
use Rattle.house_rows.specs.declared.settings.Settings.{Settings}
use Rattle.house_rows.specs.declared.state.State.{State}
use Rattle.house_rows.specs.declared.state.State.TheVariants.{Sold, Settled}
use Rattle.house_rows.specs.Limits.{last_moment, most_bids, most_categories, most_cents, most_editions, most_items, most_members, most_questions, most_watches}
use Rattle.house_rows.specs.Text.{is_lot, is_text, same_text}
use Rattle.house_rows.specs.History.{History, counted, clock}
use Rattle.house_rows.specs.Listings.{tables_set}
use Rattle.house_rows.specs.People.{categories, members}
use Rattle.house_rows.specs.Bids.{bids_on}
use Rattle.house_rows.specs.Items.{is_open, items_shown, shown_at}
use Rattle.house_rows.specs.Questions.{ask_count, is_question, published, waiting}
use Rattle.house_rows.specs.Ratings.{feedback}
use Rattle.house_rows.specs.Views.{own_questions, own_watches}
use Rattle.house_rows.specs.Watches.{WatchRow}

-- a rule: whether it fails, and what is then reported
abbrev pub Rule : Type 0
Rule = Bool × Refusal

-- a command of the house alone
abbrev pub is_house_command : Command → Bool
is_house_command (Register name) = true
is_house_command (AddCategory name) = true
is_house_command Close = true
is_house_command (Settle i) = true
is_house_command (SetBands bands) = true
is_house_command _ = false

-- the rules that every command begins with
abbrev pub common_rules : ℕ → ℕ → ℕ → ℕ → Bool → List Rule
common_rules clock members moment caller of_house =
    (nat_lt last_moment moment, Range)
    ∷ (nat_lt members caller || ((caller == 0) && not of_house), NoCaller)
    ∷ (of_house && not (caller == 0), HouseOnly)
    ∷ (nat_lt moment clock, MomentBehind) ∷ []

-- of a registration, by the members that there are
abbrev pub register_rules : List ℕ → List Member → List Rule
register_rules name members =
    (not (is_text 1 40 name), Range)
    ∷ (list_any (λ m. same_text m.name name) members, NameTaken)
    ∷ (nat_le most_members (length members), Limit) ∷ []

-- of a new category, by the categories that there are
abbrev pub category_rules : List ℕ → List Category → List Rule
category_rules name categories =
    (not (is_text 1 40 name), Range)
    ∷ (list_any (λ m. same_text m.name name) categories, NameTaken)
    ∷ (nat_le most_categories (length categories), Limit) ∷ []

-- whether the amount for which an item may be bought at once is none, or one from the start up
abbrev pub is_buy_now : ℕ → Option ℕ → Bool
is_buy_now start None = true
is_buy_now start (Some amount) = nat_le start amount && nat_le amount most_cents

-- whether an amount is at most the one for which the item may be bought at once, if it may
abbrev pub is_at_most : Option ℕ → ℕ → Bool
is_at_most None amount = true
is_at_most (Some most) amount = nat_le amount most

-- whether the reserve is none, or greater than the start, and at most the buy-now price
abbrev pub is_reserve : ℕ → Option ℕ → Option ℕ → Bool
is_reserve start buy_now None = true
is_reserve start buy_now (Some amount) = nat_lt start amount && (nat_le amount most_cents && is_at_most buy_now amount)

-- whether title, text, start, buy-now price, end and reserve of a listing are in range
abbrev pub are_terms : ℕ → List ℕ → List ℕ → ℕ → Option ℕ → ℕ → Option ℕ → Bool
are_terms moment title text start buy_now end reserve =
    is_text 1 80 title && (is_text 0 2000 text && (nat_le 1 start && (nat_le start most_cents
    && (is_buy_now start buy_now && (nat_lt moment end && (nat_le end last_moment && is_reserve start buy_now reserve))))))

-- of a listing, by whether the seller has the lot, whether there is the category, and how many items there are
abbrev pub listing_rules : List ℕ → Bool → Bool → Bool → ℕ → List Rule
listing_rules lot has_lot fits has_category items =
    (not (is_lot lot), Range)
    ∷ (has_lot, LotExists)
    ∷ (not fits, Range)
    ∷ (not has_category, Unknown)
    ∷ (nat_le most_items items, Limit) ∷ []

-- the rules of an item as everybody sees it; where it doesn't exist, it is unknown
abbrev pub of_item : Option ItemShown → (ItemShown → List Rule) → List Rule
of_item None rules = (true, Unknown) ∷ []
of_item (Some it) rules = (false, Unknown) ∷ rules it

-- rules that ask for its terms alone
abbrev pub by_terms : (Terms → List Rule) → ItemShown → List Rule
by_terms rules it = rules it.item.terms

-- what is asked of others' open items
abbrev pub open_rules : ℕ → ℕ → Terms → List Rule
open_rules moment caller terms =
    (terms.seller == caller, OwnItem)
    ∷ (not (is_open terms.state), NotOpen)
    ∷ (nat_le terms.end moment, Ended) ∷ []

-- of a bid, by the caller's own greatest maximum on the item
abbrev pub bid_rules : ℕ → ℕ → ℕ → ℕ → ItemShown → List Rule
bid_rules moment caller maximum own it =
    open_rules moment caller it.item.terms ++
    ((nat_lt most_cents maximum, Range)
    ∷ (is_leader it.item.terms.leader caller && nat_le maximum own, NotHigher)
    ∷ (not (is_leader it.item.terms.leader caller) && nat_lt maximum (unwrap_or it.floor 0), Low (unwrap_or it.floor 0))
    ∷ (nat_le most_bids it.item.terms.count, Limit) ∷ [])

-- of a purchase
abbrev pub purchase_rules : ℕ → ℕ → Terms → List Rule
purchase_rules moment caller terms =
    open_rules moment caller terms ++ ((is_none terms.buy_now, NoBuyNow) ∷ (nat_lt 0 terms.count, HasBids) ∷ [])

-- sold, and not settled yet
abbrev pub is_sold : State → Bool
is_sold Sold = true
is_sold _ = false

-- sold, whether settled or not
abbrev pub was_sold : State → Bool
was_sold Sold = true
was_sold Settled = true
was_sold _ = false

-- of a settlement
abbrev pub settlement_rules : Terms → List Rule
settlement_rules terms = (not (is_sold terms.state), NotSold) ∷ []

-- of a watch, by what the caller watches
abbrev pub watch_rules : List WatchRow → Terms → List Rule
watch_rules watches terms = (nat_le most_watches (counted (λ w. not (w.item == terms.item)) watches), Limit) ∷ []

-- of a question, by how many the caller has asked on the item
abbrev pub question_rules : ℕ → ℕ → List ℕ → ℕ → Terms → List Rule
question_rules moment caller text count terms =
    open_rules moment caller terms ++ ((not (is_text 1 500 text), Range) ∷ (nat_le most_questions count, Limit) ∷ [])

-- of an answer, by whether the question waits for the caller, and whether it is published
abbrev pub answer_rules : ℕ → List ℕ → Bool → Bool → Terms → List Rule
answer_rules caller text is_waiting is_published terms =
    (not (terms.seller == caller), SellerOnly)
    ∷ (not (is_waiting || is_published), Unknown)
    ∷ (is_published, AlreadyAnswered)
    ∷ (not (is_text 1 500 text), Range) ∷ []

-- of feedback, by whether the caller has given it
abbrev pub feedback_rules : ℕ → Option Rating → List ℕ → Bool → Terms → List Rule
feedback_rules caller rating text is_given terms =
    (not (was_sold terms.state), NotSold)
    ∷ (not ((terms.seller == caller) || is_leader terms.leader caller), NotParty)
    ∷ (is_given, AlreadyGiven)
    ∷ (is_none rating || not (is_text 0 200 text), Range) ∷ []

-- of a band table, by how many editions there are
abbrev pub table_rules : List Band → ℕ → List Rule
table_rules bands editions = (not (is_band_table bands), Range) ∷ (nat_le most_editions editions, Limit) ∷ []

-- each command's own rules, by what everybody sees, what the caller has of its own and what waits for it
abbrev pub rules : Settings → History → ℕ → ℕ → Command → List Rule
rules settings h moment caller (Register name) = register_rules name (members h)
rules settings h moment caller (AddCategory name) = category_rules name (categories h)
rules settings h moment caller (Listed category lot title text start buy_now end reserve) = listing_rules lot
    (list_any (λ it. (it.item.terms.seller == caller) && same_text it.item.lot lot) (items_shown settings h))
    (are_terms moment title text start buy_now end reserve)
    (list_any (λ k. k.category == category) (categories h))
    (length (items_shown settings h))
rules settings h moment caller (Bid i maximum) =
    of_item (shown_at (items_shown settings h) i) (bid_rules moment caller maximum (greatest (bids_on h i) caller))
rules settings h moment caller (Buy i) = of_item (shown_at (items_shown settings h) i) (by_terms (purchase_rules moment caller))
rules settings h moment caller Close = []
rules settings h moment caller (Settle i) = of_item (shown_at (items_shown settings h) i) (by_terms settlement_rules)
rules settings h moment caller (Watch i) = of_item (shown_at (items_shown settings h) i) (by_terms (watch_rules (own_watches h caller)))
rules settings h moment caller (Unwatch i) = of_item (shown_at (items_shown settings h) i) (λ it. [])
rules settings h moment caller (Ask i text) =
    of_item (shown_at (items_shown settings h) i) (by_terms (question_rules moment caller text (ask_count (own_questions h caller) caller i)))
rules settings h moment caller (Answer i asker number text) =
    of_item (shown_at (items_shown settings h) i) (by_terms (answer_rules caller text
    (list_any (is_question i asker number) (waiting h caller))
    (list_any (is_question i asker number) (published h))))
rules settings h moment caller (Feedback i rating text) =
    of_item (shown_at (items_shown settings h) i) (by_terms (feedback_rules caller rating text
    (list_any (λ f. (f.item == i) && (f.from == caller)) (feedback h))))
rules settings h moment caller (SetBands bands) = table_rules bands (length (tables_set h) + 1)

-- the verdict: none where the command is accepted
unfoldable pub verdict : Settings → History → ℕ → ℕ → Command → Option Refusal
verdict settings h moment caller command = first_failing (
    common_rules (clock h) (length (members h)) moment caller (is_house_command command) ++ rules settings h moment caller command)

-- a history as the house makes it: every entry was accepted over those before it
abbrev pub IsHistory : Settings → History → Type 0
IsHistory settings [] = Unit {0}
IsHistory settings (e ∷ h) = (verdict settings h e.moment e.caller e.command ≡ None) × IsHistory settings h
