-- The tree of everything that is shown. Keys are in byte order.
use Rattle.std.specs.Prelude.{ℕ, ℤ, pos, negsuc, List, [], ◌∷◌, Bool, if◌then◌else◌, codes, Option, Some, None}
use Rattle.steps.specs.Table.{Band}
use Rattle.serde_json.specs.Data.{Data, boolean, string}
use Rattle.settle.specs.Calendar.{day_text}
use Rattle.settle.specs.Statement.{Account, statement_of, totals_of}
use Rattle.settle.specs.declared.line.Line.{Line}
use Rattle.settle.specs.declared.totals.Totals.{Totals}
use Rattle.settle.specs.declared.zone.Zone.{Zone}
use Rattle.house_rows.specs.declared.fault.KeepFault.{KeepFault}
use Rattle.house_rows.specs.declared.fault.KeepFault.TheVariants.{Memory, Store, Damaged}
use Rattle.house_rows.specs.declared.item.ItemShown.{ItemShown}
use Rattle.house_rows.specs.declared.item.OwnBid.{OwnBid}
use Rattle.house_rows.specs.declared.item.OwnReserve.{OwnReserve}
use Rattle.house_rows.specs.declared.page.Page.{Page}
use Rattle.house_rows.specs.declared.page.Page.TheVariants as page
use Rattle.house_rows.specs.declared.people.Category.{Category}
use Rattle.house_rows.specs.declared.people.Counts.{Counts}
use Rattle.house_rows.specs.declared.people.Member.{Member}
use Rattle.house_rows.specs.declared.people.Ratings.{Ratings}
use Rattle.house_rows.specs.declared.rating.Rating.{Rating}
use Rattle.house_rows.specs.declared.rating.Rating.TheVariants.{Minus, Zero, Plus}
use Rattle.house_rows.specs.declared.refusal.Refusal.{Refusal}
use Rattle.house_rows.specs.declared.refusal.Refusal.TheVariants.{Low}
use Rattle.house_rows.specs.declared.talk.Feedback.{Feedback}
use Rattle.house_rows.specs.declared.talk.Question.{Question}
use Rattle.house_rows.specs.declared.command_result.CommandResult.{CommandResult}
use Rattle.house_rows.specs.declared.command_result.CommandResult.TheVariants as report
use Rattle.house_rows.specs.Names.{refusal_name, refusal_number, state_name}
use Rattle.pages_json.specs.Words.{array_of, boolean_or_null, integer, object_of, text_or_null, whole, whole_or_null}

-- ---- entries

-- the members of an item with its edition and its floor
abbrev pub item_members : ItemShown → List (List ℕ × Data)
item_members it =
    (codes "buy_now", whole_or_null it.item.terms.buy_now)
    ∷ (codes "category", whole it.item.terms.category)
    ∷ (codes "closed", whole_or_null it.item.terms.closed)
    ∷ (codes "count", whole it.item.terms.count)
    ∷ (codes "edition", whole it.edition)
    ∷ (codes "end", whole it.item.terms.end)
    ∷ (codes "floor", whole_or_null it.floor)
    ∷ (codes "item", whole it.item.terms.item)
    ∷ (codes "leader", whole_or_null it.item.terms.leader)
    ∷ (codes "lot", string it.item.lot)
    ∷ (codes "met", boolean_or_null it.item.terms.met)
    ∷ (codes "price", whole it.item.terms.price)
    ∷ (codes "seller", whole it.item.terms.seller)
    ∷ (codes "start", whole it.item.terms.start)
    ∷ (codes "state", string (state_name it.item.terms.state))
    ∷ (codes "text", string it.item.text)
    ∷ (codes "title", string it.item.title) ∷ []

abbrev pub item_tree : ItemShown → Data
item_tree it = object_of (item_members it)

-- a question, whose answer is null while it waits
abbrev pub question_tree : Question → Data
question_tree q = object_of (
    (codes "answer", text_or_null q.answer)
    ∷ (codes "asker", whole q.asker)
    ∷ (codes "item", whole q.item)
    ∷ (codes "number", whole q.number)
    ∷ (codes "text", string q.text) ∷ []
    )

abbrev pub rating_value : Rating → ℤ
rating_value Minus = negsuc 0
rating_value Zero = pos 0
rating_value Plus = pos 1

abbrev pub feedback_tree : Feedback → Data
feedback_tree f = object_of (
    (codes "from", whole f.from)
    ∷ (codes "item", whole f.item)
    ∷ (codes "rating", integer (rating_value f.rating))
    ∷ (codes "text", string f.text)
    ∷ (codes "to", whole f.to) ∷ []
    )

-- what a member has bid on an item
abbrev pub own_bid_tree : OwnBid → Data
own_bid_tree b = object_of (
    (codes "item", whole b.item)
    ∷ (codes "leading", boolean b.leading)
    ∷ (codes "maximum", whole b.maximum)
    ∷ (codes "mine", whole b.mine)
    ∷ (codes "price", whole b.price)
    ∷ (codes "state", string (state_name b.state)) ∷ []
    )

-- a member's reserve on an item
abbrev pub own_reserve_tree : OwnReserve → Data
own_reserve_tree r = object_of (
    (codes "item", whole r.item)
    ∷ (codes "met", boolean r.met)
    ∷ (codes "reserve", whole r.reserve) ∷ []
    )

abbrev pub band_tree : Band → Data
band_tree band = object_of ((codes "at", whole band.0) ∷ (codes "step", whole band.1) ∷ [])

abbrev pub category_tree : Category → Data
category_tree k = object_of (
    (codes "category", whole k.category)
    ∷ (codes "name", string k.name) ∷ []
    )

-- a member as the record shows it
abbrev pub member_tree : Member → Data
member_tree m = object_of ((codes "member", whole m.member) ∷ (codes "name", string m.name) ∷ [])

-- and on its own page, with how often it was rated
abbrev pub rated_tree : Member → Ratings → Data
rated_tree m r = object_of (
    (codes "member", whole m.member)
    ∷ (codes "minus", whole r.minus)
    ∷ (codes "name", string m.name)
    ∷ (codes "plus", whole r.plus)
    ∷ (codes "zero", whole r.zero) ∷ []
    )

-- ---- statements

unfoldable pub role_of : Bool → List ℕ
role_of sell = if sell then codes "sell" else codes "buy"

-- a line, whose day and role are written so
abbrev pub line_with : List ℕ → List ℕ → Line → Data
line_with day role line = object_of (
    (codes "day", string day)
    ∷ (codes "fee", whole line.fee)
    ∷ (codes "item", whole line.item)
    ∷ (codes "net", whole line.net)
    ∷ (codes "other", whole line.other)
    ∷ (codes "price", whole line.price)
    ∷ (codes "role", string role) ∷ []
    )

abbrev pub line_tree : Line → Data
line_tree line = line_with (day_text line.day) (role_of line.sell) line

-- a statement of a member: its lines, and its totals
abbrev pub statement_from : ℕ → List Line → Totals → Data
statement_from member rows totals = object_of (
    (codes "bought", whole totals.bought)
    ∷ (codes "fees", whole totals.fees)
    ∷ (codes "lines", array_of line_tree rows)
    ∷ (codes "member", whole member)
    ∷ (codes "net", whole totals.net)
    ∷ (codes "sold", whole totals.sold) ∷ []
    )

abbrev pub statement_tree : Account → Data
statement_tree account = statement_from account.member account.rows (totals_of account.rows)

-- ---- why nothing is shown or done

-- the floor that is reported of a bid under it
abbrev pub floor_reported : Refusal → Option ℕ
floor_reported (Low floor) = Some floor
floor_reported _ = None

abbrev pub refused_with : List ℕ → ℕ → Option ℕ → Data
refused_with name number None = object_of (
    (codes "error", string name)
    ∷ (codes "number", whole number) ∷ []
    )
refused_with name number (Some floor) = object_of (
    (codes "error", string name)
    ∷ (codes "floor", whole floor)
    ∷ (codes "number", whole number) ∷ []
    )

abbrev pub refusal_tree : Refusal → Data
refusal_tree refusal = refused_with (refusal_name refusal) (refusal_number refusal) (floor_reported refusal)

abbrev pub fault_word : KeepFault → List ℕ
fault_word Memory = codes "memory"
fault_word Store = codes "store"
fault_word Damaged = codes "damaged"

abbrev pub fault_tree : KeepFault → Data
fault_tree fault = object_of ((codes "error", string (fault_word fault)) ∷ [])

-- ---- pages

abbrev pub list_tree : {A : Type 0} → List ℕ → (A → Data) → List A → Data
list_tree name tree xs = object_of ((name, array_of tree xs) ∷ [])

-- the house
abbrev pub house_tree : Counts → ℕ → ℕ → List ℕ → Data
house_tree counts clock rate zone = object_of (
    (codes "categories", whole counts.categories)
    ∷ (codes "clock", whole clock)
    ∷ (codes "items", whole counts.items)
    ∷ (codes "members", whole counts.members)
    ∷ (codes "rate", whole rate)
    ∷ (codes "zone", string zone) ∷ []
    )

-- a page; the days of a statement are those of the zone
abbrev pub page_tree : Zone → Page → Data
page_tree zone (page.Refused refusal) = refusal_tree refusal
page_tree zone (page.House counts clock rate its_zone) = house_tree counts clock rate its_zone
page_tree zone (page.Bands bands) = list_tree (codes "bands") band_tree bands
page_tree zone (page.Categories ks) = list_tree (codes "categories") category_tree ks
page_tree zone (page.Items its) = list_tree (codes "items") item_tree its
page_tree zone (page.OneItem it) = item_tree it
page_tree zone (page.Questions qs) = list_tree (codes "questions") question_tree qs
page_tree zone (page.OneMember m ratings) = rated_tree m ratings
page_tree zone (page.Feedbacks fs) = list_tree (codes "feedback") feedback_tree fs
page_tree zone (page.Bids bs) = list_tree (codes "bids") own_bid_tree bs
page_tree zone (page.Reserves rs) = list_tree (codes "reserves") own_reserve_tree rs
page_tree zone (page.Statement member from to rate sales) =
    statement_tree (statement_of sales member from to zone rate)

-- ---- the result of an accepted command

abbrev pub result_tree : CommandResult → Data
result_tree (report.Registered member) = object_of ((codes "member", whole member) ∷ [])
result_tree (report.Added category) = object_of ((codes "category", whole category) ∷ [])
result_tree (report.Listing item) = object_of ((codes "item", whole item) ∷ [])
result_tree (report.Placed count floor leader price) = object_of (
    (codes "count", whole count)
    ∷ (codes "floor", whole floor)
    ∷ (codes "leader", whole_or_null leader)
    ∷ (codes "price", whole price) ∷ []
    )
result_tree (report.Bought item price) = object_of (
    (codes "item", whole item)
    ∷ (codes "price", whole price) ∷ []
    )
result_tree (report.Closed sold unsold) = object_of (
    (codes "sold", whole sold)
    ∷ (codes "unsold", whole unsold) ∷ []
    )
result_tree (report.Settlement fee item net price) = object_of (
    (codes "fee", whole fee)
    ∷ (codes "item", whole item)
    ∷ (codes "net", whole net)
    ∷ (codes "price", whole price) ∷ []
    )
result_tree (report.Watched item watched) = object_of (
    (codes "item", whole item)
    ∷ (codes "watched", boolean watched) ∷ []
    )
result_tree (report.Question asker item number) = object_of (
    (codes "asker", whole asker)
    ∷ (codes "item", whole item)
    ∷ (codes "number", whole number) ∷ []
    )
result_tree (report.Rated item rating to) = object_of (
    (codes "item", whole item)
    ∷ (codes "rating", integer (rating_value rating))
    ∷ (codes "to", whole to) ∷ []
    )
result_tree (report.Edition edition) = object_of ((codes "edition", whole edition) ∷ [])
result_tree report.Nothing = object_of []
