-- Bids: the verdict by the tables, and the tables after them.
use Rattle.std.proofs.Common.{◌≡◌, ℕ, ◌+◌, ◌≤◌, List, [], ◌∷◌, ◌++◌, map, length, Bool, true, false, not, refl, ◌∙◌, ap, sym, arith, inl, inr, ◌⊎◌, Option, Some, None, subst}
use Rattle.std.specs.Prelude.{◌==◌, ◌&&◌, nat_le, nat_lt, option_and_then, option_map, unwrap_or}
use Rattle.std.specs.List.{AllByRecursion, list_any}
use Rattle.std.proofs.lemmas.Bool.Decides.{nat_tests}
use Rattle.std.proofs.lemmas.List.{append-nil, length-append}
use Rattle.proxy.specs.Bids.{greatest, greatest_if_any, is_leader, leader, leads, maxima, one_more, price, refusal, standing_of, top}
use Rattle.proxy.specs.Opening.{Opening}
use Rattle.proxy.specs.Kept.{Kept, opening_of}
use Rattle.proxy.specs.Rules.{first_failing}
use Rattle.proxy.specs.declared.bid.Bid as bid
use Rattle.proxy.specs.declared.bid.BidRefusal.TheVariants as no_bid
use Rattle.proxy.proofs.Leads.{leader_greatest, or_zero}
use Rattle.house_rows.specs.declared.change.Change.TheVariants as change
use Rattle.house_rows.specs.declared.command.Command.{Command}
use Rattle.house_rows.specs.declared.command.Command.TheVariants.{Register, AddCategory, List as Listing_command, Bid, Buy, Close, Settle, Watch, Unwatch, Ask, Answer, Feedback, SetBands}
use Rattle.house_rows.specs.declared.item.Terms.{Terms}
use Rattle.house_rows.specs.declared.refusal.Refusal.{Refusal}
use Rattle.house_rows.specs.declared.refusal.Refusal.TheVariants.{OwnItem, NotOpen, Ended, Range, NotHigher, Low, Limit, Unknown}
use Rattle.house_rows.specs.declared.settings.Settings.{Settings}
use Rattle.house_rows.specs.declared.state.State.{State}
use Rattle.house_rows.specs.declared.state.State.TheVariants.{Open, Sold, Unsold, Settled}
use Rattle.house_rows.specs.Asks.{BidFits}
use Rattle.house_rows.specs.Bids.{BidRow, bid_in, bid_key, bid_rows, bids_on}
use Rattle.house_rows.specs.Changed.{changed, with_standing}
use Rattle.house_rows.specs.Found.{standing_at, terms_at}
use Rattle.house_rows.specs.History.{History, clock}
use Rattle.house_rows.specs.Items.{closings, floor_of, is_bought, is_open, is_settled, is_taken, leader_of, purchase_of, shown_now, state_of, terms_now, close_sells, met_of}
use Rattle.house_rows.specs.Keeping.{IsBought, IsByBids, ItemRowFits}
use Rattle.house_rows.specs.Limits.{most_bids, most_cents}
use Rattle.house_rows.specs.Listings.{Listing, bands_by, listed_opening, listing_at, listings}
use Rattle.house_rows.specs.People.{members}
use Rattle.house_rows.specs.Questions.{questions}
use Rattle.house_rows.specs.Runs.{entry}
use Rattle.house_rows.specs.Tables.{ItemRow, Tables, bands_for, row_now, row_opening, tables_of}
use Rattle.house_rows.specs.Verdict.{IsHistory, Rule, bid_rules, common_rules, open_rules, verdict}
use Rattle.house_rows.proofs.AcceptedBids.{floor_is, more_accepted}
use Rattle.house_rows.proofs.Every.{every_as, every_put, found_is}
use Rattle.house_rows.proofs.GoesBy.{bands_kept}
use Rattle.house_rows.proofs.Numbered.{numbered}
use Rattle.house_rows.proofs.OpenItems.{not_bought, open_parts}
use Rattle.house_rows.proofs.Passed.{shown_is}
use Rattle.house_rows.proofs.Shown.{row_found}
use Rattle.house.proofs.ByTables.{caller_fits, sound_here, standing_same}
use Rattle.house.proofs.Found.{by_test, first_none, first_some}
use Rattle.house.proofs.Items.{at_floor, rows_shown}
use Rattle.house.proofs.OnItems.{item_judged, item_refused, row_there}
use Rattle.house.proofs.Rows.{apart_from, own_reported}
use Rattle.house.proofs.Taken.{found_fits, item_at_fits}
use Rattle.house.specs.ByTables.{rules_by, top_at}
use Rattle.house.specs.Decided.{IsAccepted, of_terms}
use Rattle.house.specs.Judged.{item_rules}
use Rattle.house.specs.Refused.{as_refusal}
use Rattle.house_rows.specs.Taken.{ItemFitsAt}

-- the rules of a bid up to its range, and those of the item's bids
abbrev pub first_rules : ℕ → ℕ → ℕ → Terms → List Rule
first_rules moment caller maximum terms = open_rules moment caller terms ++ (nat_lt most_cents maximum, Range) ∷ []

-- an item that isn't open gives the reason
pub unfit_item : (moment caller maximum : ℕ) (terms : Terms) (report : Refusal) → Some report ≡ first_failing (open_rules moment caller terms) → Some report ≡ first_failing (first_rules moment caller maximum terms)
unfit_item moment caller maximum terms report is =
    sym (first_some (open_rules moment caller terms) ((nat_lt most_cents maximum, Range) ∷ []) report (sym is))

amount_judged : (moment caller maximum : ℕ) (terms : Terms) (large : Bool) → nat_lt most_cents maximum ≡ large → None ≡ first_failing (open_rules moment caller terms)
    → first_failing (first_rules moment caller maximum terms) ≡ first_failing ((large, Range) ∷ [])
amount_judged moment caller maximum terms large is free =
    first_none (open_rules moment caller terms) ((nat_lt most_cents maximum, Range) ∷ []) (sym free)
    ∙ ap (λ b. first_failing ((b, Range) ∷ [])) is

-- on an open item a maximum over the limit is out of range
pub unfit_maximum : (moment caller maximum : ℕ) (terms : Terms) → ¬ (maximum ≤ most_cents) → None ≡ first_failing (open_rules moment caller terms)
    → Some Range ≡ first_failing (first_rules moment caller maximum terms)
unfit_maximum moment caller maximum terms large free =
    sym (amount_judged moment caller maximum terms true (grind (arith, nat_tests, large)) free)

-- and another one breaks none of these rules
pub fit_maximum : (moment caller maximum : ℕ) (terms : Terms) → maximum ≤ most_cents → None ≡ first_failing (open_rules moment caller terms)
    → None ≡ first_failing (first_rules moment caller maximum terms)
fit_maximum moment caller maximum terms small free =
    sym (amount_judged moment caller maximum terms false (grind (arith, nat_tests, small)) free)

abbrev later_rules : ℕ → ℕ → ℕ → Option ℕ → Terms → List Rule
later_rules caller maximum own least terms =
    (is_leader terms.leader caller && nat_le maximum own, NotHigher)
    ∷ (not (is_leader terms.leader caller) && nat_lt maximum (unwrap_or least 0), Low (unwrap_or least 0))
    ∷ (nat_le most_bids terms.count, Limit) ∷ []

abbrev all_rules : ℕ → ℕ → ℕ → ℕ → Option ℕ → Terms → List Rule
all_rules moment caller maximum own least terms = first_rules moment caller maximum terms ++ later_rules caller maximum own least terms

open_is : (state : State) → is_open state ≡ true → state ≡ Open
open_is Open is = refl
open_is Sold is = cc
open_is Unsold is = cc
open_is Settled is = cc

-- where the first rules pass, the caller is another than the seller, the item is open and the maximum in range
record Passed (own opened range : Bool) : Type 0 where
  own_not : own ≡ false
  is_open : opened ≡ true
  within : range ≡ false

first_passed : (own opened ended range : Bool) → first_failing ((own, OwnItem) ∷ (not opened, NotOpen) ∷ (ended, Ended) ∷ (range, Range) ∷ []) ≡ None → Passed own opened range
first_passed true opened ended range none = cc
first_passed false false ended range none = cc
first_passed false true true range none = cc
first_passed false true false true none = cc
first_passed false true false false none = record { own_not = refl; is_open = refl; within = refl }

-- an item on which a bid may be placed
record Biddable (h : History) (l : Listing) : Type 0 where
  is_open : state_of h l ≡ Open
  unsold : purchase_of h l.item ≡ None
  untaken : list_any (λ c. nat_le l.item c.listed && nat_le l.end c.moment) (closings h) ≡ false
  unsettled : is_settled h l.item ≡ false

biddable : (settings : Settings) (h : History) (moment caller maximum : ℕ) (l : Listing) → first_failing (first_rules moment caller maximum (terms_now settings h l)) ≡ None → Biddable h l
biddable settings h moment caller maximum l none =
    let pass = first_passed (l.seller == caller) (is_open (state_of h l)) (nat_le l.end moment) (nat_lt most_cents maximum) none in
    let parts = open_parts (is_bought h l.item) (is_taken h l) (close_sells (leader_of h l) (met_of h l)) (is_settled h l.item) pass.is_open in
    let unsold : purchase_of h l.item ≡ None = not_bought h l.item (purchase_of h l.item) refl parts.bought_not in
    record {
      is_open = open_is (state_of h l) pass.is_open;
      unsold = unsold;
      untaken = rw unsold at parts.taken_not;
      unsettled = parts.settled_not;
    }

as_by_bids : (raises low full : Bool) (f : ℕ) → first_failing ((raises, NotHigher) ∷ (low, Low f) ∷ (full, Limit) ∷ [])
    ≡ option_map as_refusal (first_failing ((raises, no_bid.NotHigher) ∷ (low, no_bid.Low f) ∷ (full, no_bid.Full) ∷ []))
as_by_bids true low full f = refl
as_by_bids false true full f = refl
as_by_bids false false true f = refl
as_by_bids false false false f = refl

-- the later rules are those of the item's bids
later_is : (settings : Settings) (h : History) (caller maximum : ℕ) (l : Listing) → Biddable h l
    → first_failing (later_rules caller maximum (greatest (bids_on h l.item) caller) (floor_of (bands_by settings l) (terms_now settings h l)) (terms_now settings h l)) ≡ option_map as_refusal (refusal (bands_by settings l) (listed_opening l) (bids_on h l.item) caller maximum)
later_is settings h caller maximum l can =
    rw (can.is_open, can.unsold) (rw (floor_is (bands_by settings l) (listed_opening l) (bids_on h l.item)) (as_by_bids _ _ _ _))

-- the verdict on a bid whose first rules pass
judged : (settings : Settings) (h : History) (moment caller maximum : ℕ) (l : Listing) → listing_at (listings h) l.item ≡ Some l
    → first_failing (common_rules (clock h) (length (members h)) moment caller false) ≡ None → first_failing (first_rules moment caller maximum (terms_now settings h l)) ≡ None
    → verdict settings h moment caller (Bid l.item maximum) ≡ option_map as_refusal (refusal (bands_by settings l) (listed_opening l) (bids_on h l.item) caller maximum)
unfolding verdict
judged settings h moment caller maximum l listed common first =
    let own : ℕ = greatest (bids_on h l.item) caller in
    let terms : Terms = terms_now settings h l in
    rw (shown_is settings h l.item, listed) (
    first_none (common_rules (clock h) (length (members h)) moment caller false) ((false, Unknown) ∷ bid_rules moment caller maximum own (shown_now settings h l)) common
    ∙ first_none (first_rules moment caller maximum terms) (later_rules caller maximum own (floor_of (bands_by settings l) terms) terms) first
    ∙ later_is settings h caller maximum l (biddable settings h moment caller maximum l first)
    )

-- the row of the item after the bid
row_bid : (settings : Settings) (h : History) (moment caller maximum : ℕ) (l : Listing) → Biddable h l
    → with_standing l.item (standing_of (bands_by settings l) (listed_opening l) (one_more (bids_on h l.item) caller maximum)) (row_now settings h l) ≡ row_now settings (entry moment caller (Bid l.item maximum) ∷ h) l
row_bid settings h moment caller maximum l can =
    let here : (l.item == l.item) ≡ true = grind (arith, nat_tests) in
    rw here (simp append-nil (rw (can.unsold, can.untaken, can.unsettled) refl))

-- the rows of items after the bid
rows_bid : (settings : Settings) (h : History) (moment caller maximum : ℕ) (l : Listing) (ls : List Listing) → Biddable h l
    → AllByRecursion (λ a. (a.item == l.item) ≡ true → a ≡ l) ls
    → map (with_standing l.item (standing_of (bands_by settings l) (listed_opening l) (one_more (bids_on h l.item) caller maximum))) (map (row_now settings h) ls)
    ≡ map (row_now settings (entry moment caller (Bid l.item maximum) ∷ h)) ls
rows_bid settings h moment caller maximum l [] can all = refl
rows_bid settings h moment caller maximum l (a ∷ ls) can all =
    rw (rows_bid settings h moment caller maximum l ls can all.1) (ap (λ row. row ∷ map (row_now settings (entry moment caller (Bid l.item maximum) ∷ h)) ls) (one a all.0)) where
      one : (a : Listing) → ((a.item == l.item) ≡ true → a ≡ l)
          → with_standing l.item (standing_of (bands_by settings l) (listed_opening l) (one_more (bids_on h l.item) caller maximum)) (row_now settings h a) ≡ row_now settings (entry moment caller (Bid l.item maximum) ∷ h) a
      one a same = elim (by_test (a.item == l.item)) [
        | inl here ↦ rw (same here) (row_bid settings h moment caller maximum l can)
        | inr other ↦ (let other' : (l.item == a.item) ≡ false = grind (arith, nat_tests, other) in rw (other, other') (simp append-nil))
      ]

some_is : {A : Type 0} (x y : A) → Some x ≡ Some y → x ≡ y
some_is x y e = cc

-- the item's listing is the one of its number
own_listing : (h : History) (l : Listing) → listing_at (listings h) l.item ≡ Some l → AllByRecursion (λ a. (a.item == l.item) ≡ true → a ≡ l) (listings h)
own_listing h l listed =
    every_as (λ a. listing_at (listings h) a.item ≡ Some a) (λ a. (a.item == l.item) ≡ true → a ≡ l) (listings h)
    (λ a own here. let e : a.item ≡ l.item = grind (arith, nat_tests, here) in let there : listing_at (listings h) l.item ≡ Some a = subst (λ (i : ℕ). listing_at (listings h) i ≡ Some a) e own in some_is a l (sym there ∙ listed)) (numbered h).own

bid_leads : (settings : Settings) (h : History) (moment caller maximum : ℕ) (l : Listing) → listing_at (listings h) l.item ≡ Some l → Biddable h l
    → changed (tables_of settings h) (change.Bid moment l.item (record { member = caller; maximum = maximum; no = length (bids_on h l.item) + 1 })
    (standing_of (bands_by settings l) (listed_opening l) (one_more (bids_on h l.item) caller maximum))) ≡ tables_of settings (entry moment caller (Bid l.item maximum) ∷ h)
unfolding changed tables_of questions
bid_leads settings h moment caller maximum l listed can =
    rw (rows_bid settings h moment caller maximum l (listings h) can (own_listing h l listed)) (simp append-nil)

-- no bid has a number that wasn't given
given_more : (h : History) (t c : ℕ) (command : Command) (row : BidRow) → row.bid.no ≤ length (bids_on h row.item) → row.bid.no ≤ length (bids_on (entry t c command ∷ h) row.item)
given_more h t c command row small =
    let more = length-append (bids_on h row.item) (bid_in row.item (length (bids_on h row.item) + 1) c command) in
    rw more (omega (arith, small))

given_step : (h : History) (t c : ℕ) (command : Command) → AllByRecursion (λ row. row.bid.no ≤ length (bids_on h row.item)) (bid_rows h)
    → AllByRecursion (λ row. row.bid.no ≤ length (bids_on (entry t c command ∷ h) row.item)) (bid_rows (entry t c command ∷ h))
given_step h t c (Bid i maximum) all =
    let row : BidRow = record { item = i; bid = record { member = c; maximum = maximum; no = length (bids_on h i) + 1 } } in
    let here : (i == i) ≡ true = grind (arith, nat_tests) in
    every_put bid_key (λ row. row.bid.no ≤ length (bids_on (entry t c (Bid i maximum) ∷ h) row.item)) row (bid_rows h)
    (every_as (λ row. row.bid.no ≤ length (bids_on h row.item)) (λ row. row.bid.no ≤ length (bids_on (entry t c (Bid i maximum) ∷ h) row.item)) (bid_rows h) (given_more h t c (Bid i maximum)) all)
    (rw here (let more = length-append (bids_on h i) (record { member = c; maximum = maximum; no = length (bids_on h i) + 1 } ∷ []) in rw more (omega arith)))
given_step h t c (Register name) all = every_as _ _ (bid_rows h) (given_more h t c (Register name)) all
given_step h t c (AddCategory name) all = every_as _ _ (bid_rows h) (given_more h t c (AddCategory name)) all
given_step h t c (Listing_command category lot title text start buy_now end reserve) all = every_as _ _ (bid_rows h) (given_more h t c (Listing_command category lot title text start buy_now end reserve)) all
given_step h t c (Buy i) all = every_as _ _ (bid_rows h) (given_more h t c (Buy i)) all
given_step h t c Close all = every_as _ _ (bid_rows h) (given_more h t c Close) all
given_step h t c (Settle i) all = every_as _ _ (bid_rows h) (given_more h t c (Settle i)) all
given_step h t c (Watch i) all = every_as _ _ (bid_rows h) (given_more h t c (Watch i)) all
given_step h t c (Unwatch i) all = every_as _ _ (bid_rows h) (given_more h t c (Unwatch i)) all
given_step h t c (Ask i text) all = every_as _ _ (bid_rows h) (given_more h t c (Ask i text)) all
given_step h t c (Answer i asker number text) all = every_as _ _ (bid_rows h) (given_more h t c (Answer i asker number text)) all
given_step h t c (Feedback i rating text) all = every_as _ _ (bid_rows h) (given_more h t c (Feedback i rating text)) all
given_step h t c (SetBands bands) all = every_as _ _ (bid_rows h) (given_more h t c (SetBands bands)) all

all_given : (h : History) → AllByRecursion (λ row. row.bid.no ≤ length (bids_on h row.item)) (bid_rows h)
all_given [] = tt
all_given (e ∷ h) = given_step h e.moment e.caller e.command (all_given h)

none_has : (n i : ℕ) (rows : List BidRow) (counts : ℕ → ℕ) → n ≡ counts i + 1 → AllByRecursion (λ row. row.bid.no ≤ counts row.item) rows
    → list_any (λ row. (row.item == i) && (row.bid.no == n)) rows ≡ false
none_has n i [] counts next all = refl
none_has n i (row ∷ rows) counts next all =
    elim (by_test (row.item == i)) [
      | inl here ↦ (let same : row.item ≡ i = grind (arith, nat_tests, here) in
          let small : row.bid.no ≤ counts i = rw same at (all.0) in
          let other : (row.bid.no == n) ≡ false = grind (arith, nat_tests, small, next) in
          rw (other, here) (none_has n i rows counts next all.1))
      | inr not ↦ rw not (none_has n i rows counts next all.1)
    ]

number_free : (settings : Settings) (h : History) (i : ℕ) → list_any (λ row. (row.item == i) && (row.bid.no == length (bids_on h i) + 1)) (tables_of settings h).bids ≡ false
unfolding tables_of
number_free settings h i = none_has (length (bids_on h i) + 1) i (bid_rows h) (λ j. length (bids_on h j)) refl (all_given h)

-- what is known of an item that was found with its standing
record Listed (settings : Settings) (h : History) (item : ℕ) (terms : Terms) (kept : Kept) : Type 0 where
  listing : Listing
  numbered_so : listing.item ≡ item
  listed : listing_at (listings h) listing.item ≡ Some listing
  terms_are : terms ≡ terms_now settings h listing
  is_consistent : kept ≡ standing_of (bands_by settings listing) (listed_opening listing) (bids_on h listing.item)

found_listing : (settings : Settings) (h : History) (item : ℕ) (terms : Terms) (kept : Kept)
    → terms_at (tables_of settings h) item ≡ Some terms → standing_at (tables_of settings h) item ≡ Some kept → Listed settings h item terms kept
found_listing settings h item terms kept found is_consistent =
    by_listing (listing_at (listings h) item) refl (rw (row_found settings h item) at found) (rw (row_found settings h item) at is_consistent) where
      by_listing : (o : Option Listing) → listing_at (listings h) item ≡ o → option_map (λ (row : ItemRow). row.item.terms) (option_map (row_now settings h) o) ≡ Some terms
          → option_map (λ (row : ItemRow). row.standing) (option_map (row_now settings h) o) ≡ Some kept → Listed settings h item terms kept
      by_listing None is none is_consistent = cc
      by_listing (Some l) is some is_consistent =
          let here = found_is (λ (a : Listing). a.item == item) (listings h) l is in
          let at' : l.item ≡ item = grind (arith, nat_tests, here) in
          record {
            listing = l;
            numbered_so = at';
            listed = subst (λ (i : ℕ). listing_at (listings h) i ≡ Some l) (sym at') is;
            terms_are = sym (some_is (terms_now settings h l) terms some);
            is_consistent = sym (some_is (standing_of (bands_by settings l) (listed_opening l) (bids_on h l.item)) kept is_consistent);
          }

-- what is refused before the item's rules are asked
pub bid_unknown : (t : Tables) (settings : Settings) (h : History) (moment caller item maximum : ℕ) (report : Refusal) → t ≡ tables_of settings h
    → ((rules : Terms → List Rule) → Some report ≡ first_failing (common_rules t.clock (length t.members) moment caller false ++ of_terms (terms_at t item) rules))
    → verdict settings h moment caller (Bid item maximum) ≡ Some report
unfolding verdict
bid_unknown t settings h moment caller item maximum report e so =
    item_refused t settings h moment caller item report (all_rules moment caller maximum (greatest (bids_on h item) caller)) e so

-- what is refused before the item's bids are asked
pub bid_unfit : (t : Tables) (settings : Settings) (h : History) (moment caller item maximum : ℕ) (terms : Terms) (report : Refusal) → t ≡ tables_of settings h
    → terms_at t item ≡ Some terms → None ≡ first_failing (common_rules t.clock (length t.members) moment caller false)
    → Some report ≡ first_failing (first_rules moment caller maximum terms) → verdict settings h moment caller (Bid item maximum) ≡ Some report
unfolding verdict
bid_unfit t settings h moment caller item maximum terms report e found common so =
    let own : ℕ = greatest (bids_on h item) caller in
    item_judged t settings h moment caller item terms (all_rules moment caller maximum own) e found common
    ∙ first_some (first_rules moment caller maximum terms) (later_rules caller maximum own (floor_of (bands_for (tables_of settings h) terms.item) terms) terms) report (sym so)

by_history : (t : Tables) (settings : Settings) (h : History) (moment caller : ℕ) → t ≡ tables_of settings h → None ≡ first_failing (common_rules t.clock (length t.members) moment caller false)
    → first_failing (common_rules (clock h) (length (members h)) moment caller false) ≡ None
unfolding tables_of
by_history t settings h moment caller e common = sym (rw e at common)

-- the band table that was given is the listing's
bands_are : (t : Tables) (settings : Settings) (given : List (ℕ × ℕ)) (h : History) (item : ℕ) (l : Listing) → t ≡ tables_of settings h → given ≡ bands_for t item → l.item ≡ item
    → listing_at (listings h) l.item ≡ Some l → given ≡ bands_by settings l
bands_are t settings given h item l e so at' listed =
    so ∙ ap (λ (x : Tables). bands_for x item) e ∙ ap (λ (i : ℕ). bands_for (tables_of settings h) i) (sym at') ∙ bands_kept settings h l.item l listed

-- what is reported of bids in other words
refused_as : (given bands : List (ℕ × ℕ)) (kept : Kept) (opening : Opening) (bids : List bid.Bid) (member amount caller maximum : ℕ) (report : Refusal)
    → given ≡ bands → kept ≡ standing_of bands opening bids → member ≡ caller → amount ≡ maximum
    → ((bids : List bid.Bid) → kept ≡ standing_of given (opening_of kept) bids → Some report ≡ option_map as_refusal (refusal given (opening_of kept) bids member amount))
    → Some report ≡ option_map as_refusal (refusal bands opening bids caller maximum)
refused_as given bands kept opening bids member amount caller maximum report e is_consistent same equal so = (rw (e, same, equal, is_consistent) at so) bids refl

accepted_as : (given bands : List (ℕ × ℕ)) (kept after : Kept) (opening : Opening) (bids : List bid.Bid) (member amount caller maximum : ℕ)
    → given ≡ bands → kept ≡ standing_of bands opening bids → member ≡ caller → amount ≡ maximum
    → ((bids : List bid.Bid) → kept ≡ standing_of given (opening_of kept) bids
    → (refusal given (opening_of kept) bids member amount ≡ None) × (after ≡ standing_of given (opening_of kept) (one_more bids member amount)))
    → (refusal bands opening bids caller maximum ≡ None) × (after ≡ standing_of bands opening (one_more bids caller maximum))
accepted_as given bands kept after opening bids member amount caller maximum e is_consistent same equal so = (rw (e, same, equal, is_consistent) at so) bids refl

-- why the item's bids refuse it
pub bid_refused : (t : Tables) (settings : Settings) (given : List (ℕ × ℕ)) (h : History) (moment caller item maximum : ℕ) (terms : Terms) (kept : Kept) (member amount : ℕ) (report : Refusal) → t ≡ tables_of settings h
    → terms_at t item ≡ Some terms → None ≡ first_failing (common_rules t.clock (length t.members) moment caller false) → None ≡ first_failing (first_rules moment caller maximum terms)
    → standing_at t item ≡ Some kept → given ≡ bands_for t item → member ≡ caller → amount ≡ maximum
    → ((bids : List bid.Bid) → kept ≡ standing_of given (opening_of kept) bids → Some report ≡ option_map as_refusal (refusal given (opening_of kept) bids member amount))
    → verdict settings h moment caller (Bid item maximum) ≡ Some report
bid_refused t settings given h moment caller item maximum terms kept member amount report e found common first is_consistent bands same equal so =
    let f = found_listing settings h item terms kept (rw e at found) (rw e at is_consistent) in
    let l : Listing = f.listing in
    let now = by_history t settings h moment caller e common in
    let first' : first_failing (first_rules moment caller maximum (terms_now settings h l)) ≡ None = sym (rw f.terms_are at first) in
    let bands' : given ≡ bands_by settings l = bands_are t settings given h item l e bands f.numbered_so f.listed in
    let answer : Some report ≡ option_map as_refusal (refusal (bands_by settings l) (listed_opening l) (bids_on h l.item) caller maximum) =
    refused_as given (bands_by settings l) kept (listed_opening l) (bids_on h l.item) member amount caller maximum report bands' f.is_consistent same equal so in
    rw f.numbered_so at (judged settings h moment caller maximum l f.listed now first' ∙ sym answer)

-- the change fits where they take it
pub bid_fits : (t : Tables) (given : List (ℕ × ℕ)) (moment caller item maximum : ℕ) (terms : Terms) (kept after : Kept) (member amount count : ℕ) → ItemFitsAt item t
    → terms_at t item ≡ Some terms → None ≡ first_failing (common_rules t.clock (length t.members) moment caller false) → None ≡ first_failing (first_rules moment caller maximum terms)
    → standing_at t item ≡ Some kept → given ≡ bands_for t item → member ≡ caller → amount ≡ maximum → count ≡ after.count
    → ((bids : List bid.Bid) → kept ≡ standing_of given (opening_of kept) bids
    → (refusal given (opening_of kept) bids member amount ≡ None) × (after ≡ standing_of given (opening_of kept) (one_more bids member amount)))
    → BidFits t moment terms.item (record { member = member; maximum = amount; no = count }) after
bid_fits t given moment caller item maximum terms kept after member amount count rows found common first is_consistent bands same equal counts so =
    let row = row_there t item terms found in
    let opening : Opening = row_opening row.row in
    let table : List (ℕ × ℕ) = bands_for t item in
    let fits : ItemRowFits table row.row = found_fits t item row.row rows row.there in
    let bids : List bid.Bid = fits.bids in
    let kept_is : kept ≡ standing_of table opening bids = standing_same t item row.row kept row.there is_consistent ∙ fits.is_consistent in
    let answer : (refusal table opening bids caller maximum ≡ None) × (after ≡ standing_of table opening (one_more bids caller maximum)) =
    accepted_as given table kept after opening bids member amount caller maximum bands kept_is same equal so in
    let caller_is = caller_fits t moment caller false (sym common) in
    let pass = first_passed (terms.seller == caller) (is_open terms.state) (nat_le terms.end moment) (nat_lt most_cents maximum) (sym first) in
    let range = pass.within in
    rw (same, equal, row.numbered) (record {
      moment_fits = caller_is.moment_fits;
      row = row.row;
      row_there = row.there;
      is_open = rw row.same (open_is terms.state pass.is_open);
      bidder_there = caller_is.there refl;
      apart = rw row.same (apart_from terms.seller caller pass.own_not);
      maximum_fits = grind (arith, nat_tests, range);
      bids = bids;
      is_consistent = fits.is_consistent;
      accepted = more_accepted table opening bids (record { member = caller; maximum = maximum; no = length bids + 1 }) fits.accepted (record { accepted = answer.0; numbered = refl });
      numbered = counts ∙ ap (λ (k : Kept). k.count) answer.1 ∙ length-append bids (record { member = caller; maximum = maximum; no = length bids + 1 } ∷ []);
      is_consistent_after = answer.1;
    })

-- the same in other words
renamed : (settings : Settings) (h : History) (moment caller i item named maximum amount member number count : ℕ) (kept after : Kept)
    → i ≡ item → named ≡ i → member ≡ caller → amount ≡ maximum → count ≡ number → after ≡ kept
    → IsAccepted settings h moment caller (Bid i maximum) (change.Bid moment i (record { member = caller; maximum = maximum; no = number }) kept)
    → IsAccepted settings h moment caller (Bid item maximum) (change.Bid moment named (record { member = member; maximum = amount; no = count }) after)
renamed settings h moment caller i item named maximum amount member number count kept after at' same_item same equal counts is_consistent accepted =
    rw (same_item, same, equal, counts, is_consistent, ← at') accepted

-- the change, where they take it
pub bid_accepts : (t : Tables) (settings : Settings) (given : List (ℕ × ℕ)) (h : History) (moment caller item maximum : ℕ) (terms : Terms) (kept after : Kept) (member amount count : ℕ) → IsHistory settings h → t ≡ tables_of settings h
    → terms_at t item ≡ Some terms → None ≡ first_failing (common_rules t.clock (length t.members) moment caller false) → None ≡ first_failing (first_rules moment caller maximum terms)
    → standing_at t item ≡ Some kept → given ≡ bands_for t item → member ≡ caller → amount ≡ maximum → count ≡ after.count
    → ((bids : List bid.Bid) → kept ≡ standing_of given (opening_of kept) bids
    → (refusal given (opening_of kept) bids member amount ≡ None) × (after ≡ standing_of given (opening_of kept) (one_more bids member amount)))
    → IsAccepted settings h moment caller (Bid item maximum) (change.Bid moment terms.item (record { member = member; maximum = amount; no = count }) after)
bid_accepts t settings given h moment caller item maximum terms kept after member amount count is e found common first is_consistent bands same equal counts so =
    let f = found_listing settings h item terms kept (rw e at found) (rw e at is_consistent) in
    let l : Listing = f.listing in
    let now = by_history t settings h moment caller e common in
    let first' : first_failing (first_rules moment caller maximum (terms_now settings h l)) ≡ None = sym (rw f.terms_are at first) in
    let bands' : given ≡ bands_by settings l = bands_are t settings given h item l e bands f.numbered_so f.listed in
    let bids : List bid.Bid = bids_on h l.item in
    let answer : (refusal (bands_by settings l) (listed_opening l) bids caller maximum ≡ None) × (after ≡ standing_of (bands_by settings l) (listed_opening l) (one_more bids caller maximum)) =
    accepted_as given (bands_by settings l) kept after (listed_opening l) bids member amount caller maximum bands' f.is_consistent same equal so in
    let counted : count ≡ length bids + 1 = counts ∙ ap (λ (k : Kept). k.count) answer.1 ∙ length-append bids (record { member = caller; maximum = maximum; no = length bids + 1 } ∷ []) in
    let can = biddable settings h moment caller maximum l first' in
    let named : terms.item ≡ l.item = ap (λ (x : Terms). x.item) f.terms_are in
    let accepted : verdict settings h moment caller (Bid l.item maximum) ≡ None = judged settings h moment caller maximum l f.listed now first' ∙ ap (option_map as_refusal) answer.0 in
    let whole : IsAccepted settings h moment caller (Bid l.item maximum) (change.Bid moment l.item (record { member = caller; maximum = maximum; no = length bids + 1 }) (standing_of (bands_by settings l) (listed_opening l) (one_more bids caller maximum))) =
    record {
      accepted = accepted;
      fits = rw (e, named, same, equal, counted, answer.1) at
          (bid_fits t given moment caller item maximum terms kept after member amount count (item_at_fits t item (sound_here t settings h is e)) found common first is_consistent bands same equal counts so);
      free = number_free settings h l.item;
      leads = bid_leads settings h moment caller maximum l f.listed can;
    } in
    renamed settings h moment caller l.item item terms.item maximum amount member (length bids + 1) count (standing_of (bands_by settings l) (listed_opening l) (one_more bids caller maximum)) after
    f.numbered_so named same equal counted answer.1 whole

-- By the tables alone, whatever history they are of. The leader's own greatest maximum is the top that its row keeps.
leader_is : (o : Option ℕ) (m : ℕ) → is_leader o m ≡ true → o ≡ Some m
leader_is None m led = cc
leader_is (Some l) m led = let e : l ≡ m = grind (arith, nat_tests, led) in ap Some e

own_top : (bids : List bid.Bid) (caller : ℕ) → leads bids caller ≡ true → greatest bids caller ≡ unwrap_or (greatest_if_any (maxima bids)) 0
unfolding top
own_top bids caller led = leader_greatest bids caller (leader_is (leader bids) caller led) ∙ sym (or_zero bids)

neither : (b x y : Bool) → b ≡ false → (b && x) ≡ (b && y)
neither b x y e = rw e refl

raises_as : (bids : List bid.Bid) (caller maximum : ℕ)
    → (leads bids caller && nat_le maximum (unwrap_or (greatest_if_any (maxima bids)) 0)) ≡ (leads bids caller && nat_le maximum (greatest bids caller))
raises_as bids caller maximum =
    elim (by_test (leads bids caller)) [
      | inl led ↦ ap (λ (n : ℕ). leads bids caller && nat_le maximum n) (sym (own_top bids caller led))
      | inr other ↦ neither (leads bids caller) (nat_le maximum (unwrap_or (greatest_if_any (maxima bids)) 0)) (nat_le maximum (greatest bids caller)) other
    ]

-- an open item wasn't bought, so it shows its bids
shows_bids : (row : ItemRow) → IsByBids row ⊎ IsBought row → row.item.terms.state ≡ Open → IsByBids row
shows_bids row report opened =
    elim report [
      | inl shown ↦ shown
      | inr bought ↦ absurd (let e : false ≡ true = rw opened at (bought.sold) in cc)
    ]

-- the later rules by what is kept of the bids are those of the bids
later_as : (table : List (ℕ × ℕ)) (opening : Opening) (bids : List bid.Bid) (caller maximum : ℕ) (terms : Terms) (highest : Option ℕ) → terms.state ≡ Open
    → terms.start ≡ opening.start → terms.leader ≡ leader bids → terms.price ≡ price table opening bids → terms.count ≡ length bids → highest ≡ greatest_if_any (maxima bids)
    → first_failing (later_rules caller maximum (unwrap_or highest 0) (floor_of table terms) terms) ≡ option_map as_refusal (refusal table opening bids caller maximum)
later_as table opening bids caller maximum terms highest opened start led cost count top_kept =
    rw (opened, start, led, cost, count, top_kept) (rw (floor_is table opening bids, raises_as bids caller maximum) (as_by_bids _ _ _ _))

-- the rules of a bid, by the item's terms
rules_are : (t : Tables) (moment caller item maximum : ℕ)
    → first_failing (item_rules t moment caller false item (at_floor t (all_rules moment caller maximum (top_at t item)))) ≡ first_failing (rules_by t moment caller (Bid item maximum))
rules_are t moment caller item maximum =
    ap (λ (rules : List Rule). first_failing (common_rules t.clock (length t.members) moment caller false ++ rules))
    (sym (rows_shown t item (all_rules moment caller maximum (top_at t item))))

-- what is reported before the item's rules are asked
pub unknown_by : (t : Tables) (moment caller item maximum : ℕ) (report : Refusal)
    → ((rules : Terms → List Rule) → Some report ≡ first_failing (common_rules t.clock (length t.members) moment caller false ++ of_terms (terms_at t item) rules))
    → Some report ≡ first_failing (rules_by t moment caller (Bid item maximum))
unknown_by t moment caller item maximum report so =
    so (at_floor t (all_rules moment caller maximum (top_at t item))) ∙ rules_are t moment caller item maximum

-- and by them
reported_by : (t : Tables) (moment caller item maximum : ℕ) (terms : Terms) (o : Option Refusal)
    → terms_at t item ≡ Some terms → None ≡ first_failing (common_rules t.clock (length t.members) moment caller false)
    → o ≡ first_failing (first_rules moment caller maximum terms ++ later_rules caller maximum (top_at t item) (floor_of (bands_for t terms.item) terms) terms)
    → o ≡ first_failing (rules_by t moment caller (Bid item maximum))
reported_by t moment caller item maximum terms o found common is =
    sym (own_reported t moment caller false item terms (at_floor t (all_rules moment caller maximum (top_at t item))) o (record { passed = sym common; found = found }) is)
    ∙ rules_are t moment caller item maximum

-- what is reported before the item's bids are asked
pub unfit_by : (t : Tables) (moment caller item maximum : ℕ) (terms : Terms) (report : Refusal)
    → terms_at t item ≡ Some terms → None ≡ first_failing (common_rules t.clock (length t.members) moment caller false)
    → Some report ≡ first_failing (first_rules moment caller maximum terms) → Some report ≡ first_failing (rules_by t moment caller (Bid item maximum))
unfit_by t moment caller item maximum terms report found common so =
    reported_by t moment caller item maximum terms (Some report) found common
    (sym (first_some (first_rules moment caller maximum terms) (later_rules caller maximum (top_at t item) (floor_of (bands_for t terms.item) terms) terms) report (sym so)))

-- what is reported of any bids that give the standing, of those of the row
reported_as : (given bands : List (ℕ × ℕ)) (kept : Kept) (opening : Opening) (bids : List bid.Bid) (member amount caller maximum : ℕ) (o : Option Refusal)
    → given ≡ bands → kept ≡ standing_of bands opening bids → member ≡ caller → amount ≡ maximum
    → ((bids : List bid.Bid) → kept ≡ standing_of given (opening_of kept) bids → o ≡ option_map as_refusal (refusal given (opening_of kept) bids member amount))
    → o ≡ option_map as_refusal (refusal bands opening bids caller maximum)
reported_as given bands kept opening bids member amount caller maximum o e is_consistent same equal so = (rw (e, same, equal, is_consistent) at so) bids refl

-- what the item's bids report
pub judged_by : (t : Tables) (given : List (ℕ × ℕ)) (moment caller item maximum : ℕ) (terms : Terms) (kept : Kept) (member amount : ℕ) (o : Option Refusal) → ItemFitsAt item t
    → terms_at t item ≡ Some terms → None ≡ first_failing (common_rules t.clock (length t.members) moment caller false) → None ≡ first_failing (first_rules moment caller maximum terms)
    → standing_at t item ≡ Some kept → given ≡ bands_for t item → member ≡ caller → amount ≡ maximum
    → ((bids : List bid.Bid) → kept ≡ standing_of given (opening_of kept) bids → o ≡ option_map as_refusal (refusal given (opening_of kept) bids member amount))
    → o ≡ first_failing (rules_by t moment caller (Bid item maximum))
judged_by t given moment caller item maximum terms kept member amount o rows found common first is_consistent bands same equal so =
    let row = row_there t item terms found in
    let opening : Opening = row_opening row.row in
    let table : List (ℕ × ℕ) = bands_for t item in
    let fits : ItemRowFits table row.row = found_fits t item row.row rows row.there in
    let bids : List bid.Bid = fits.bids in
    let kept_is : kept ≡ standing_of table opening bids = standing_same t item row.row kept row.there is_consistent ∙ fits.is_consistent in
    let pass = first_passed (terms.seller == caller) (is_open terms.state) (nat_le terms.end moment) (nat_lt most_cents maximum) (sym first) in
    let opened : terms.state ≡ Open = open_is terms.state pass.is_open in
    let open_row : row.row.item.terms.state ≡ Open = ap (λ (x : Terms). x.state) row.same ∙ opened in
    let shown : IsByBids row.row = shows_bids row.row fits.report open_row in
    let start : terms.start ≡ opening.start = sym (ap (λ (x : Terms). x.start) row.same) in
    let led : terms.leader ≡ leader bids = sym (ap (λ (x : Terms). x.leader) row.same) ∙ shown.leader ∙ ap (λ (k : Kept). k.leader) fits.is_consistent in
    let cost : terms.price ≡ price table opening bids = sym (ap (λ (x : Terms). x.price) row.same) ∙ shown.price ∙ ap (λ (k : Kept). k.price) fits.is_consistent in
    let count : terms.count ≡ length bids = sym (ap (λ (x : Terms). x.count) row.same) ∙ fits.count in
    let highest : kept.top ≡ greatest_if_any (maxima bids) = ap (λ (k : Kept). k.top) kept_is in
    let own : top_at t item ≡ unwrap_or kept.top 0 = ap (λ (k : Option Kept). unwrap_or (option_and_then (λ (x : Kept). x.top) k) 0) is_consistent in
    let least : floor_of (bands_for t terms.item) terms ≡ floor_of table terms = ap (λ (i : ℕ). floor_of (bands_for t i) terms) row.numbered in
    let later : first_failing (later_rules caller maximum (top_at t item) (floor_of (bands_for t terms.item) terms) terms) ≡ option_map as_refusal (refusal table opening bids caller maximum) =
    ap (λ (n : ℕ). first_failing (later_rules caller maximum n (floor_of (bands_for t terms.item) terms) terms)) own
    ∙ ap (λ (floor : Option ℕ). first_failing (later_rules caller maximum (unwrap_or kept.top 0) floor terms)) least
    ∙ later_as table opening bids caller maximum terms kept.top opened start led cost count highest in
    let answer : o ≡ option_map as_refusal (refusal table opening bids caller maximum) =
    reported_as given table kept opening bids member amount caller maximum o bands kept_is same equal so in
    reported_by t moment caller item maximum terms o found common
    (answer ∙ sym later
    ∙ sym (first_none (first_rules moment caller maximum terms) (later_rules caller maximum (top_at t item) (floor_of (bands_for t terms.item) terms) terms) (sym first)))

-- and none where they take it
pub passed_by : (t : Tables) (given : List (ℕ × ℕ)) (moment caller item maximum : ℕ) (terms : Terms) (kept after : Kept) (member amount : ℕ) → ItemFitsAt item t
    → terms_at t item ≡ Some terms → None ≡ first_failing (common_rules t.clock (length t.members) moment caller false) → None ≡ first_failing (first_rules moment caller maximum terms)
    → standing_at t item ≡ Some kept → given ≡ bands_for t item → member ≡ caller → amount ≡ maximum
    → ((bids : List bid.Bid) → kept ≡ standing_of given (opening_of kept) bids
    → (refusal given (opening_of kept) bids member amount ≡ None) × (after ≡ standing_of given (opening_of kept) (one_more bids member amount)))
    → None ≡ first_failing (rules_by t moment caller (Bid item maximum))
passed_by t given moment caller item maximum terms kept after member amount rows found common first is_consistent bands same equal so =
    judged_by t given moment caller item maximum terms kept member amount None rows found common first is_consistent bands same equal
    (λ bids is. sym (ap (option_map as_refusal) (so bids is).0))
