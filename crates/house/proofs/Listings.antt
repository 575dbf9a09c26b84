-- A listing: the verdict by the tables, and the tables after it.
use Rattle.proxy.proofs.Prices.{price-none}
use Rattle.house_rows.proofs.Ranged.{reserve_within}
use Rattle.std.proofs.Common.{◌≡◌, ℕ, ◌+◌, ◌≤◌, ◌<◌, List, [], ◌∷◌, ◌++◌, map, length, Bool, true, false, not, refl, ◌∙◌, ap, sym, arith, inl, inr, Option, Some, None}
use Rattle.std.specs.Prelude.{◌==◌, ◌&&◌, find, nat_le, nat_lt, IfSome}
use Rattle.std.specs.List.{AllByRecursion, list_any}
use Rattle.std.proofs.lemmas.Bool.Decides.{nat_tests}
use Rattle.std.proofs.lemmas.List.{append-nil, length-append, length-map}
use Rattle.proxy.specs.Bids.{leader, price, second}
use Rattle.proxy.specs.Rules.{first_failing}
use Rattle.proxy.specs.declared.bid.Bid as bid
use Rattle.house_rows.specs.declared.change.Change.TheVariants as change
use Rattle.house_rows.specs.declared.change.NewItem.{NewItem}
use Rattle.house_rows.specs.declared.command.Command.{Command}
use Rattle.house_rows.specs.declared.command.Command.TheVariants.{Close, Settle, List as Listed}
use Rattle.house_rows.specs.declared.refusal.Refusal.{Refusal}
use Rattle.house_rows.specs.declared.refusal.Refusal.TheVariants.{Limit, LotExists, Range, Unknown}
use Rattle.house_rows.specs.declared.settings.Settings.{Settings}
use Rattle.house_rows.specs.Asks.{ListingFits}
use Rattle.house_rows.specs.Changed.{changed, new_item, new_opening}
use Rattle.house_rows.specs.Fits.{IsWithin}
use Rattle.house_rows.specs.Found.{item_with_lot}
use Rattle.house_rows.specs.History.{Entry, History, clock}
use Rattle.house_rows.specs.Bids.{bids_on}
use Rattle.house_rows.specs.Items.{Closing, Purchase, closing_in, closings, items_shown, purchases, settlement_in, settlements, shown_now}
use Rattle.house_rows.specs.Limits.{last_moment, most_cents, most_items}
use Rattle.house_rows.specs.Listings.{Listing, listing_at, listings, newest_of, tables_set}
use Rattle.house_rows.specs.People.{categories, members}
use Rattle.house_rows.specs.Questions.{questions}
use Rattle.house_rows.specs.Runs.{entry}
use Rattle.house_rows.specs.Tables.{ItemRow, Tables, row_now, tables_of}
use Rattle.house_rows.specs.Text.{is_lot, is_text, same_text}
use Rattle.house_rows.specs.Verdict.{IsHistory, are_terms, by_terms, common_rules, is_buy_now, listing_rules, settlement_rules, verdict, is_reserve}
use Rattle.house_rows.proofs.Every.{every_as, found_has, found_is}
use Rattle.house_rows.proofs.Numbered.{numbered}
use Rattle.house_rows.proofs.Passed.{first_pass, item_pass, later_pass, own_pass}
use Rattle.house_rows.proofs.Put.{by_test}
use Rattle.house_rows.proofs.RangedBids.{BidIn, PurchaseIn, bids_fit, purchases_fit}
use Rattle.house.specs.declared.listing.Offer.{Offer}
use Rattle.house.specs.declared.listing.Prices.{Prices}
use Rattle.house.specs.Decided.{IsAccepted}
use Rattle.house.specs.Judged.{first_rules}
use Rattle.house.specs.Offered.{AreOf, offer_rules}
use Rattle.house.proofs.ByTables.{caller_fits, none_found}
use Rattle.house.proofs.Found.{some_found}
use Rattle.house.proofs.Rows.{each_and_new, same_number}

-- what everybody sees of lots is in the rows
lots_among : (settings : Settings) (h : History) (caller : ℕ) (lot : List ℕ) (ls : List Listing)
    → list_any (λ it. (it.item.terms.seller == caller) && same_text it.item.lot lot) (map (shown_now settings h) ls)
    ≡ list_any (λ (row : ItemRow). (row.item.terms.seller == caller) && same_text row.item.lot lot) (map (row_now settings h) ls)
lots_among settings h caller lot [] = refl
lots_among settings h caller lot (l ∷ ls) =
    elim (by_test ((l.seller == caller) && same_text l.lot lot)) [ inl is ↦ rw is refl | inr not ↦ rw not (lots_among settings h caller lot ls) ]

lots_shown : (settings : Settings) (h : History) (caller : ℕ) (lot : List ℕ)
    → list_any (λ it. (it.item.terms.seller == caller) && same_text it.item.lot lot) (items_shown settings h)
    ≡ list_any (λ (row : ItemRow). (row.item.terms.seller == caller) && same_text row.item.lot lot) (tables_of settings h).items
unfolding items_shown tables_of
lots_shown settings h caller lot = lots_among settings h caller lot (listings h)

count_shown : (settings : Settings) (h : History) → length (items_shown settings h) ≡ length (tables_of settings h).items
unfolding items_shown tables_of
count_shown settings h = simp length-map

list_verdict : (t : Tables) (settings : Settings) (h : History) (moment caller : ℕ) (offer : Offer) → t ≡ tables_of settings h
    → verdict settings h moment caller (Listed offer.category offer.lot.now offer.title.now offer.text.now offer.start offer.buy_now offer.end offer.reserve)
    ≡ first_failing (first_rules t moment caller false ++ offer_rules t moment caller offer)
unfolding tables_of verdict
list_verdict t settings h moment caller offer e =
    let first = common_rules (clock h) (length (members h)) moment caller false in
    let fits = are_terms moment offer.title.now offer.text.now offer.start offer.buy_now offer.end offer.reserve in
    let has_category = list_any (λ k. k.category == offer.category) (categories h) in
    let has_lot = list_any (λ (row : ItemRow). (row.item.terms.seller == caller) && same_text row.item.lot offer.lot.now) (tables_of settings h).items in
    rw e (
    ap (λ (has : Bool). first_failing (first ++ listing_rules offer.lot.now has fits has_category (length (items_shown settings h)))) (lots_shown settings h caller offer.lot.now)
    ∙ ap (λ (count : ℕ). first_failing (first ++ listing_rules offer.lot.now has_lot fits has_category count)) (count_shown settings h)
    )

pub list_refusal : (t : Tables) (settings : Settings) (h : History) (moment caller : ℕ) (offer : Offer) (refusal : Refusal) → t ≡ tables_of settings h
    → Some refusal ≡ first_failing (first_rules t moment caller false ++ offer_rules t moment caller offer)
    → verdict settings h moment caller (Listed offer.category offer.lot.now offer.title.now offer.text.now offer.start offer.buy_now offer.end offer.reserve) ≡ Some refusal
list_refusal t settings h moment caller offer refusal e report = list_verdict t settings h moment caller offer e ∙ sym report

-- what holds where no rule of a listing fails
all_pass : (a b c d e f g r : Bool) → (a && (b && (c && (d && (e && (f && (g && r))))))) ≡ true
    → (a ≡ true) × (b ≡ true) × (c ≡ true) × (d ≡ true) × (e ≡ true) × (f ≡ true) × (g ≡ true) × (r ≡ true)
all_pass false b c d e f g r is = cc
all_pass true false c d e f g r is = cc
all_pass true true false d e f g r is = cc
all_pass true true true false e f g r is = cc
all_pass true true true true false f g r is = cc
all_pass true true true true true false g r is = cc
all_pass true true true true true true false r is = cc
all_pass true true true true true true true r is = (refl, refl, refl, refl, refl, refl, refl, is)

tests_pass : (lot taken fits known : Bool) (count : ℕ)
    → first_failing ((not lot, Range) ∷ (taken, LotExists) ∷ (not fits, Range) ∷ (not known, Unknown) ∷ (nat_le most_items count, Limit) ∷ []) ≡ None
    → (taken ≡ false) × (lot ≡ true) × (fits ≡ true) × (known ≡ true) × (count < most_items)
tests_pass false taken fits known count none = cc
tests_pass true true fits known count none = cc
tests_pass true false false known count none = cc
tests_pass true false true false count none = cc
tests_pass true false true true count none = (refl, refl, refl, refl, grind (arith, nat_tests, none))

is_within : (a b : ℕ) → nat_le a b ≡ true → a ≤ b
is_within a b is = grind (arith, nat_tests, is)

buy_now_within : (start : ℕ) (buy_now : Option ℕ) → is_buy_now start buy_now ≡ true → IfSome buy_now (λ amount. IsWithin start most_cents amount)
buy_now_within start None is = tt
buy_now_within start (Some amount) is = (grind (arith, nat_tests, is), grind (arith, nat_tests, is))

-- that is of an offer by the tables
offer_pass : (t : Tables) (moment caller : ℕ) (offer : Offer) → first_failing (offer_rules t moment caller offer) ≡ None
    → (list_any (λ row. (row.item.terms.seller == caller) && same_text row.item.lot offer.lot.now) t.items ≡ false) × (is_lot offer.lot.now ≡ true)
    × (are_terms moment offer.title.now offer.text.now offer.start offer.buy_now offer.end offer.reserve ≡ true)
    × (list_any (λ k. k.category == offer.category) t.categories ≡ true) × (length t.items < most_items)
offer_pass t moment caller offer none =
    tests_pass (is_lot offer.lot.now) _ (are_terms moment offer.title.now offer.text.now offer.start offer.buy_now offer.end offer.reserve)
    (list_any (λ k. k.category == offer.category) t.categories) (length t.items) none

-- the new item is the offer's
pub record IsOffered (caller : ℕ) (offer : Offer) (item : NewItem) : Type 0 where
  pub seller : item.seller ≡ caller
  pub category : item.category ≡ offer.category
  pub lot : item.lot.now ≡ offer.lot.now
  pub title : item.title.now ≡ offer.title.now
  pub text : item.text.now ≡ offer.text.now
  pub start : item.start ≡ offer.start
  pub buy_now : item.buy_now ≡ offer.buy_now
  pub end : item.end ≡ offer.end
  pub reserve : item.reserve ≡ offer.reserve

pub offered : (caller : ℕ) (offer : Offer) (taken : ℕ × Prices) → AreOf offer taken
    → IsOffered caller offer (record { seller = caller; category = taken.0; lot = offer.lot; title = offer.title; text = offer.text; start = taken.1.start; buy_now = taken.1.buy_now; end = offer.end; reserve = taken.1.reserve })
offered caller offer taken same = record {
  seller = refl;
  category = same.category;
  lot = refl;
  title = refl;
  text = refl;
  start = same.start;
  buy_now = same.buy_now;
  end = refl;
  reserve = same.reserve;
}

-- and fits where nothing is reported
pub listing_fits : (t : Tables) (moment caller : ℕ) (offer : Offer) (item : NewItem) → IsOffered caller offer item
    → None ≡ first_failing (first_rules t moment caller false ++ offer_rules t moment caller offer) → ListingFits t moment item
listing_fits t moment caller offer item is report =
    let fits = caller_fits t moment caller false (first_pass (first_rules t moment caller false) (offer_rules t moment caller offer) (sym report)) in
    let pass = offer_pass t moment caller offer (later_pass (first_rules t moment caller false) (offer_rules t moment caller offer) (sym report)) in
    let terms = all_pass (is_text 1 80 offer.title.now) (is_text 0 2000 offer.text.now) (nat_le 1 offer.start) (nat_le offer.start most_cents)
    (is_buy_now offer.start offer.buy_now) (nat_lt moment offer.end) (nat_le offer.end last_moment) (is_reserve offer.start offer.buy_now offer.reserve) pass.2 in
    record {
      moment_fits = fits.moment_fits;
      seller_there = rw is.seller (fits.there refl);
      category_there = rw is.category (some_found (λ k. k.category == offer.category) t.categories ∙ pass.3);
      lot_fits = rw is.lot pass.1;
      title_fits = rw is.title terms.0;
      text_fits = rw is.text terms.1;
      start_fits = rw is.start (is_within 1 offer.start terms.2, is_within offer.start most_cents terms.3);
      buy_now_fits = rw (is.buy_now, is.start) (buy_now_within offer.start offer.buy_now terms.4);
      end_fits = rw is.end (is_within offer.end last_moment terms.6);
      reserve_fits = rw (is.reserve, is.start, is.buy_now) (reserve_within offer.start offer.buy_now offer.reserve terms.7);
      room = pass.4;
    }

lot_free : (t : Tables) (moment caller : ℕ) (offer : Offer) → None ≡ first_failing (first_rules t moment caller false ++ offer_rules t moment caller offer)
    → item_with_lot t caller offer.lot.now ≡ None
lot_free t moment caller offer report =
    let pass = offer_pass t moment caller offer (later_pass (first_rules t moment caller false) (offer_rules t moment caller offer) (sym report)) in
    rw (none_found (λ (row : ItemRow). (row.item.terms.seller == caller) && same_text row.item.lot offer.lot.now) t.items pass.0) refl

-- nothing in a history names an item over the number of those that are listed
listed_small : (h : History) (i : ℕ) (l : Listing) → listing_at (listings h) i ≡ Some l → i ≤ length (listings h)
listed_small h i l found =
    let small : l.item ≤ length (listings h) = found_has (λ (a : Listing). a.item ≤ length (listings h)) (λ a. a.item == i) (listings h) l (numbered h).small found in
    let test = found_is (λ (a : Listing). a.item == i) (listings h) l found in
    let at' : l.item ≡ i = same_number l.item i test in
    omega arith

unlisted : (h : History) (i : ℕ) (l : Listing) → length (listings h) < i → listing_at (listings h) i ≡ Some l → ⊥
unlisted h i l above found = let small = listed_small h i l found in omega arith

no_bids : (h : History) (i : ℕ) (bids : List bid.Bid) → length (listings h) < i → AllByRecursion (BidIn h i) bids → bids ≡ []
no_bids h i [] above all = refl
no_bids h i (b ∷ bids) above all = let one = all.0 in absurd (unlisted h i one.listing above one.listed)

no_purchase : (h : History) (i : ℕ) (ps : List Purchase) → length (listings h) < i → AllByRecursion (PurchaseIn h) ps → find (λ p. p.item == i) ps ≡ None
no_purchase h i [] above all = refl
no_purchase h i (p ∷ ps) above all =
    let one = all.0 in
    elim (by_test (p.item == i)) [
      | inl is ↦ absurd (let at' : p.item ≡ i = same_number p.item i is in unlisted h i one.listing above (rw at' at one.listed))
      | inr not ↦ rw not (no_purchase h i ps above all.1)
    ]

every_joined : {A : Type 0} (P : A → Type 0) (xs ys : List A) → AllByRecursion P xs → AllByRecursion P ys → AllByRecursion P (xs ++ ys)
every_joined P [] ys all also = also
every_joined P (x ∷ xs) ys all also = (all.0, every_joined P xs ys all.1 also)

-- a close counts what was listed before it
closing_small : (moment listed : ℕ) (command : Command) → AllByRecursion (λ (c : Closing). c.listed ≤ listed) (closing_in moment listed command)
closing_small moment listed Close = (omega arith, tt)
closing_small moment listed _ = tt

more_listed : (h : History) (e : Entry) → length (listings h) ≤ length (listings (e ∷ h))
more_listed h e = simp length-append (omega arith)

closings_small : (h : History) → AllByRecursion (λ (c : Closing). c.listed ≤ length (listings h)) (closings h)
closings_small [] = tt
closings_small (e ∷ h) =
    let more = more_listed h e in
    every_as (λ (c : Closing). c.listed ≤ length (listings h)) (λ (c : Closing). c.listed ≤ length (listings (e ∷ h))) (closings (e ∷ h)) (λ c le. omega arith)
    (every_joined (λ (c : Closing). c.listed ≤ length (listings h)) (closings h) (closing_in e.moment (length (listings h)) e.command) (closings_small h) (closing_small e.moment (length (listings h)) e.command))

none_takes : (count i last : ℕ) (cs : List Closing) → count < i → AllByRecursion (λ (c : Closing). c.listed ≤ count) cs
    → list_any (λ (c : Closing). nat_le i c.listed && nat_le last c.moment) cs ≡ false
none_takes count i last [] above all = refl
none_takes count i last (c ∷ cs) above all =
    let le : c.listed ≤ count = all.0 in
    let not : nat_le i c.listed ≡ false = grind (arith, nat_tests) in
    rw not (none_takes count i last cs above all.1)

-- what is settled is listed
settlement_small : (settings : Settings) (h : History) (moment caller : ℕ) (command : Command) → verdict settings h moment caller command ≡ None
    → AllByRecursion (λ s. s ≤ length (listings h)) (settlement_in command)
settlement_small settings h moment caller (Settle i) none =
    let pass = item_pass settings h i (by_terms settlement_rules) (own_pass settings h moment caller (Settle i) none) in
    (listed_small h i pass.listing pass.listed, tt)
settlement_small settings h moment caller _ none = tt

settlements_small : (settings : Settings) (h : History) → IsHistory settings h → AllByRecursion (λ s. s ≤ length (listings h)) (settlements h)
settlements_small settings [] is = tt
settlements_small settings (e ∷ h) is =
    let more = more_listed h e in
    every_as (λ s. s ≤ length (listings h)) (λ s. s ≤ length (listings (e ∷ h))) (settlements (e ∷ h)) (λ s le. omega arith)
    (every_joined (λ s. s ≤ length (listings h)) (settlements h) (settlement_in e.command) (settlements_small settings h is.1) (settlement_small settings h e.moment e.caller e.command is.0))

none_settled : (count i : ℕ) (ss : List ℕ) → count < i → AllByRecursion (λ s. s ≤ count) ss → list_any (λ s. s == i) ss ≡ false
none_settled count i [] above all = refl
none_settled count i (s ∷ ss) above all =
    let le : s ≤ count = all.0 in
    let not : (s == i) ≡ false = grind (arith, nat_tests) in
    rw not (none_settled count i ss above all.1)

-- the listing of a new item
listed_at : ℕ → NewItem → Entry
listed_at moment item = entry moment item.seller (Listed item.category item.lot.now item.title.now item.text.now item.start item.buy_now item.end item.reserve)

-- the row of the new item
new_row : (settings : Settings) (h : History) (moment : ℕ) (item : NewItem) → IsHistory settings h
    → new_item (length (listings h) + 1) item ≡ row_now settings (listed_at moment item ∷ h) (record {
      item = length (listings h) + 1;
      seller = item.seller;
      category = item.category;
      lot = item.lot.now;
      title = item.title.now;
      text = item.text.now;
      start = item.start;
      buy_now = item.buy_now;
      end = item.end;
      set = tables_set h;
      reserve = item.reserve;
    })
unfolding leader price second listed_at
new_row settings h moment item is =
    let i : ℕ = length (listings h) + 1 in
    let above : length (listings h) < i = omega arith in
    let bids : bids_on h i ≡ [] = no_bids h i (bids_on h i) above (bids_fit settings h i is).all in
    let bought : find (λ (p : Purchase). p.item == i) (purchases h) ≡ None = no_purchase h i (purchases h) above (purchases_fit settings h is) in
    let taken : list_any (λ (c : Closing). nat_le i c.listed && nat_le item.end c.moment) (closings h) ≡ false =
    none_takes (length (listings h)) i item.end (closings h) above (closings_small h) in
    let settled : list_any (λ s. s == i) (settlements h) ≡ false = none_settled (length (listings h)) i (settlements h) above (settlements_small settings h is) in
    simp append-nil (rw (bids, bought, taken, settled, price-none (newest_of settings.bands (tables_set h)) (new_opening item)) refl)

row_still : (settings : Settings) (h : History) (moment : ℕ) (item : NewItem) (l : Listing) → row_now settings h l ≡ row_now settings (listed_at moment item ∷ h) l
unfolding listed_at
row_still settings h moment item l = simp append-nil

listed_rows : (settings : Settings) (h : History) (moment : ℕ) (item : NewItem) → IsHistory settings h
    → map (row_now settings h) (listings h) ++ new_item (length (map (row_now settings h) (listings h)) + 1) item ∷ []
    ≡ map (row_now settings (listed_at moment item ∷ h)) (listings (listed_at moment item ∷ h))
unfolding listed_at
listed_rows settings h moment item is =
    each_and_new (row_now settings h) (row_now settings (listed_at moment item ∷ h)) (listings h) _ _
    (row_still settings h moment item)
    (rw (length-map (listings h) (row_now settings h)) (new_row settings h moment item is))

list_leads : (settings : Settings) (h : History) (moment : ℕ) (item : NewItem) → IsHistory settings h
    → changed (tables_of settings h) (change.List moment item) ≡ tables_of settings (listed_at moment item ∷ h)
unfolding changed tables_of questions listed_at
list_leads settings h moment item is = rw (listed_rows settings h moment item is) (simp append-nil)

-- what is offered is what is listed
offered_at : (moment caller : ℕ) (offer : Offer) (item : NewItem) → IsOffered caller offer item
    → listed_at moment item ≡ entry moment caller (Listed offer.category offer.lot.now offer.title.now offer.text.now offer.start offer.buy_now offer.end offer.reserve)
unfolding listed_at
offered_at moment caller offer item is = rw (is.seller, is.category, is.lot, is.title, is.text, is.start, is.buy_now, is.end, is.reserve) refl

pub list_accepts : (t : Tables) (settings : Settings) (h : History) (moment caller : ℕ) (offer : Offer) (item : NewItem) → IsHistory settings h
    → IsOffered caller offer item → t ≡ tables_of settings h
    → None ≡ first_failing (first_rules t moment caller false ++ offer_rules t moment caller offer)
    → IsAccepted settings h moment caller (Listed offer.category offer.lot.now offer.title.now offer.text.now offer.start offer.buy_now offer.end offer.reserve) (change.List moment item)
list_accepts t settings h moment caller offer item is offered e report = record {
  accepted = list_verdict t settings h moment caller offer e ∙ sym report;
  fits = rw e at (listing_fits t moment caller offer item offered report);
  free = rw (offered.seller, offered.lot) (rw e at (lot_free t moment caller offer report));
  leads = list_leads settings h moment item is ∙ ap (λ one. tables_of settings (one ∷ h)) (offered_at moment caller offer item offered);
}
