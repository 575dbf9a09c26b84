-- The bids on an item of a history are accepted bids, and what was bought at once has none.
use Rattle.std.proofs.Common.{◌≡◌, ℕ, ◌+◌, List, [], ◌∷◌, ◌++◌, length, Bool, true, false, not, refl, ap, sym, arith, inl, inr, ◌⊎◌, ◌∙◌, Option, Some, None, subst}
use Rattle.std.specs.Prelude.{◌==◌, ◌&&◌, if◌then◌else◌, find, is_none, is_some, nat_le, nat_lt}
use Rattle.std.specs.List.{AllByRecursion}
use Rattle.std.proofs.lemmas.Bool.Decides.{nat_tests}
use Rattle.std.proofs.lemmas.List.{append-nil}
use Rattle.steps.specs.Table.{over}
use Rattle.proxy.specs.Opening.{Opening}
use Rattle.proxy.specs.Accepted.{AreAccepted, IsAccepted}
use Rattle.proxy.specs.Bids.{floor, greatest, leads, price, refusal}
use Rattle.proxy.specs.Rules.{first_failing}
use Rattle.proxy.specs.declared.bid.Bid as bid
use Rattle.proxy.specs.declared.bid.BidRefusal.TheVariants as no_bid
use Rattle.house_rows.specs.declared.command.Command.{Command}
use Rattle.house_rows.specs.declared.command.Command.TheVariants.{Bid, Buy}
use Rattle.house_rows.specs.declared.item.ItemShown.{ItemShown}
use Rattle.house_rows.specs.declared.refusal.Refusal.TheVariants.{Low, NotHigher, Limit, OwnItem, NotOpen, Ended, Range, NoBuyNow, HasBids}
use Rattle.house_rows.specs.declared.settings.Settings.{Settings}
use Rattle.house_rows.specs.Bids.{bids_on}
use Rattle.house_rows.specs.History.{Entry, History}
use Rattle.house_rows.specs.Items.{Purchase, is_bought, is_open, is_settled, is_taken, leader_of, purchase_in, purchase_of, purchases, shown_now, state_of, close_sells, met_of}
use Rattle.house_rows.specs.Limits.{most_bids, most_cents}
use Rattle.house_rows.specs.Listings.{Listing, bands_by, listed_opening, listing_at, listings}
use Rattle.house_rows.specs.Runs.{entry}
use Rattle.house_rows.specs.Verdict.{IsHistory, Rule, bid_rules, by_terms, purchase_rules, rules, verdict}
use Rattle.house_rows.proofs.Every.{every_as, every_more, found_has, found_is}
use Rattle.house_rows.proofs.OpenItems.{bid_led, not_bought, open_parts, rules_of}
use Rattle.house_rows.proofs.Passed.{item_pass, own_pass}
use Rattle.house_rows.proofs.Put.{by_test}
use Rattle.house_rows.proofs.RangedBids.{BidIn, bids_fit, listed_more}
use Rattle.house_rows.proofs.RangedItems.{one_listing}
use Rattle.house_rows.proofs.RangedTalk.{listing_is}

-- a list with one more element, parted at an element, is parted at the last or before it
parted : {A : Type 0} (xs before later : List A) (x y : A) → xs ++ x ∷ [] ≡ before ++ y ∷ later
    → ((xs ≡ before) × (x ≡ y)) ⊎ ((rest : List A) × (xs ≡ before ++ y ∷ rest))
parted [] [] later x y e = inl (refl, cc)
parted [] (a ∷ before) later x y e = absurd (nothing before later y (let f : [] ≡ before ++ y ∷ later = cc in f)) where
  nothing : {A : Type 0} (before later : List A) (y : A) → [] ≡ before ++ y ∷ later → ⊥
  nothing [] later y e = cc
  nothing (a ∷ before) later y e = cc
parted (a ∷ xs) [] later x y e = inr (xs, ap (λ z. z ∷ xs) (let f : a ≡ y = cc in f))
parted (a ∷ xs) (b ∷ before) later x y e =
    elim (parted xs before later x y cc) [
      | inl last ↦ inl (let f : a ≡ b = cc in let g = last.0 in cc, last.1)
      | inr inner ↦ inr (inner.0, let f : a ≡ b = cc in let g = inner.1 in cc)
    ]

pub none_accepted : (bands : List (ℕ × ℕ)) (opening : Opening) → AreAccepted bands opening []
none_accepted bands opening [] b later e = cc
none_accepted bands opening (a ∷ before) b later e = cc

-- accepted bids with one more that is accepted are accepted
pub more_accepted : (bands : List (ℕ × ℕ)) (opening : Opening) (bids : List bid.Bid) (b : bid.Bid) → AreAccepted bands opening bids → IsAccepted bands opening bids b → AreAccepted bands opening (bids ++ b ∷ [])
more_accepted bands opening bids b all one before x later e =
    elim (parted bids before later b x e) [
      | inl last ↦ (let as' = last.0 in let is' = last.1 in rw is' at (rw as' at one))
      | inr inner ↦ all before x inner.0 inner.1
    ]

-- the floor by the count is the floor of the bids
pub floor_is : (bands : List (ℕ × ℕ)) (opening : Opening) (bids : List bid.Bid) → (if length bids == 0 then opening.start else over bands (price bands opening bids)) ≡ floor bands opening bids
floor_is bands opening [] = refl
floor_is bands opening (b ∷ bids) = grind (arith, nat_tests)

-- a bid's own rules, where its others pass
own_rules : (a b d range raises low full : Bool) (f : ℕ)
    → first_failing ((a, OwnItem) ∷ (b, NotOpen) ∷ (d, Ended) ∷ (range, Range) ∷ (raises, NotHigher) ∷ (low, Low f) ∷ (full, Limit) ∷ []) ≡ None
    → first_failing ((raises, no_bid.NotHigher) ∷ (low, no_bid.Low f) ∷ (full, no_bid.Full) ∷ []) ≡ None
own_rules a b d range raises low full f none = grind (arith, nat_tests, none)

-- what the house accepts as a bid on an item, the item's bids accept
pub bid_accepted : (settings : Settings) (h : History) (t c m : ℕ) (l : Listing) → listing_at (listings h) l.item ≡ Some l → verdict settings h t c (Bid l.item m) ≡ None
    → refusal (bands_by settings l) (listed_opening l) (bids_on h l.item) c m ≡ None
bid_accepted settings h t c m l listed none =
    let is : is_open (state_of h l) ≡ true = bid_led settings h t c l.item m l listed none (grind (arith, nat_tests)) in
    let parts = open_parts (is_bought h l.item) (is_taken h l) (close_sells (leader_of h l) (met_of h l)) (is_settled h l.item) is in
    let unsold : purchase_of h l.item ≡ None = not_bought h l.item (purchase_of h l.item) refl parts.bought_not in
    let own : first_failing (rules settings h t c (Bid l.item m)) ≡ None = own_pass settings h t c (Bid l.item m) none in
    let more : ItemShown → List Rule = bid_rules t c m (greatest (bids_on h l.item) c) in
    let pass : first_failing (more (shown_now settings h l)) ≡ None = rules_of settings h l more listed (item_pass settings h l.item more own) in
    let bids : List bid.Bid = bids_on h l.item in
    let least : ℕ = if length bids == 0 then l.start else over (bands_by settings l) (price (bands_by settings l) (listed_opening l) bids) in
    let rest = own_rules (l.seller == c) false (nat_le l.end t) (nat_lt most_cents m) (leads bids c && nat_le m (greatest bids c)) (not (leads bids c) && nat_lt m least)
    (nat_le most_bids (length bids)) least (rw (is, unsold) at pass) in
    rw (← floor_is (bands_by settings l) (listed_opening l) bids) rest

-- the listing of an item is the one that is found, or it is the new one
before_listed : (h : History) (e : Entry) (l : Listing) → listing_at (listings (e ∷ h)) l.item ≡ Some l → (o : Option Listing) → listing_at (listings h) l.item ≡ o → (o ≡ None) ⊎ (o ≡ Some l)
before_listed h e l listed None is = inl refl
before_listed h e l listed (Some k) is =
    inr (sym (sym listed ∙ listed_more h e l.item k is))

-- an item that isn't listed has no bids
unlisted : (settings : Settings) (h : History) (i : ℕ) → IsHistory settings h → listing_at (listings h) i ≡ None → bids_on h i ≡ []
unlisted settings h i is none = by_bids (bids_on h i) (bids_fit settings h i is).all where
  by_bids : (bids : List bid.Bid) → AllByRecursion (BidIn h i) bids → bids ≡ []
  by_bids [] all = refl
  by_bids (b ∷ bids) all = absurd (let some = all.0.listed in cc)

accepted_on : (settings : Settings) (h : History) (t c : ℕ) (command : Command) (l : Listing) → verdict settings h t c command ≡ None → listing_at (listings h) l.item ≡ Some l
    → AreAccepted (bands_by settings l) (listed_opening l) (bids_on h l.item) → AreAccepted (bands_by settings l) (listed_opening l) (bids_on (entry t c command ∷ h) l.item)
accepted_on settings h t c (Bid j m) l none listed all =
    elim (by_test (j == l.item)) [
      | inl here ↦ (let at' : j ≡ l.item = grind (arith, nat_tests) in
          rw here (more_accepted (bands_by settings l) (listed_opening l) (bids_on h l.item) (record { member = c; maximum = m; no = length (bids_on h l.item) + 1 }) all (record {
            accepted = bid_accepted settings h t c m l listed (rw at' at none);
            numbered = refl;
          })))
      | inr other ↦ rw other (simp append-nil all)
    ]
accepted_on settings h t c command l none listed all = simp append-nil all

accepted_new : (settings : Settings) (h : History) (t c : ℕ) (command : Command) (l : Listing) → verdict settings h t c command ≡ None → listing_at (listings h) l.item ≡ None
    → IsHistory settings h → AreAccepted (bands_by settings l) (listed_opening l) (bids_on (entry t c command ∷ h) l.item)
accepted_new settings h t c (Bid j m) l none free is =
    elim (by_test (j == l.item)) [
      | inl here ↦ (let at' : j ≡ l.item = grind (arith, nat_tests) in
          let more : ItemShown → List Rule = bid_rules t c m (greatest (bids_on h l.item) c) in
          let pass = item_pass settings h l.item more (own_pass settings h t c (Bid l.item m) (rw at' at none)) in
          absurd (let e : None ≡ Some pass.listing = sym free ∙ pass.listed in cc))
      | inr other ↦ rw (other, unlisted settings h l.item is free) (none_accepted (bands_by settings l) (listed_opening l))
    ]
accepted_new settings h t c command l none free is = rw (unlisted settings h l.item is free) (none_accepted (bands_by settings l) (listed_opening l))

-- the bids on a listed item are accepted bids
pub bids_are_accepted : (settings : Settings) (h : History) → IsHistory settings h → (l : Listing) → listing_at (listings h) l.item ≡ Some l → AreAccepted (bands_by settings l) (listed_opening l) (bids_on h l.item)
bids_are_accepted settings [] is l listed = none_accepted (bands_by settings l) (listed_opening l)
bids_are_accepted settings (e ∷ h) is l listed =
    elim (before_listed h e l listed (listing_at (listings h) l.item) refl) [
      | inl not ↦ accepted_new settings h e.moment e.caller e.command l is.0 not is.1
      | inr before ↦ accepted_on settings h e.moment e.caller e.command l is.0 before (bids_are_accepted settings h is.1 l before)
    ]

-- what was bought at once has a buy-now price and no bid
record BoughtIn (h : History) (p : Purchase) : Type 0 where
  listing : Listing
  listed : listing_at (listings h) p.item ≡ Some listing
  bought : is_bought h p.item ≡ true
  no_bid : bids_on h p.item ≡ []
  buy_now : is_some listing.buy_now ≡ true

some_more : (p : Purchase → Bool) (ps more : List Purchase) → is_some (find p ps) ≡ true → is_some (find p (ps ++ more)) ≡ true
some_more p [] more some = cc
some_more p (x ∷ ps) more some = elim (by_test (p x)) [ inl is ↦ rw is refl | inr not ↦ rw not (some_more p ps more (rw not at some)) ]

some_last : (i : ℕ) (ps : List Purchase) (p : Purchase) → (p.item == i) ≡ true → is_some (find (λ p. p.item == i) (ps ++ p ∷ [])) ≡ true
some_last i [] p here = rw here refl
some_last i (q ∷ ps) p here = elim (by_test (q.item == i)) [ inl is ↦ rw is refl | inr not ↦ rw not (some_last i ps p here) ]

-- no bid is accepted after a purchase
no_bid_after : (settings : Settings) (h : History) (t c : ℕ) (command : Command) (p : Purchase) → verdict settings h t c command ≡ None → BoughtIn h p → bids_on (entry t c command ∷ h) p.item ≡ []
no_bid_after settings h t c (Bid j m) p none is =
    elim (by_test (j == p.item)) [
      | inl here ↦ (let same : is.listing.item ≡ p.item = listing_is h p.item is.listing is.listed in
          let listed : listing_at (listings h) is.listing.item ≡ Some is.listing = subst (λ (i : ℕ). listing_at (listings h) i ≡ Some is.listing) (sym same) is.listed in
          let on : (j == is.listing.item) ≡ true = rw same here in
          let open' = bid_led settings h t c j m is.listing listed none on in
          let parts = open_parts (is_bought h is.listing.item) (is_taken h is.listing) (close_sells (leader_of h is.listing) (met_of h is.listing)) (is_settled h is.listing.item) open' in
          let not : is_bought h p.item ≡ false = rw same at parts.bought_not in
          absurd (let e : true ≡ false = sym is.bought ∙ not in cc))
      | inr other ↦ rw (other, is.no_bid) refl
    ]
no_bid_after settings h t c command p none is = rw is.no_bid refl

bought_more : (settings : Settings) (h : History) (t c : ℕ) (command : Command) (p : Purchase) → verdict settings h t c command ≡ None → BoughtIn h p → BoughtIn (entry t c command ∷ h) p
bought_more settings h t c command p none is = record {
  listing = is.listing;
  listed = listed_more h (entry t c command) p.item is.listing is.listed;
  bought = some_more (λ q. q.item == p.item) (purchases h) (purchase_in t c command) is.bought;
  no_bid = no_bid_after settings h t c command p none is;
  buy_now = is.buy_now;
}

buy_pass : (a b d missing bid : Bool)
    → first_failing ((a, OwnItem) ∷ (b, NotOpen) ∷ (d, Ended) ∷ (missing, NoBuyNow) ∷ (bid, HasBids) ∷ []) ≡ None → (missing ≡ false) × (bid ≡ false)
buy_pass a b d missing bid none = (grind (arith, nat_tests, none), grind (arith, nat_tests, none))

some_is : (o : Option ℕ) → is_none o ≡ false → is_some o ≡ true
some_is None not = cc
some_is (Some x) not = refl

none_left : (bids : List bid.Bid) → nat_lt 0 (length bids) ≡ false → bids ≡ []
none_left [] not = refl
none_left (b ∷ bids) not = absurd (grind (arith, nat_tests, not))

bought_now : (settings : Settings) (h : History) (t c i : ℕ) → verdict settings h t c (Buy i) ≡ None → BoughtIn (entry t c (Buy i) ∷ h) (record { item = i; buyer = c; moment = t })
bought_now settings h t c i none =
    let own : first_failing (rules settings h t c (Buy i)) ≡ None = own_pass settings h t c (Buy i) none in
    let pass = item_pass settings h i (by_terms (purchase_rules t c)) own in
    let l : Listing = pass.listing in
    let same : l.item ≡ i = listing_is h i l pass.listed in
    let rest = buy_pass (l.seller == c) (not (is_open (state_of h l))) (nat_le l.end t) (is_none l.buy_now) (nat_lt 0 (length (bids_on h l.item))) pass.pass in
    let free : bids_on h l.item ≡ [] = none_left (bids_on h l.item) rest.1 in
    let free' : bids_on h i ≡ [] = rw same at free in
    record {
      listing = l;
      listed = listed_more h (entry t c (Buy i)) i l pass.listed;
      bought = some_last i (purchases h) (record { item = i; buyer = c; moment = t }) (grind (arith, nat_tests));
      no_bid = rw free' refl;
      buy_now = some_is l.buy_now rest.0;
    }

all_bought : (settings : Settings) (h : History) (t c : ℕ) (command : Command) → verdict settings h t c command ≡ None → AllByRecursion (BoughtIn h) (purchases h) → AllByRecursion (BoughtIn (entry t c command ∷ h)) (purchases h)
all_bought settings h t c command none all = every_as (BoughtIn h) (BoughtIn (entry t c command ∷ h)) (purchases h) (λ p is. bought_more settings h t c command p none is) all

bought_step : (settings : Settings) (h : History) (t c : ℕ) (command : Command) → verdict settings h t c command ≡ None → AllByRecursion (BoughtIn h) (purchases h) → AllByRecursion (BoughtIn (entry t c command ∷ h)) (purchases (entry t c command ∷ h))
bought_step settings h t c (Buy i) none all =
    every_more (BoughtIn (entry t c (Buy i) ∷ h)) (purchases h) (record { item = i; buyer = c; moment = t }) (all_bought settings h t c (Buy i) none all) (bought_now settings h t c i none)
bought_step settings h t c command none all = simp append-nil (all_bought settings h t c command none all)

all_are_bought : (settings : Settings) (h : History) → IsHistory settings h → AllByRecursion (BoughtIn h) (purchases h)
all_are_bought settings [] is = tt
all_are_bought settings (e ∷ h) is = bought_step settings h e.moment e.caller e.command is.0 (all_are_bought settings h is.1)

-- of a listed item that was bought
pub bought_known : (settings : Settings) (h : History) (l : Listing) → IsHistory settings h → listing_at (listings h) l.item ≡ Some l → is_bought h l.item ≡ true → (bids_on h l.item ≡ []) × (is_some l.buy_now ≡ true)
bought_known settings h l is listed bought = of_purchase (purchase_of h l.item) refl bought where
  of_purchase : (o : Option Purchase) → purchase_of h l.item ≡ o → is_some o ≡ true → (bids_on h l.item ≡ []) × (is_some l.buy_now ≡ true)
  of_purchase None found some = cc
  of_purchase (Some p) found some =
      let it = found_has (BoughtIn h) (λ p. p.item == l.item) (purchases h) p (all_are_bought settings h is) found in
      let test = found_is (λ (p : Purchase). p.item == l.item) (purchases h) p found in
      let at' : p.item ≡ l.item = grind (arith, nat_tests, test) in
      let there : listing_at (listings h) l.item ≡ Some it.listing = subst (λ (i : ℕ). listing_at (listings h) i ≡ Some it.listing) at' it.listed in
      let e : it.listing ≡ l = one_listing (listing_at (listings h) l.item) it.listing l there listed in
      (subst (λ (i : ℕ). bids_on h i ≡ []) at' it.no_bid, subst (λ (x : Listing). is_some x.buy_now ≡ true) e it.buy_now)
