-- Bids and purchases of a history are those of other members than the seller, and in their ranges.
use Rattle.std.proofs.Common.{◌≡◌, ◌≢◌, ℕ, ◌+◌, ◌≤◌, ◌<◌, List, [], ◌∷◌, length, Bool, true, false, not, refl, ◌∙◌, sym, arith, inl, inr, Option, Some, None}
use Rattle.std.specs.Prelude.{◌==◌, ◌&&◌, if◌then◌else◌, nat_le, nat_lt, unwrap_or, IfSome}
use Rattle.std.specs.List.{AllByRecursion}
use Rattle.std.proofs.lemmas.Bool.Decides.{nat_tests}
use Rattle.std.proofs.lemmas.List.{append-nil, length-append}
use Rattle.proxy.specs.Opening.{Opening}
use Rattle.proxy.specs.Bids.{first_at, greatest, greatest_if_any, greatest_of, is_leader, leader, maxima, price, price_by_bids, second, top, with_reserve}
use Rattle.proxy.specs.Rules.{first_failing}
use Rattle.proxy.specs.declared.bid.Bid as bid
use Rattle.house_rows.specs.declared.command.Command.{Command}
use Rattle.house_rows.specs.declared.command.Command.TheVariants.{Register, AddCategory, List as Listed, Bid, Buy, Close, Settle, Watch, Unwatch, Ask, Answer, Feedback, SetBands}
use Rattle.house_rows.specs.declared.item.ItemShown.{ItemShown}
use Rattle.house_rows.specs.declared.item.Terms.{Terms}
use Rattle.house_rows.specs.declared.refusal.Refusal.{Refusal}
use Rattle.house_rows.specs.declared.refusal.Refusal.TheVariants.{Low, NotHigher, Limit, OwnItem, NotOpen, Ended, Range}
use Rattle.house_rows.specs.declared.settings.Settings.{Settings}
use Rattle.house_rows.specs.Fits.{IsMember, IsMoment}
use Rattle.house_rows.specs.History.{Entry, History}
use Rattle.house_rows.specs.Bids.{bids_on}
use Rattle.house_rows.specs.Items.{Purchase, floor_of, is_open, purchases, state_of, terms_now}
use Rattle.house_rows.specs.Limits.{most_bids, most_cents}
use Rattle.house_rows.specs.Listings.{Listing, bands_by, listing_at, listing_in, listings, tables_set}
use Rattle.house_rows.specs.Runs.{entry}
use Rattle.house_rows.specs.Verdict.{IsHistory, bid_rules, by_terms, purchase_rules, rules, verdict}
use Rattle.house_rows.proofs.Every.{every_as, every_more, found_is, found_more}
use Rattle.house_rows.proofs.Passed.{common_pass, item_pass, own_pass}
use Rattle.house_rows.proofs.Put.{by_test}
use Rattle.house_rows.proofs.Ranged.{caller_is}

apart_from : (a b : ℕ) → (a == b) ≡ false → b ≢ a
apart_from a b not e = let f : (a == b) ≡ true = grind (arith, nat_tests) in let g : true ≡ false = sym f ∙ not in cc

-- a listing that is there stays
pub listed_more : (h : History) (e : Entry) (i : ℕ) (l : Listing) → listing_at (listings h) i ≡ Some l → listing_at (listings (e ∷ h)) i ≡ Some l
listed_more h e i l found = found_more (λ l. l.item == i) (listings h) (listing_in (length (listings h) + 1) (tables_set h) e.caller e.command) l found

-- a bid on an item
pub record BidIn (h : History) (i : ℕ) (b : bid.Bid) : Type 0 where
  pub listing : Listing
  pub listed : listing_at (listings h) i ≡ Some listing
  pub member : IsMember b.member
  pub maximum : b.maximum ≤ most_cents
  pub apart : b.member ≢ listing.seller

bid_in_more : (h : History) (e : Entry) (i : ℕ) (b : bid.Bid) → BidIn h i b → BidIn (e ∷ h) i b
bid_in_more h e i b is = record { listing = is.listing; listed = listed_more h e i is.listing is.listed; member = is.member; maximum = is.maximum; apart = is.apart }

pub record BidsFit (h : History) (i : ℕ) (bids : List bid.Bid) : Type 0 where
  pub all : AllByRecursion (BidIn h i) bids
  pub room : length bids ≤ most_bids

bids_more : (h : History) (e : Entry) (i : ℕ) (bids : List bid.Bid) → BidsFit h i bids → BidsFit (e ∷ h) i bids
bids_more h e i bids fits = record { all = every_as (BidIn h i) (BidIn (e ∷ h) i) bids (bid_in_more h e i) fits.all; room = fits.room }

bid_pass : (a b d range raises low full : Bool) (f : ℕ)
    → first_failing ((a, OwnItem) ∷ (b, NotOpen) ∷ (d, Ended) ∷ (range, Range) ∷ (raises, NotHigher) ∷ (low, Low f) ∷ (full, Limit) ∷ []) ≡ None
    → (a ≡ false) × (range ≡ false) × (full ≡ false)
bid_pass a b d range raises low full f none = (grind (arith, nat_tests, none), grind (arith, nat_tests, none), grind (arith, nat_tests, none))

bid_fits : (settings : Settings) (h : History) (t c i m : ℕ) → IsHistory settings h → verdict settings h t c (Bid i m) ≡ None → BidsFit h i (bids_on h i) → BidsFit (entry t c (Bid i m) ∷ h) i (bids_on (entry t c (Bid i m) ∷ h) i)
bid_fits settings h t c i m is none fits =
    let own : first_failing (rules settings h t c (Bid i m)) ≡ None = own_pass settings h t c (Bid i m) none in
    let more : ItemShown → List (Bool × Refusal) = bid_rules t c m (greatest (bids_on h i) c) in
    let pass = item_pass settings h i more own in
    let l : Listing = pass.listing in
    let terms : Terms = terms_now settings h l in
    let rest = bid_pass (l.seller == c) (not (is_open (state_of h l))) (nat_le l.end t) (nat_lt most_cents m) (is_leader terms.leader c && nat_le m (greatest (bids_on h i) c))
    (not (is_leader terms.leader c) && nat_lt m (unwrap_or (floor_of (bands_by settings l) terms) 0)) (nat_le most_bids terms.count) (unwrap_or (floor_of (bands_by settings l) terms) 0) pass.pass in
    let own_not = rest.0 in let within = rest.1 in let full = rest.2 in
    let same : l.item ≡ i = item_is (listings h) i l pass.listed in
    let full' : nat_le most_bids (length (bids_on h i)) ≡ false = rw same at full in
    let here : (i == i) ≡ true = grind (arith, nat_tests) in
    rw here (record {
      all = every_more (BidIn (entry t c (Bid i m) ∷ h) i) (bids_on h i) (record { member = c; maximum = m; no = length (bids_on h i) + 1 }) (bids_more h (entry t c (Bid i m)) i (bids_on h i) fits).all (record {
        listing = l;
        listed = listed_more h (entry t c (Bid i m)) i l pass.listed;
        member = caller_is settings h t c false is (common_pass settings h t c (Bid i m) none) refl;
        maximum = grind (arith, nat_tests, within);
        apart = apart_from l.seller c own_not;
      });
      room = simp length-append (let lt : length (bids_on h i) < most_bids = grind (arith, nat_tests, full') in omega arith);
    }) where
      item_is : (ls : List Listing) (i : ℕ) (l : Listing) → listing_at ls i ≡ Some l → l.item ≡ i
      item_is ls i l found = let e = found_is (λ (a : Listing). a.item == i) ls l found in grind (arith, nat_tests, e)

bids_step : (settings : Settings) (h : History) (t c i : ℕ) (command : Command) → IsHistory settings h → verdict settings h t c command ≡ None → BidsFit h i (bids_on h i) → BidsFit (entry t c command ∷ h) i (bids_on (entry t c command ∷ h) i)
bids_step settings h t c i (Bid j m) is none fits =
    elim (by_test (j == i)) [
      | inl here ↦ (let at : j ≡ i = grind (arith, nat_tests) in
          rw at (bid_fits settings h t c i m is (rw at at none) fits))
      | inr other ↦ rw other (simp append-nil (bids_more h (entry t c (Bid j m)) i (bids_on h i) fits))
    ]
bids_step settings h t c i (Register name) is none fits = simp append-nil (bids_more h (entry t c (Register name)) i (bids_on h i) fits)
bids_step settings h t c i (AddCategory name) is none fits = simp append-nil (bids_more h (entry t c (AddCategory name)) i (bids_on h i) fits)
bids_step settings h t c i (Listed category lot title text start buy_now end reserve) is none fits = simp append-nil (bids_more h (entry t c (Listed category lot title text start buy_now end reserve)) i (bids_on h i) fits)
bids_step settings h t c i (Buy j) is none fits = simp append-nil (bids_more h (entry t c (Buy j)) i (bids_on h i) fits)
bids_step settings h t c i Close is none fits = simp append-nil (bids_more h (entry t c Close) i (bids_on h i) fits)
bids_step settings h t c i (Settle j) is none fits = simp append-nil (bids_more h (entry t c (Settle j)) i (bids_on h i) fits)
bids_step settings h t c i (Watch j) is none fits = simp append-nil (bids_more h (entry t c (Watch j)) i (bids_on h i) fits)
bids_step settings h t c i (Unwatch j) is none fits = simp append-nil (bids_more h (entry t c (Unwatch j)) i (bids_on h i) fits)
bids_step settings h t c i (Ask j text) is none fits = simp append-nil (bids_more h (entry t c (Ask j text)) i (bids_on h i) fits)
bids_step settings h t c i (Answer j asker number text) is none fits = simp append-nil (bids_more h (entry t c (Answer j asker number text)) i (bids_on h i) fits)
bids_step settings h t c i (Feedback j rating text) is none fits = simp append-nil (bids_more h (entry t c (Feedback j rating text)) i (bids_on h i) fits)
bids_step settings h t c i (SetBands bands) is none fits = simp append-nil (bids_more h (entry t c (SetBands bands)) i (bids_on h i) fits)

pub bids_fit : (settings : Settings) (h : History) (i : ℕ) → IsHistory settings h → BidsFit h i (bids_on h i)
bids_fit settings [] i is = record { all = tt; room = omega arith }
bids_fit settings (e ∷ h) i is = bids_step settings h e.moment e.caller i e.command is.1 is.0 (bids_fit settings h i is.1)

-- a purchase
pub record PurchaseIn (h : History) (p : Purchase) : Type 0 where
  pub listing : Listing
  pub listed : listing_at (listings h) p.item ≡ Some listing
  pub buyer : IsMember p.buyer
  pub moment : IsMoment p.moment
  pub apart : p.buyer ≢ listing.seller

purchase_more : (h : History) (e : Entry) (p : Purchase) → PurchaseIn h p → PurchaseIn (e ∷ h) p
purchase_more h e p is = record { listing = is.listing; listed = listed_more h e p.item is.listing is.listed; buyer = is.buyer; moment = is.moment; apart = is.apart }

all_more : (h : History) (e : Entry) (ps : List Purchase) → AllByRecursion (PurchaseIn h) ps → AllByRecursion (PurchaseIn (e ∷ h)) ps
all_more h e ps all = every_as (PurchaseIn h) (PurchaseIn (e ∷ h)) ps (purchase_more h e) all

first_pass_only : (a : Bool) (rest : Option Refusal) → (if a then Some OwnItem else rest) ≡ None → a ≡ false
first_pass_only true rest none = cc
first_pass_only false rest none = refl

purchases_step : (settings : Settings) (h : History) (t c : ℕ) (command : Command) → IsHistory settings h → verdict settings h t c command ≡ None → AllByRecursion (PurchaseIn h) (purchases h) → AllByRecursion (PurchaseIn (entry t c command ∷ h)) (purchases (entry t c command ∷ h))
purchases_step settings h t c (Buy i) is none all =
    let own : first_failing (rules settings h t c (Buy i)) ≡ None = own_pass settings h t c (Buy i) none in
    let pass = item_pass settings h i (by_terms (purchase_rules t c)) own in
    let l : Listing = pass.listing in
    let own_not = first_pass_only (l.seller == c) _ pass.pass in
    let common = common_pass settings h t c (Buy i) none in
    every_more (PurchaseIn (entry t c (Buy i) ∷ h)) (purchases h) (record { item = i; buyer = c; moment = t }) (all_more h (entry t c (Buy i)) (purchases h) all) (record {
      listing = l;
      listed = listed_more h (entry t c (Buy i)) i l pass.listed;
      buyer = caller_is settings h t c false is common refl;
      moment = common.moment_fits;
      apart = apart_from l.seller c own_not;
    })
purchases_step settings h t c (Register name) is none all = simp append-nil (all_more h (entry t c (Register name)) (purchases h) all)
purchases_step settings h t c (AddCategory name) is none all = simp append-nil (all_more h (entry t c (AddCategory name)) (purchases h) all)
purchases_step settings h t c (Listed category lot title text start buy_now end reserve) is none all = simp append-nil (all_more h (entry t c (Listed category lot title text start buy_now end reserve)) (purchases h) all)
purchases_step settings h t c (Bid i m) is none all = simp append-nil (all_more h (entry t c (Bid i m)) (purchases h) all)
purchases_step settings h t c Close is none all = simp append-nil (all_more h (entry t c Close) (purchases h) all)
purchases_step settings h t c (Settle i) is none all = simp append-nil (all_more h (entry t c (Settle i)) (purchases h) all)
purchases_step settings h t c (Watch i) is none all = simp append-nil (all_more h (entry t c (Watch i)) (purchases h) all)
purchases_step settings h t c (Unwatch i) is none all = simp append-nil (all_more h (entry t c (Unwatch i)) (purchases h) all)
purchases_step settings h t c (Ask i text) is none all = simp append-nil (all_more h (entry t c (Ask i text)) (purchases h) all)
purchases_step settings h t c (Answer i asker number text) is none all = simp append-nil (all_more h (entry t c (Answer i asker number text)) (purchases h) all)
purchases_step settings h t c (Feedback i rating text) is none all = simp append-nil (all_more h (entry t c (Feedback i rating text)) (purchases h) all)
purchases_step settings h t c (SetBands bands) is none all = simp append-nil (all_more h (entry t c (SetBands bands)) (purchases h) all)

pub purchases_fit : (settings : Settings) (h : History) → IsHistory settings h → AllByRecursion (PurchaseIn h) (purchases h)
purchases_fit settings [] is = tt
purchases_fit settings (e ∷ h) is = purchases_step settings h e.moment e.caller e.command is.1 is.0 (purchases_fit settings h is.1)

-- the leader is one of the bidders
first_has : (Q : ℕ → Type 0) (amount : ℕ) (bids : List bid.Bid) → AllByRecursion (λ b. Q b.member) bids → IfSome (first_at amount bids) Q
first_has Q amount [] all = tt
first_has Q amount (b ∷ bids) all =
    elim (by_test (b.maximum == amount)) [ inl is ↦ rw is all.0 | inr not ↦ rw not (first_has Q amount bids all.1) ]

pub leader_has : (Q : ℕ → Type 0) (bids : List bid.Bid) → AllByRecursion (λ b. Q b.member) bids → IfSome (leader bids) Q
unfolding leader
leader_has Q bids all = first_has Q (top bids) bids all

-- a price is no more than the start and every maximum
greatest_within : (most : ℕ) (bids : List bid.Bid) → AllByRecursion (λ b. b.maximum ≤ most) bids → greatest_of (maxima bids) ≤ most
greatest_within most [] all = omega arith
greatest_within most (b ∷ bids) all = let one = all.0 in let rest = greatest_within most bids all.1 in omega arith

by_within : (bands : List (ℕ × ℕ)) (start top most : ℕ) (o : Option ℕ) → start ≤ most → top ≤ most → price_by_bids bands start top o ≤ most
by_within bands start top most None s t = s
by_within bands start top most (Some second) s t = omega arith

reserve_within : (r : Option ℕ) (top most p : ℕ) → top ≤ most → p ≤ most → with_reserve r top p ≤ most
reserve_within None top most p t le = le
reserve_within (Some r) top most p t le = grind (arith, nat_tests)

pub price_under : (bands : List (ℕ × ℕ)) (opening : Opening) (most : ℕ) (bids : List bid.Bid) → opening.start ≤ most → greatest_of (maxima bids) ≤ most → price bands opening bids ≤ most
unfolding price top
price_under bands opening most bids s t =
    reserve_within opening.reserve (greatest_of (maxima bids)) most _ t (by_within bands opening.start (greatest_of (maxima bids)) most (second bids) s t)

pub price_within : (bands : List (ℕ × ℕ)) (opening : Opening) (most : ℕ) (bids : List bid.Bid) → opening.start ≤ most → AllByRecursion (λ b. b.maximum ≤ most) bids → price bands opening bids ≤ most
price_within bands opening most bids s all = price_under bands opening most bids s (greatest_within most bids all)

-- and so is the top
pub top_within : (most : ℕ) (bids : List bid.Bid) → AllByRecursion (λ b. b.maximum ≤ most) bids → IfSome (greatest_if_any (maxima bids)) (λ amount. amount ≤ most)
top_within most [] all = tt
top_within most (b ∷ bids) all = greatest_within most (b ∷ bids) all
