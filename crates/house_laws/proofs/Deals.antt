-- The price and the leader of an item follow from its deals.
use Rattle.std.proofs.Common.{◌≡◌, ℕ, ◌+◌, List, [], ◌∷◌, ◌++◌, length, refl, arith, inl, inr, Option, Some, None, ◌∙◌, ap, sym}
use Rattle.std.specs.Prelude.{◌==◌, if◌then◌else◌, find, is_some, unwrap_or, option_map}
use Rattle.std.proofs.lemmas.List.{append-nil}
use Rattle.proxy.specs.Bids.{leader, price}
use Rattle.proxy.specs.declared.bid.Bid as bid
use Rattle.house_rows.specs.declared.command.Command.{Command}
use Rattle.house_rows.specs.declared.command.Command.TheVariants.{Bid, Buy}
use Rattle.house_rows.specs.Bids.{bid_in, bids_on}
use Rattle.house_rows.specs.History.{History}
use Rattle.house_rows.specs.Items.{Purchase as Bought, leader_from, leader_of, price_of, purchase_in, purchase_of, purchases}
use Rattle.house_rows.specs.Listings.{Listing, listed_opening}
use Rattle.house_rows.proofs.Put.{by_test}
use Rattle.house_laws.specs.Deals.{Deal, Offer, Purchase, deal_in, deals_on}

-- the bids among deals, each with the next number
abbrev bids_from : ℕ → List Deal → List bid.Bid
bids_from n [] = []
bids_from n (Offer c m ∷ ds) = record { member = c; maximum = m; no = n + 1 } ∷ bids_from (n + 1) ds
bids_from n (Purchase c ∷ ds) = bids_from n ds

-- who bought first among deals
abbrev buyer_of : List Deal → Option ℕ
buyer_of [] = None
buyer_of (Offer c m ∷ ds) = buyer_of ds
buyer_of (Purchase c ∷ ds) = Some c

bids_more : (n c m : ℕ) (ds : List Deal) → bids_from n (ds ++ Offer c m ∷ []) ≡ bids_from n ds ++ record { member = c; maximum = m; no = n + length (bids_from n ds) + 1 } ∷ []
bids_more n c m [] = let e : n + 1 ≡ n + 0 + 1 = omega arith in rw e refl
bids_more n c m (Offer a x ∷ ds) =
    let e : n + 1 + length (bids_from (n + 1) ds) + 1 ≡ n + length (record { member = a; maximum = x; no = n + 1 } ∷ bids_from (n + 1) ds) + 1 = omega arith in
    ap (λ rest. record { member = a; maximum = x; no = n + 1 } ∷ rest) (bids_more (n + 1) c m ds ∙ ap (λ no. bids_from (n + 1) ds ++ record { member = c; maximum = m; no = no } ∷ []) e)
bids_more n c m (Purchase a ∷ ds) = bids_more n c m ds

bids_same : (n c : ℕ) (ds : List Deal) → bids_from n (ds ++ Purchase c ∷ []) ≡ bids_from n ds
bids_same n c [] = refl
bids_same n c (Offer a x ∷ ds) = ap (λ rest. record { member = a; maximum = x; no = n + 1 } ∷ rest) (bids_same (n + 1) c ds)
bids_same n c (Purchase a ∷ ds) = bids_same n c ds

bids_step : (h : History) (i c : ℕ) (command : Command) → bids_on h i ≡ bids_from 0 (deals_on h i)
    → bids_on h i ++ bid_in i (length (bids_on h i) + 1) c command ≡ bids_from 0 (deals_on h i ++ deal_in i c command)
bids_step h i c (Bid j m) are =
    elim (by_test (j == i)) [
      | inl here ↦ (let e : 0 + length (bids_from 0 (deals_on h i)) + 1 ≡ length (bids_from 0 (deals_on h i)) + 1 = omega arith in
          rw (here, are) (sym (bids_more 0 c m (deals_on h i) ∙ ap (λ no. bids_from 0 (deals_on h i) ++ record { member = c; maximum = m; no = no } ∷ []) e)))
      | inr other ↦ rw other (simp append-nil are)
    ]
bids_step h i c (Buy j) are =
    elim (by_test (j == i)) [
      | inl here ↦ rw here (simp append-nil (are ∙ sym (bids_same 0 c (deals_on h i))))
      | inr other ↦ rw other (simp append-nil are)
    ]
bids_step h i c command are = simp append-nil are

-- the bids on an item are those of its deals
bids_are : (h : History) (i : ℕ) → bids_on h i ≡ bids_from 0 (deals_on h i)
bids_are [] i = refl
bids_are (e ∷ h) i = bids_step h i e.caller e.command (bids_are h i)

abbrev buyer : Bought → ℕ
buyer p = p.buyer

abbrev first_of : Option ℕ → Option ℕ → Option ℕ
first_of None later = later
first_of (Some c) later = Some c

buyer_more : (ds : List Deal) (c : ℕ) → buyer_of (ds ++ Purchase c ∷ []) ≡ first_of (buyer_of ds) (Some c)
buyer_more [] c = refl
buyer_more (Offer a m ∷ ds) c = buyer_more ds c
buyer_more (Purchase a ∷ ds) c = refl

buyer_same : (ds : List Deal) (c m : ℕ) → buyer_of (ds ++ Offer c m ∷ []) ≡ buyer_of ds
buyer_same [] c m = refl
buyer_same (Offer a x ∷ ds) c m = buyer_same ds c m
buyer_same (Purchase a ∷ ds) c m = refl

found_first : (i : ℕ) (ps : List Bought) (p : Bought) → option_map buyer (find (λ p. p.item == i) (ps ++ p ∷ []))
    ≡ first_of (option_map buyer (find (λ p. p.item == i) ps)) (if p.item == i then Some p.buyer else None)
found_first i [] p = elim (by_test (p.item == i)) [ inl is ↦ rw is refl | inr not ↦ rw not refl ]
found_first i (q ∷ ps) p = elim (by_test (q.item == i)) [ inl is ↦ rw is refl | inr not ↦ rw not (found_first i ps p) ]

first_none : (o : Option ℕ) → first_of o None ≡ o
first_none None = refl
first_none (Some c) = refl

buyer_step : (h : History) (i t c : ℕ) (command : Command) → option_map buyer (purchase_of h i) ≡ buyer_of (deals_on h i)
    → option_map buyer (find (λ p. p.item == i) (purchases h ++ purchase_in t c command)) ≡ buyer_of (deals_on h i ++ deal_in i c command)
buyer_step h i t c (Buy j) is =
    let p : Bought = record { item = j; buyer = c; moment = t } in
    elim (by_test (j == i)) [
      | inl here ↦ found_first i (purchases h) p ∙ rw (here, is) (sym (buyer_more (deals_on h i) c))
      | inr other ↦ found_first i (purchases h) p ∙ rw (other, is) (simp append-nil (first_none (buyer_of (deals_on h i))))
    ]
buyer_step h i t c (Bid j m) is =
    elim (by_test (j == i)) [
      | inl here ↦ rw here (simp append-nil (is ∙ sym (buyer_same (deals_on h i) c m)))
      | inr other ↦ rw other (simp append-nil is)
    ]
buyer_step h i t c command is = simp append-nil is

-- the buyer of an item is the one of its deals
buyer_is : (h : History) (i : ℕ) → option_map buyer (purchase_of h i) ≡ buyer_of (deals_on h i)
buyer_is [] i = refl
buyer_is (e ∷ h) i = buyer_step h i e.moment e.caller e.command (buyer_is h i)

bought_is : (o : Option Bought) → is_some o ≡ is_some (option_map buyer o)
bought_is None = refl
bought_is (Some p) = refl

leads_is : (o : Option Bought) (by_bids : Option ℕ) → leader_from o by_bids ≡ first_of (option_map buyer o) by_bids
leads_is None by_bids = refl
leads_is (Some p) by_bids = refl

-- by these the price is the same wherever start, buy-now price and deals are
price_by_deals : (bands : List (ℕ × ℕ)) (h : History) (l : Listing)
    → price_of bands h l ≡ (if is_some (buyer_of (deals_on h l.item)) then unwrap_or l.buy_now 0 else price bands (listed_opening l) (bids_from 0 (deals_on h l.item)))
price_by_deals bands h l = rw (bought_is (purchase_of h l.item), buyer_is h l.item, bids_are h l.item) refl

leader_by_deals : (h : History) (l : Listing) → leader_of h l ≡ first_of (buyer_of (deals_on h l.item)) (leader (bids_from 0 (deals_on h l.item)))
leader_by_deals h l = leads_is (purchase_of h l.item) (leader (bids_on h l.item)) ∙ rw (buyer_is h l.item, bids_are h l.item) refl

pub price_follows : (bands : List (ℕ × ℕ)) (h k : History) (l m : Listing) → l.start ≡ m.start → l.reserve ≡ m.reserve → l.buy_now ≡ m.buy_now → deals_on h l.item ≡ deals_on k m.item → price_of bands h l ≡ price_of bands k m
price_follows bands h k l m start reserve now deals = price_by_deals bands h l ∙ rw (start, reserve, now, deals) (sym (price_by_deals bands k m))

pub leader_follows : (h k : History) (l m : Listing) → deals_on h l.item ≡ deals_on k m.item → leader_of h l ≡ leader_of k m
leader_follows h k l m deals = leader_by_deals h l ∙ rw deals (sym (leader_by_deals k m))

pub count_follows : (h k : History) (l m : Listing) → deals_on h l.item ≡ deals_on k m.item → length (bids_on h l.item) ≡ length (bids_on k m.item)
count_follows h k l m deals = rw (bids_are h l.item, deals, ← bids_are k m.item) refl
