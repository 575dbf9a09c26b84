-- The rows of items fit.
use Rattle.std.proofs.Common.{◌≡◌, ◌≢◌, ℕ, ◌≤◌, Bool, true, false, refl, ◌∙◌, sym, arith, Option, Some, None}
use Rattle.std.specs.Prelude.{◌==◌, if◌then◌else◌, unwrap_or, IfSome}
use Rattle.std.proofs.lemmas.Bool.Decides.{nat_tests}
use Rattle.proxy.specs.Bids.{leader}
use Rattle.proxy.specs.declared.bid.Bid as bid
use Rattle.house_rows.specs.declared.settings.Settings.{Settings}
use Rattle.house_rows.specs.Fits.{IsMember, IsMoment, IsWithin}
use Rattle.house_rows.specs.History.{History}
use Rattle.house_rows.specs.Bids.{bids_on}
use Rattle.house_rows.specs.Items.{Purchase, closed_from, leader_from, leader_of, purchase_of, purchases}
use Rattle.house_rows.specs.Limits.{most_cents}
use Rattle.house_rows.specs.Listings.{Listing, listing_at, listings}
use Rattle.house_rows.specs.Verdict.{IsHistory}
use Rattle.house_rows.proofs.Every.{every_as, found_has, found_is}
use Rattle.house_rows.proofs.RangedBids.{BidIn, PurchaseIn, bids_fit, leader_has, purchases_fit}

-- whoever may lead an item
abbrev pub MayLead : Listing → ℕ → Type 0
MayLead l m = IsMember m × (m ≢ l.seller)

pub one_listing : (o : Option Listing) (a b : Listing) → o ≡ Some a → o ≡ Some b → a ≡ b
one_listing o a b x y = let e : Some a ≡ Some b = sym x ∙ y in cc

bidder_may : (h : History) (l : Listing) (b : bid.Bid) → listing_at (listings h) l.item ≡ Some l → BidIn h l.item b → MayLead l b.member
bidder_may h l b listed is =
    let e : is.listing ≡ l = one_listing (listing_at (listings h) l.item) is.listing l is.listed listed in
    (is.member, rw e at is.apart)

buyer_may : (h : History) (l : Listing) (p : Purchase) → listing_at (listings h) l.item ≡ Some l → p.item ≡ l.item → PurchaseIn h p → MayLead l p.buyer
buyer_may h l p listed at' is =
    let there : listing_at (listings h) l.item ≡ Some is.listing = rw at' at is.listed in
    let e : is.listing ≡ l = one_listing (listing_at (listings h) l.item) is.listing l there listed in
    (is.buyer, rw e at is.apart)

-- what is known of the purchase of an item, if there is one
pub purchase_known : (settings : Settings) (h : History) (l : Listing) → IsHistory settings h → listing_at (listings h) l.item ≡ Some l → (p : Purchase) → purchase_of h l.item ≡ Some p → MayLead l p.buyer × IsMoment p.moment
purchase_known settings h l is listed p found =
    let it = found_has (PurchaseIn h) (λ p. p.item == l.item) (purchases h) p (purchases_fit settings h is) found in
    let test = found_is (λ (p : Purchase). p.item == l.item) (purchases h) p found in
    (buyer_may h l p listed (grind (arith, nat_tests, test)) it, it.moment)

leader_by : (o : Option Purchase) (l : Listing) (by_bids : Option ℕ) → ((p : Purchase) → o ≡ Some p → MayLead l p.buyer × IsMoment p.moment) → IfSome by_bids (MayLead l) → IfSome (leader_from o by_bids) (MayLead l)
leader_by None l by_bids known bids = bids
leader_by (Some p) l by_bids known bids = (known p refl).0

pub closed_by : (o : Option Purchase) (l : Listing) (taken : Bool) → ((p : Purchase) → o ≡ Some p → MayLead l p.buyer × IsMoment p.moment) → IsMoment l.end → IfSome (closed_from o taken l.end) IsMoment
closed_by None l true known end = end
closed_by None l false known end = tt
closed_by (Some p) l taken known end = (known p refl).1

pub buy_now_most : (start : ℕ) (o : Option ℕ) → IfSome o (λ amount. IsWithin start most_cents amount) → unwrap_or o 0 ≤ most_cents
buy_now_most start None within = omega arith
buy_now_most start (Some amount) within = within.1

pub price_by : (bought : Bool) (now by_bids : ℕ) → now ≤ most_cents → by_bids ≤ most_cents → (if bought then now else by_bids) ≤ most_cents
price_by true now by_bids n b = n
price_by false now by_bids n b = b

pub leads_not : (o : Option ℕ) (seller : ℕ) → IfSome o (λ m. IsMember m × (m ≢ seller)) → o ≢ Some seller
leads_not None seller may e = cc
leads_not (Some m) seller may e = may.1 (let f : m ≡ seller = cc in f)

pub leads_member : (o : Option ℕ) (seller : ℕ) → IfSome o (λ m. IsMember m × (m ≢ seller)) → IfSome o IsMember
leads_member None seller may = tt
leads_member (Some m) seller may = may.0

pub leader_may : (settings : Settings) (h : History) (l : Listing) → IsHistory settings h → listing_at (listings h) l.item ≡ Some l → IfSome (leader_of h l) (MayLead l)
leader_may settings h l is listed =
    let fits = bids_fit settings h l.item is in
    leader_by (purchase_of h l.item) l (leader (bids_on h l.item)) (purchase_known settings h l is listed)
    (leader_has (MayLead l) (bids_on h l.item) (every_as (BidIn h l.item) (λ (b : bid.Bid). MayLead l b.member) (bids_on h l.item) (λ b in'. bidder_may h l b listed in') fits.all))
