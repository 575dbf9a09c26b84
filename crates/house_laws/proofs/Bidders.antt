-- What bidders pay, and who leads.
use Rattle.std.proofs.Common.{◌≡◌, ◌≢◌, ℕ, ◌≤◌, ◌<◌, List, [], ◌∷◌, max, false, not, refl, arith, inl, inr, Option, Some, None, ◌∙◌, ap}
use Rattle.std.specs.Prelude.{◌==◌, unwrap_or, MatchOption}
use Rattle.std.proofs.lemmas.Bool.{cases_eq}
use Rattle.std.proofs.lemmas.Bool.Decides.{nat_tests}
use Rattle.steps.specs.Table.{over}
use Rattle.proxy.specs.declared.bid.Bid.{Bid}
use Rattle.proxy.specs.Opening.{Opening}
use Rattle.proxy.specs.Bids.{bids_by, bids_not_by, greatest, greatest_of, leader, maxima, price, price_by_bids, price_from, second, top, with_reserve}
use Rattle.proxy.proofs.Leads.{or_zero, others_below, somebody_leads}
use Rattle.proxy.proofs.Prices.{reserve_raises}
use Rattle.proxy.proofs.Rises.{price_covered}
use Rattle.house_rows.specs.declared.settings.Settings.{Settings}
use Rattle.house_rows.specs.Bids.{bids_on}
use Rattle.house_rows.specs.History.{History}
use Rattle.house_rows.specs.Items.{is_bought, leader_of, price_of, purchase_of}
use Rattle.house_rows.specs.Listings.{Listing, bands_by, listed_opening, listing_at, listings}
use Rattle.house_rows.specs.Verdict.{IsHistory}
use Rattle.house_rows.proofs.AcceptedBids.{bids_are_accepted}
use Rattle.house_rows.proofs.OpenItems.{not_bought}
use Rattle.house_rows.proofs.Put.{by_test}

-- a bidder's greatest maximum is at most that of all but another
others_include : (bids : List Bid) (l k : ℕ) → l ≢ k → greatest_of (maxima (bids_by k bids)) ≤ greatest_of (maxima (bids_not_by l bids))
others_include [] l k apart = omega arith
others_include (b ∷ bids) l k apart =
    let rest = others_include bids l k apart in
    elim (by_test (b.member == k)) [
      | inl is ↦ (let at' : b.member ≡ k = grind (arith, nat_tests) in
          let other : (b.member == l) ≡ false = grind (arith, nat_tests, λ (e : l ≡ k). apart e) in rw (is, other) (omega arith))
      | inr not ↦ elim (by_test (b.member == l)) [
        | inl here ↦ rw (not, here) rest
        | inr there ↦ rw (not, there) (omega arith)
      ]
    ]

-- a second is at most the price, as long as it is at most the top
bids_over : (bands : List (ℕ × ℕ)) (start t x : ℕ) (o : Option ℕ) → unwrap_or o 0 ≤ t → x ≤ unwrap_or o 0 → x ≤ price_by_bids bands start t o
bids_over bands start t x None le most = omega arith
bids_over bands start t x (Some s) le most = omega arith

price_over : (bands : List (ℕ × ℕ)) (opening : Opening) (t x : ℕ) (o : Option ℕ) → unwrap_or o 0 ≤ t → x ≤ unwrap_or o 0 → x ≤ price_from bands opening t o
price_over bands opening t x o le most =
    let by_bids = bids_over bands opening.start t x o le most in
    let raises = reserve_raises opening.reserve t (price_by_bids bands opening.start t o) in
    omega arith

second_below : (bids : List Bid) (l : ℕ) → leader bids ≡ Some l → unwrap_or (second bids) 0 ≡ greatest_of (maxima (bids_not_by l bids))
unfolding second
second_below bids l led = rw led (or_zero (bids_not_by l bids))

-- whoever doesn't lead has offered at most the price
others_pay : (bands : List (ℕ × ℕ)) (opening : Opening) (bids : List Bid) (l k : ℕ) → leader bids ≡ Some l → l ≢ k → greatest bids k ≤ price bands opening bids
unfolding greatest price top
others_pay bands opening bids l k led apart =
    let second_is = second_below bids l led in
    let below = others_below bids l in
    let most = others_include bids l k apart in
    price_over bands opening (greatest_of (maxima bids)) (greatest_of (maxima (bids_by k bids))) (second bids) (omega arith) (omega arith)

nobody : (bands : List (ℕ × ℕ)) (opening : Opening) (k : ℕ) → price bands opening [] < greatest [] k → leader [] ≡ Some k
unfolding greatest
nobody bands opening k above = absurd (omega arith)

above_leads : (bands : List (ℕ × ℕ)) (opening : Opening) (bids : List Bid) (k : ℕ) → price bands opening bids < greatest bids k → leader bids ≡ Some k
above_leads bands opening [] k above = nobody bands opening k above
above_leads bands opening (a ∷ bids) k above =
    let some = somebody_leads a bids in
    elim (cases_eq some.0 k) [
      | inl e ↦ some.1 ∙ ap Some e
      | inr apart ↦ absurd (let most = others_pay bands opening (a ∷ bids) some.0 k some.1 apart in omega arith)
    ]

-- of an item that wasn't bought, whoever offered more than the price leads
pub above_price_leads : (bands : List (ℕ × ℕ)) (h : History) (l : Listing) (k : ℕ) → is_bought h l.item ≡ false → price_of bands h l < greatest (bids_on h l.item) k → leader_of h l ≡ Some k
above_price_leads bands h l k not above =
    let free : purchase_of h l.item ≡ None = not_bought h l.item (purchase_of h l.item) refl not in
    rw free (above_leads bands (listed_opening l) (bids_on h l.item) k (rw not at above))

-- and the leader has offered at least the price
pub leader_covers : (settings : Settings) (h : History) (l : Listing) (k : ℕ) → IsHistory settings h → listing_at (listings h) l.item ≡ Some l → is_bought h l.item ≡ false
    → leader_of h l ≡ Some k → price_of (bands_by settings l) h l ≤ greatest (bids_on h l.item) k
leader_covers settings h l k is listed not led =
    let free : purchase_of h l.item ≡ None = not_bought h l.item (purchase_of h l.item) refl not in
    let by_bids : leader (bids_on h l.item) ≡ Some k = rw free at led in
    rw not (price_covered (bands_by settings l) (listed_opening l) (bids_on h l.item) k (bids_are_accepted settings h is l listed) by_bids)

from_step : (bands : List (ℕ × ℕ)) (start t : ℕ) (o : Option ℕ) → MatchOption o (price_by_bids bands start t o ≡ start) (λ s. price_by_bids bands start t o ≤ max start (over bands s))
from_step bands start t None = refl
from_step bands start t (Some s) = omega arith

-- a reserve raises the more to no less
raises_more : (r : Option ℕ) (t p q : ℕ) → p ≤ q → with_reserve r t p ≤ with_reserve r t q
raises_more None t p q le = le
raises_more (Some r) t p q le = grind (arith, nat_tests)

over_step : (bands : List (ℕ × ℕ)) (opening : Opening) (t : ℕ) (o : Option ℕ)
    → MatchOption o (price_from bands opening t o ≡ with_reserve opening.reserve t opening.start) (λ s. price_from bands opening t o ≤ with_reserve opening.reserve t (max opening.start (over bands s)))
over_step bands opening t None = refl
over_step bands opening t (Some s) = raises_more opening.reserve t _ _ (from_step bands opening.start t (Some s))

by_step : (bands : List (ℕ × ℕ)) (opening : Opening) (bids : List Bid)
    → MatchOption (second bids) (price bands opening bids ≡ with_reserve opening.reserve (top bids) opening.start) (λ s. price bands opening bids ≤ with_reserve opening.reserve (top bids) (max opening.start (over bands s)))
unfolding price
by_step bands opening bids = over_step bands opening (top bids) (second bids)

-- and pays the start, or at most one step over the others, or the reserve where it is met
pub price_one_step : (bands : List (ℕ × ℕ)) (h : History) (l : Listing) → is_bought h l.item ≡ false
    → MatchOption (second (bids_on h l.item)) (price_of bands h l ≡ with_reserve l.reserve (top (bids_on h l.item)) l.start) (λ s. price_of bands h l ≤ with_reserve l.reserve (top (bids_on h l.item)) (max l.start (over bands s)))
price_one_step bands h l not = rw not (by_step bands (listed_opening l) (bids_on h l.item))
