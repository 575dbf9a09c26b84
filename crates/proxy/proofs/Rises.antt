-- Over lists of accepted bids: the start is met, and a bidder's maxima rise.
use Rattle.std.proofs.Common.{◌≡◌, ◌≢◌, ℕ, ◌<◌, ◌≤◌, List, [], ◌∷◌, ◌++◌, Option, Some, None, refl, ◌∙◌, ap, arith, inl, inr}
use Rattle.std.specs.Prelude.{unwrap_or}
use Rattle.std.proofs.lemmas.Bool.{cases_eq}
use Rattle.std.proofs.lemmas.Bool.Decides.{nat_tests}
use Rattle.steps.specs.Table.{IsBandTable, over}
use Rattle.steps.proofs.Rising.{step_positive}
use Rattle.proxy.specs.declared.bid.Bid.{Bid}
use Rattle.proxy.specs.Opening.{Opening}
use Rattle.proxy.specs.Bids.{greatest_of, maxima, bids_by, bids_not_by, greatest, top, leader, second, price, price_by_bids, price_from, refusal}
use Rattle.proxy.specs.Accepted.{AreAccepted}
use Rattle.proxy.proofs.Leads.{greatest_below, leader_greatest, somebody_leads, or_zero}
use Rattle.proxy.proofs.Prices.{price_within, reserve_raises}
use Rattle.proxy.proofs.Judged.{accepted_above, accepted_over, none_leader}

first_below : (b : Bid) (bids : List Bid) → b.maximum ≤ top (b ∷ bids)
unfolding top
first_below b bids = omega arith

-- the first accepted bid meets the start, and so does the top
top_starts : (bands : List (ℕ × ℕ)) (opening : Opening) (b : Bid) (bids : List Bid) → AreAccepted bands opening (b ∷ bids) → opening.start ≤ top (b ∷ bids)
top_starts bands opening b bids each =
    let first = (each [] b bids refl).accepted in
    let met : opening.start ≤ b.maximum = accepted_over bands opening [] b.member b.maximum first (none_leader b.member) in
    let below = first_below b bids in
    omega arith

-- the price is at most the leader's maximum
pub price_covered : (bands : List (ℕ × ℕ)) (opening : Opening) (bids : List Bid) (l : ℕ) → AreAccepted bands opening bids → leader bids ≡ Some l → price bands opening bids ≤ greatest bids l
price_covered bands opening [] l each led = absurd (none_leader l led)
price_covered bands opening (b ∷ bids) l each led =
    rw (leader_greatest (b ∷ bids) l led) (price_within bands opening (b ∷ bids) (top_starts bands opening b bids each))

-- a bidder's greatest is at least each of its maxima
greatest_has : (before : List Bid) (b : Bid) (later : List Bid) → b.maximum ≤ greatest (before ++ b ∷ later) b.member
unfolding greatest
greatest_has [] b later = grind (arith, nat_tests)
greatest_has (a ∷ before) b later = grind (arith, nat_tests, greatest_has before b later)

-- and so is the top
pub maximum_below : (before : List Bid) (b : Bid) (later : List Bid) → b.maximum ≤ top (before ++ b ∷ later)
maximum_below before b later =
    let own = greatest_has before b later in
    let all = greatest_below (before ++ b ∷ later) b.member in
    omega arith

-- a bidder is among all but another
others_have : (l m : ℕ) (bids : List Bid) → l ≢ m → greatest_of (maxima (bids_by m bids)) ≤ greatest_of (maxima (bids_not_by l bids))
others_have l m [] ne = omega arith
others_have l m (b ∷ bids) ne = grind (arith, nat_tests, others_have l m bids ne)

second_has : (bids : List Bid) (l m : ℕ) → leader bids ≡ Some l → l ≢ m → greatest bids m ≤ unwrap_or (second bids) 0
unfolding second greatest
second_has bids l m led ne = rw (led, or_zero (bids_not_by l bids)) (others_have l m bids ne)

by_second : (bands : List (ℕ × ℕ)) (start t g : ℕ) (o : Option ℕ) → g ≤ unwrap_or o 0 → g ≤ t → g ≤ price_by_bids bands start t o
by_second bands start t g None low le = omega arith
by_second bands start t g (Some s) low le = omega arith

from_second : (bands : List (ℕ × ℕ)) (opening : Opening) (t g : ℕ) (o : Option ℕ) → g ≤ unwrap_or o 0 → g ≤ t → g ≤ price_from bands opening t o
from_second bands opening t g o low le =
    let by_bids = by_second bands opening.start t g o low le in
    let raises = reserve_raises opening.reserve t (price_by_bids bands opening.start t o) in
    omega arith

-- the price has passed whoever doesn't lead
price_passes : (bands : List (ℕ × ℕ)) (opening : Opening) (bids : List Bid) (l m : ℕ) → leader bids ≡ Some l → l ≢ m → greatest bids m ≤ price bands opening bids
unfolding price
price_passes bands opening bids l m led ne =
    from_second bands opening (top bids) (greatest bids m) (second bids) (second_has bids l m led ne) (greatest_below bids m)

-- an accepted bid is above the bidder's earlier ones
rises_above : (bands : List (ℕ × ℕ)) (opening : Opening) (b : Bid) (bids : List Bid) (m x : ℕ) → IsBandTable bands → refusal bands opening (b ∷ bids) m x ≡ None → greatest (b ∷ bids) m < x
rises_above bands opening b bids m x valid ok =
    let some = somebody_leads b bids in
    elim (cases_eq some.0 m) [
      | inl e ↦ (let led : leader (b ∷ bids) ≡ Some m = some.1 ∙ ap Some e in
          rw (leader_greatest (b ∷ bids) m led) (accepted_above bands opening (b ∷ bids) m x ok led))
      | inr ne ↦ (let passed = price_passes bands opening (b ∷ bids) some.0 m some.1 ne in
          let step = step_positive bands (price bands opening (b ∷ bids)) valid in
          let met : over bands (price bands opening (b ∷ bids)) ≤ x = accepted_over bands opening (b ∷ bids) m x ok (λ led. ne (cc)) in
          omega arith)
    ]

rises_over : (bands : List (ℕ × ℕ)) (opening : Opening) (before : List Bid) (b : Bid) (later : List Bid) (m x : ℕ) → IsBandTable bands → refusal bands opening (before ++ b ∷ later) m x ≡ None → greatest (before ++ b ∷ later) m < x
rises_over bands opening [] b later m x valid ok = rises_above bands opening b later m x valid ok
rises_over bands opening (a ∷ before) b later m x valid ok = rises_above bands opening a (before ++ b ∷ later) m x valid ok

-- a bidder's accepted maxima strictly rise
pub maxima_rise : (bands : List (ℕ × ℕ)) (opening : Opening) (before middle later : List Bid) (first second : Bid) → IsBandTable bands → AreAccepted bands opening (before ++ first ∷ middle ++ second ∷ later) → first.member ≡ second.member → first.maximum < second.maximum
maxima_rise bands opening before middle later first second valid each same =
    let ok = (each (before ++ first ∷ middle) second later refl).accepted in
    let above = rises_over bands opening before first middle second.member second.maximum valid ok in
    let has = greatest_has before first middle in
    grind (arith)
