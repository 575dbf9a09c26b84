-- A reserve that is met stays met, and is no more than the price; one that isn't met is more.
use Rattle.std.proofs.Common.{◌≡◌, ℕ, ◌<◌, ◌≤◌, List, [], ◌∷◌, ◌++◌, max, Option, Some, None, true, false, refl, ◌∙◌, ap, arith}
use Rattle.std.specs.Prelude.{nat_le, IfSome}
use Rattle.std.proofs.lemmas.Bool.Decides.{nat_tests}
use Rattle.proxy.specs.declared.bid.Bid.{Bid}
use Rattle.proxy.specs.Opening.{Opening}
use Rattle.proxy.specs.Accepted.{AreAccepted}
use Rattle.proxy.specs.Bids.{greatest, greatest_if_any, greatest_of, maxima, met, met_by, price, price_by_bids, second, top, with_reserve}
use Rattle.proxy.proofs.Leads.{if_any-more, leader_greatest, somebody_leads, top_is}
use Rattle.proxy.proofs.Prices.{price-none}
use Rattle.proxy.proofs.Rises.{price_covered}

more_meet : (reserve : Option ℕ) (bids : List Bid) (b : Bid) → met_by reserve (greatest_if_any (maxima bids)) ≡ Some true → met_by reserve (greatest_if_any (maxima (bids ++ b ∷ []))) ≡ Some true
more_meet None bids b e = cc
more_meet (Some r) [] b e = cc
more_meet (Some r) (a ∷ bids) b e =
    let le : nat_le r (greatest_of (maxima (a ∷ bids))) ≡ true = cc in
    let is : nat_le r (max (greatest_of (maxima (a ∷ bids))) b.maximum) ≡ true = grind (arith, nat_tests, le) in
    ap (met_by (Some r)) (if_any-more (a ∷ bids) b) ∙ ap Some is

pub met_stays : (opening : Opening) (bids : List Bid) (b : Bid) → met opening bids ≡ Some true → met opening (bids ++ b ∷ []) ≡ Some true
met_stays opening bids b e = more_meet opening.reserve bids b e

at_least : (reserve : Option ℕ) (bids : List Bid) (p : ℕ) → met_by reserve (greatest_if_any (maxima bids)) ≡ Some true → IfSome reserve (λ r. r ≤ with_reserve reserve (greatest_of (maxima bids)) p)
at_least None bids p e = tt
at_least (Some r) [] p e = cc
at_least (Some r) (a ∷ bids) p e = let le : nat_le r (greatest_of (maxima (a ∷ bids))) ≡ true = cc in rw le (omega arith)

pub met_priced : (bands : List (ℕ × ℕ)) (opening : Opening) (bids : List Bid) → met opening bids ≡ Some true → IfSome opening.reserve (λ r. r ≤ price bands opening bids)
unfolding price top
met_priced bands opening bids e = at_least opening.reserve bids (price_by_bids bands opening.start (greatest_of (maxima bids)) (second bids)) e

below : (bands : List (ℕ × ℕ)) (opening : Opening) (bids : List Bid) (reserve : Option ℕ) → AreAccepted bands opening bids → met_by reserve (greatest_if_any (maxima bids)) ≡ Some false
    → IfSome reserve (λ r. opening.start < r → price bands opening bids < r)
below bands opening bids None each e = tt
below bands opening [] (Some r) each e = λ above. rw price-none above
below bands opening (b ∷ bids) (Some r) each e = λ above.
    let some = somebody_leads b bids in
    let covered : price bands opening (b ∷ bids) ≤ greatest (b ∷ bids) some.0 = price_covered bands opening (b ∷ bids) some.0 each some.1 in
    let same : greatest (b ∷ bids) some.0 ≡ top (b ∷ bids) = leader_greatest (b ∷ bids) some.0 some.1 in
    let is : top (b ∷ bids) ≡ greatest_of (maxima (b ∷ bids)) = top_is (b ∷ bids) _ refl in
    let unmet : nat_le r (greatest_of (maxima (b ∷ bids))) ≡ false = cc in
    let lt : greatest_of (maxima (b ∷ bids)) < r = grind (arith, nat_tests, unmet) in
    omega arith

pub unmet_priced : (bands : List (ℕ × ℕ)) (opening : Opening) (bids : List Bid) → AreAccepted bands opening bids → met opening bids ≡ Some false
    → IfSome opening.reserve (λ r. opening.start < r → price bands opening bids < r)
unmet_priced bands opening bids each e = below bands opening bids opening.reserve each e
