-- How the price moves.
use Rattle.std.proofs.Common.{◌≡◌, ◌≢◌, ℕ, ◌<◌, ◌≤◌, List, [], ◌∷◌, ◌++◌, max, Option, Some, None, refl, ◌∙◌, ap, sym, arith, inl, inr}
use Rattle.std.specs.Prelude.{if◌then◌else◌, nat_le, unwrap_or, IfSome}
use Rattle.std.proofs.lemmas.Bool.{cases_lt, cases_eq}
use Rattle.std.proofs.lemmas.Bool.Decides.{nat_tests}
use Rattle.steps.specs.Table.{IsBandTable, step_at, over}
use Rattle.steps.proofs.Rising.{step_rises}
use Rattle.proxy.specs.declared.bid.Bid.{Bid}
use Rattle.proxy.specs.Opening.{Opening}
use Rattle.proxy.specs.Bids.{greatest_if_any, leader, maxima, met, met_by, price, price_by_bids, price_from, refusal, second, top, with_reserve}
use Rattle.proxy.proofs.Leads.{leader_above, second_raised, second_overtaken, second_kept, top-more, somebody_leads, if_any-more}
use Rattle.proxy.proofs.Judged.{accepted_above, none_leader}

-- a reserve only raises the price
pub reserve_raises : (r : Option ℕ) (t p : ℕ) → p ≤ with_reserve r t p
reserve_raises None t p = omega arith
reserve_raises (Some r) t p = grind (arith, nat_tests)

-- to at most the top
reserve_within : (r : Option ℕ) (t p : ℕ) → p ≤ t → with_reserve r t p ≤ t
reserve_within None t p le = le
reserve_within (Some r) t p le = grind (arith, nat_tests)

-- the more, the higher top and price are
reserve_rises : (r : Option ℕ) (t x p q : ℕ) → t ≤ x → p ≤ q → with_reserve r t p ≤ with_reserve r x q
reserve_rises None t x p q le low = low
reserve_rises (Some r) t x p q le low = grind (arith, nat_tests)

by_start : (bands : List (ℕ × ℕ)) (start t : ℕ) (o : Option ℕ) → start ≤ price_by_bids bands start t o
by_start bands start t None = omega arith
by_start bands start t (Some s) = omega arith

from_start : (bands : List (ℕ × ℕ)) (opening : Opening) (t : ℕ) (o : Option ℕ) → opening.start ≤ price_from bands opening t o
from_start bands opening t o =
    let by_bids = by_start bands opening.start t o in
    let raises = reserve_raises opening.reserve t (price_by_bids bands opening.start t o) in
    omega arith

-- the price is at least the start
pub price_starts : (bands : List (ℕ × ℕ)) (opening : Opening) (bids : List Bid) → opening.start ≤ price bands opening bids
unfolding price
price_starts bands opening bids = from_start bands opening (top bids) (second bids)

pub none_raised : (r : Option ℕ) (start : ℕ) → with_reserve r 0 start ≡ start
none_raised None start = refl
none_raised (Some r) start = grind (arith, nat_tests)

-- where nobody bid, the price is the start
pub price-none : (bands : List (ℕ × ℕ)) (opening : Opening) → price bands opening [] ≡ opening.start
unfolding price second leader top
price-none bands opening = none_raised opening.reserve opening.start

by_within : (bands : List (ℕ × ℕ)) (start t : ℕ) (o : Option ℕ) → start ≤ t → price_by_bids bands start t o ≤ t
by_within bands start t None le = le
by_within bands start t (Some s) le = omega arith

from_within : (bands : List (ℕ × ℕ)) (opening : Opening) (t : ℕ) (o : Option ℕ) → opening.start ≤ t → price_from bands opening t o ≤ t
from_within bands opening t o le = reserve_within opening.reserve t _ (by_within bands opening.start t o le)

-- where the top is at least the start, the price is at most the top
pub price_within : (bands : List (ℕ × ℕ)) (opening : Opening) (bids : List Bid) → opening.start ≤ top bids → price bands opening bids ≤ top bids
unfolding price
price_within bands opening bids le = from_within bands opening (top bids) (second bids) le

by_raised : (bands : List (ℕ × ℕ)) (start t x : ℕ) (o : Option ℕ) → t ≤ x → price_by_bids bands start t o ≤ price_by_bids bands start x o
by_raised bands start t x None le = omega arith
by_raised bands start t x (Some s) le = omega arith

from_raised : (bands : List (ℕ × ℕ)) (opening : Opening) (t x : ℕ) (o : Option ℕ) → t ≤ x → price_from bands opening t o ≤ price_from bands opening x o
from_raised bands opening t x o le = reserve_rises opening.reserve t x _ _ le (by_raised bands opening.start t x o le)

by_overtaken : (bands : List (ℕ × ℕ)) (start t x : ℕ) (o : Option ℕ) → t ≤ x → price_by_bids bands start t o ≤ price_by_bids bands start x (Some t)
by_overtaken bands start t x None le = omega arith
by_overtaken bands start t x (Some s) le = omega arith

from_overtaken : (bands : List (ℕ × ℕ)) (opening : Opening) (t x : ℕ) (o : Option ℕ) → t ≤ x → price_from bands opening t o ≤ price_from bands opening x (Some t)
from_overtaken bands opening t x o le = reserve_rises opening.reserve t x _ _ le (by_overtaken bands opening.start t x o le)

by_held : (bands : List (ℕ × ℕ)) (start t x : ℕ) (o : Option ℕ) → IsBandTable bands → price_by_bids bands start t o ≤ price_by_bids bands start t (Some (max (unwrap_or o 0) x))
by_held bands start t x None valid = omega arith
by_held bands start t x (Some s) valid =
    let rises : step_at bands s ≤ step_at bands (max s x) = step_rises bands s (max s x) valid (omega arith) in
    omega arith

from_held : (bands : List (ℕ × ℕ)) (opening : Opening) (t x : ℕ) (o : Option ℕ) → IsBandTable bands → price_from bands opening t o ≤ price_from bands opening t (Some (max (unwrap_or o 0) x))
from_held bands opening t x o valid = reserve_rises opening.reserve t t _ _ (omega arith) (by_held bands opening.start t x o valid)

raise_rises : (bands : List (ℕ × ℕ)) (opening : Opening) (bids : List Bid) (b : Bid) → leader bids ≡ Some b.member → top bids < b.maximum → price bands opening bids ≤ price bands opening (bids ++ b ∷ [])
unfolding price
raise_rises bands opening bids b led lt =
    rw (second_raised bids b led lt, top-more bids b) (from_raised bands opening (top bids) (max (top bids) b.maximum) (second bids) (omega arith))

overtaking_rises : (bands : List (ℕ × ℕ)) (opening : Opening) (bids : List Bid) (b : Bid) (l : ℕ) → leader bids ≡ Some l → l ≢ b.member → top bids < b.maximum → price bands opening bids ≤ price bands opening (bids ++ b ∷ [])
unfolding price
overtaking_rises bands opening bids b l led ne lt =
    rw (second_overtaken bids b l led ne lt, top-more bids b) (from_overtaken bands opening (top bids) (max (top bids) b.maximum) (second bids) (omega arith))

holding_rises : (bands : List (ℕ × ℕ)) (opening : Opening) (bids : List Bid) (b : Bid) (l : ℕ) → IsBandTable bands → leader bids ≡ Some l → b.member ≢ l → b.maximum ≤ top bids → price bands opening bids ≤ price bands opening (bids ++ b ∷ [])
unfolding price
holding_rises bands opening bids b l valid led ne le =
    let same : max (top bids) b.maximum ≡ top bids = omega arith in
    rw (second_kept bids b l led ne le, top-more bids b, same) (from_held bands opening (top bids) b.maximum (second bids) valid)

-- an accepted bid leaves the price or raises it
pub price_rises : (bands : List (ℕ × ℕ)) (opening : Opening) (bids : List Bid) (b : Bid) → IsBandTable bands → refusal bands opening bids b.member b.maximum ≡ None → price bands opening bids ≤ price bands opening (bids ++ b ∷ [])
price_rises bands opening [] b valid ok = rw price-none (price_starts bands opening (b ∷ []))
price_rises bands opening (a ∷ bids) b valid ok =
    let some = somebody_leads a bids in
    elim (cases_eq some.0 b.member) [
      | inl e ↦ (let led : leader (a ∷ bids) ≡ Some b.member = some.1 ∙ ap Some e in
          raise_rises bands opening (a ∷ bids) b led (accepted_above bands opening (a ∷ bids) b.member b.maximum ok led))
      | inr ne ↦ elim (cases_lt (top (a ∷ bids)) b.maximum) [
        | inl lt ↦ overtaking_rises bands opening (a ∷ bids) b some.0 some.1 ne lt
        | inr le ↦ holding_rises bands opening (a ∷ bids) b some.0 valid some.1 (λ e. ne (sym e)) le
      ]
    ]

-- a leader's accepted bid keeps the leader
pub leader-raise : (bands : List (ℕ × ℕ)) (opening : Opening) (bids : List Bid) (b : Bid) → refusal bands opening bids b.member b.maximum ≡ None → leader bids ≡ Some b.member → leader (bids ++ b ∷ []) ≡ Some b.member
leader-raise bands opening bids b ok led = leader_above bids b (accepted_above bands opening bids b.member b.maximum ok led)

-- and the second
pub second-raise : (bands : List (ℕ × ℕ)) (opening : Opening) (bids : List Bid) (b : Bid) → refusal bands opening bids b.member b.maximum ≡ None → leader bids ≡ Some b.member → second (bids ++ b ∷ []) ≡ second bids
second-raise bands opening bids b ok led = second_raised bids b led (accepted_above bands opening bids b.member b.maximum ok led)

by_covered : (bands : List (ℕ × ℕ)) (start t x : ℕ) (o : Option ℕ) → t ≤ x → IfSome o (λ s. over bands s ≤ t) → price_by_bids bands start x o ≡ price_by_bids bands start t o
by_covered bands start t x None le covered = refl
by_covered bands start t x (Some s) le covered = omega arith

-- where the reserve is met by both tops or by neither, it raises the price alike
raised_alike : (r : Option ℕ) (t x p : ℕ) → met_by r (Some x) ≡ met_by r (Some t) → with_reserve r x p ≡ with_reserve r t p
raised_alike None t x p same = refl
raised_alike (Some r) t x p same = let e : nat_le r x ≡ nat_le r t = cc in rw e refl

from_covered : (bands : List (ℕ × ℕ)) (opening : Opening) (t x : ℕ) (o : Option ℕ) → t ≤ x → IfSome o (λ s. over bands s ≤ t) → met_by opening.reserve (Some x) ≡ met_by opening.reserve (Some t)
    → price_from bands opening x o ≡ price_from bands opening t o
from_covered bands opening t x o le covered same =
    rw (by_covered bands opening.start t x o le covered) (raised_alike opening.reserve t x (price_by_bids bands opening.start t o) same)

some_top : (bids : List Bid) (b : Bid) → greatest_if_any (maxima (bids ++ b ∷ [])) ≡ Some (max (top bids) b.maximum)
unfolding top
some_top bids b = if_any-more bids b

first_top : (a : Bid) (bids : List Bid) → greatest_if_any (maxima (a ∷ bids)) ≡ Some (top (a ∷ bids))
unfolding top
first_top a bids = refl

-- and the price, unless the old top capped it or the raise meets the reserve
pub price-raise : (bands : List (ℕ × ℕ)) (opening : Opening) (bids : List Bid) (b : Bid) → refusal bands opening bids b.member b.maximum ≡ None → leader bids ≡ Some b.member → IfSome (second bids) (λ s. over bands s ≤ top bids) → met opening (bids ++ b ∷ []) ≡ met opening bids → price bands opening (bids ++ b ∷ []) ≡ price bands opening bids
unfolding price
price-raise bands opening [] b ok led covered same = absurd (none_leader b.member led)
price-raise bands opening (a ∷ bids) b ok led covered same =
    let after : greatest_if_any (maxima (a ∷ bids ++ b ∷ [])) ≡ Some (max (top (a ∷ bids)) b.maximum) = some_top (a ∷ bids) b in
    let before : greatest_if_any (maxima (a ∷ bids)) ≡ Some (top (a ∷ bids)) = first_top a bids in
    rw (second-raise bands opening (a ∷ bids) b ok led, top-more (a ∷ bids) b)
    (from_covered bands opening (top (a ∷ bids)) (max (top (a ∷ bids)) b.maximum) (second (a ∷ bids)) (omega arith) covered (rw (after, before) at same))
