-- Standings that differ in the leader's maximum alone look the same to everybody else.
use Rattle.std.proofs.Common.{◌≡◌, ◌≢◌, ℕ, ◌+◌, ◌<◌, ◌≤◌, List, [], ◌∷◌, ◌++◌, length, length-append, max, Option, Some, None, true, false, refl, ◌∙◌, ap, sym, arith, inl, inr, ◌⊎◌}
use Rattle.std.specs.Prelude.{if◌then◌else◌, ◌==◌, IfSome, nat_le, unwrap_or}
use Rattle.std.proofs.lemmas.Bool.Decides.{nat_tests}
use Rattle.std.proofs.lemmas.Bool.{cases_lt, cases_eq}
use Rattle.steps.specs.Table.{IsBandTable, over, step_at}
use Rattle.steps.proofs.Rising.{step_positive, step_rises}
use Rattle.proxy.specs.declared.bid.Bid.{Bid}
use Rattle.proxy.specs.Bids.{bids_by, bids_not_by, first_at, floor, greatest, greatest_if_any, greatest_of, leader, maxima, met, met_by, one_more, price, price_by_bids, price_from, refusal, second, standing_of, top, with_reserve}
use Rattle.proxy.specs.Opening.{Opening}
use Rattle.proxy.specs.Surplus.{AreCovered, Covers, DifferInTop, IsSurplus, with_top}
use Rattle.proxy.proofs.Judged.{refusal-other}
use Rattle.proxy.proofs.Leads.{leader_above, leader_greatest, leader_kept, none_leads, not_by-more_other, not_by-more_same, second_kept, top-more, top_is}

by_bids : (bands : List (ℕ × ℕ)) (start x y : ℕ) (o : Option ℕ) → IfSome o (λ s. over bands s ≤ x) → IfSome o (λ s. over bands s ≤ y)
    → price_by_bids bands start x o ≡ price_by_bids bands start y o
by_bids bands start x y None left right = refl
by_bids bands start x y (Some s) left right = grind (arith, left, right)

raised : (reserve : Option ℕ) (x y p : ℕ) → IfSome reserve (λ r. r ≤ x) → IfSome reserve (λ r. r ≤ y) → with_reserve reserve x p ≡ with_reserve reserve y p
raised None x y p left right = refl
raised (Some r) x y p left right = grind (arith, nat_tests, left, right)

from_both : (bands : List (ℕ × ℕ)) (opening : Opening) (x y : ℕ) (o : Option ℕ) → Covers bands opening.reserve o x → Covers bands opening.reserve o y
    → price_from bands opening x o ≡ price_from bands opening y o
from_both bands opening x y o left right =
    ap (with_reserve opening.reserve x) (by_bids bands opening.start x y o left.0 right.0)
    ∙ raised opening.reserve x y (price_by_bids bands opening.start y o) left.1 right.1

-- the price is the same
pub tops_price : (bands : List (ℕ × ℕ)) (opening : Opening) (w : ℕ) (left right : List Bid) → DifferInTop bands opening.reserve w left right
    → price bands opening left ≡ price bands opening right
unfolding price
tops_price bands opening w left right d =
    let covers : Covers bands opening.reserve (second left) (top right) = rw d.seconds d.right_covers in
    rw (← d.seconds) (from_both bands opening (top left) (top right) (second left) d.left_covers covers)

floor_by_count : (bands : List (ℕ × ℕ)) (opening : Opening) (bids : List Bid)
    → floor bands opening bids ≡ (if length bids == 0 then opening.start else over bands (price bands opening bids))
floor_by_count bands opening [] = refl
floor_by_count bands opening (b ∷ bids) = grind (arith, nat_tests)

-- and so is the floor
pub tops_floor : (bands : List (ℕ × ℕ)) (opening : Opening) (w : ℕ) (left right : List Bid) → DifferInTop bands opening.reserve w left right
    → floor bands opening left ≡ floor bands opening right
tops_floor bands opening w left right d =
    rw (floor_by_count bands opening left, floor_by_count bands opening right, d.count, tops_price bands opening w left right d) refl

led_top : (bids : List Bid) (w : ℕ) → leader bids ≡ Some w → greatest_if_any (maxima bids) ≡ Some (top bids)
unfolding leader
led_top [] w led = cc
led_top (b ∷ bids) w led = ap Some (sym (top_is (b ∷ bids) _ refl))

both_met : (reserve : Option ℕ) (x y : ℕ) → IfSome reserve (λ r. r ≤ x) → IfSome reserve (λ r. r ≤ y) → met_by reserve (Some x) ≡ met_by reserve (Some y)
both_met None x y left right = refl
both_met (Some r) x y left right =
    let a : nat_le r x ≡ true = grind (arith, nat_tests, left) in
    let b : nat_le r y ≡ true = grind (arith, nat_tests, right) in
    ap Some (a ∙ sym b)

-- and whether the reserve is met
pub tops_met : (bands : List (ℕ × ℕ)) (opening : Opening) (w : ℕ) (left right : List Bid) → DifferInTop bands opening.reserve w left right
    → met opening left ≡ met opening right
tops_met bands opening w left right d =
    ap (met_by opening.reserve) (led_top left w d.left_leads)
    ∙ both_met opening.reserve (top left) (top right) d.left_covers.1 d.right_covers.1
    ∙ sym (ap (met_by opening.reserve) (led_top right w d.right_leads))

-- what is kept differs in the top alone
pub tops_kept : (bands : List (ℕ × ℕ)) (opening : Opening) (w : ℕ) (left right : List Bid) → DifferInTop bands opening.reserve w left right
    → standing_of bands opening right ≡ with_top (top right) (standing_of bands opening left)
tops_kept bands opening w left right d =
    rw (tops_price bands opening w left right d, d.left_leads, d.right_leads, d.seconds, d.count, led_top right w d.right_leads) refl

-- whoever doesn't lead is answered the same
pub tops_refusal : (bands : List (ℕ × ℕ)) (opening : Opening) (w : ℕ) (left right : List Bid) (m x : ℕ) → m ≢ w
    → DifferInTop bands opening.reserve w left right → refusal bands opening left m x ≡ refusal bands opening right m x
tops_refusal bands opening w left right m x ne d =
    let others : (bids : List Bid) → leader bids ≡ Some w → leader bids ≢ Some m = λ bids led me. ne (let e : Some w ≡ Some m = sym led ∙ me in cc) in
    rw (
      refusal-other bands opening left m x (others left d.left_leads),
      refusal-other bands opening right m x (others right d.right_leads),
      tops_floor bands opening w left right d,
      d.count,
    ) refl

covers_more : (bands : List (ℕ × ℕ)) (o : Option ℕ) (x t : ℕ) → IfSome o (λ s. over bands s ≤ t) → over bands x ≤ t → over bands (max (unwrap_or o 0) x) ≤ t
covers_more bands None x t covers le = let e : max 0 x ≡ x = omega arith in rw e le
covers_more bands (Some s) x t covers le =
    elim (cases_lt s x) [
      | inl lt ↦ (let e : max s x ≡ x = omega arith in rw e le)
      | inr ge ↦ (let e : max s x ≡ s = omega arith in rw e covers)
    ]

-- and a bid of its own over which one step lies at most at both tops leaves it so
pub tops_more : (bands : List (ℕ × ℕ)) (reserve : Option ℕ) (w : ℕ) (left right : List Bid) (m x : ℕ) → m ≢ w → over bands x ≤ top left → over bands x ≤ top right
    → DifferInTop bands reserve w left right → DifferInTop bands reserve w (one_more left m x) (one_more right m x)
tops_more bands reserve w left right m x ne below_left below_right d =
    let b : Bid = record { member = m; maximum = x; no = length left + 1 } in
    let c : Bid = record { member = m; maximum = x; no = length right + 1 } in
    let le_left : x ≤ top left = omega arith in
    let le_right : x ≤ top right = omega arith in
    let same_left : top (left ++ b ∷ []) ≡ top left = top-more left b ∙ (let e : max (top left) x ≡ top left = omega arith in e) in
    let same_right : top (right ++ c ∷ []) ≡ top right = top-more right c ∙ (let e : max (top right) x ≡ top right = omega arith in e) in
    let second_left = second_kept left b w d.left_leads ne le_left in
    let second_right = second_kept right c w d.right_leads ne le_right in
    record {
      left_leads = leader_kept left b w d.left_leads le_left;
      right_leads = leader_kept right c w d.right_leads le_right;
      seconds = second_left ∙ ap (λ o. Some (max (unwrap_or o 0) x)) d.seconds ∙ sym second_right;
      count = rw (length-append left (b ∷ []), length-append right (c ∷ []), d.count) refl;
      left_covers = rw (second_left, same_left) (covers_more bands (second left) x (top left) d.left_covers.0 below_left, d.left_covers.1);
      right_covers = rw (second_right, same_right) (covers_more bands (second right) x (top right) d.right_covers.0 below_right, d.right_covers.1);
    }

-- of bids of which all are covered, the greatest is
covered_greatest : (bands : List (ℕ × ℕ)) (x : ℕ) (b : Bid) (bids : List Bid) → AreCovered bands x (b ∷ bids) → over bands (greatest_of (maxima (b ∷ bids))) ≤ x
covered_greatest bands x b [] all = let e : max b.maximum 0 ≡ b.maximum = grind arith in rw e all.0
covered_greatest bands x b (a ∷ bids) all =
    let rest = covered_greatest bands x a bids all.1 in
    elim (cases_lt b.maximum (greatest_of (maxima (a ∷ bids)))) [
      | inl lt ↦ (let e : max b.maximum (greatest_of (maxima (a ∷ bids))) ≡ greatest_of (maxima (a ∷ bids)) = grind arith in rw e rest)
      | inr le ↦ (let e : max b.maximum (greatest_of (maxima (a ∷ bids))) ≡ b.maximum = grind arith in rw e all.0)
    ]

all_cover : (bands : List (ℕ × ℕ)) (x : ℕ) (bids : List Bid) → AreCovered bands x bids → IfSome (greatest_if_any (maxima bids)) (λ s. over bands s ≤ x)
all_cover bands x [] all = tt
all_cover bands x (b ∷ bids) all = covered_greatest bands x b bids all

second_is : (bids : List Bid) (w : ℕ) → leader bids ≡ Some w → second bids ≡ greatest_if_any (maxima (bids_not_by w bids))
unfolding second
second_is bids w led = rw led refl

over_above : (bands : List (ℕ × ℕ)) (o : Option ℕ) (x y : ℕ) → x ≤ y → IfSome o (λ s. over bands s ≤ x) → IfSome o (λ s. over bands s ≤ y)
over_above bands None x y le covers = tt
over_above bands (Some s) x y le covers = omega arith

met_above : (reserve : Option ℕ) (x y : ℕ) → x ≤ y → IfSome reserve (λ r. r ≤ x) → IfSome reserve (λ r. r ≤ y)
met_above None x y le covers = tt
met_above (Some r) x y le covers = omega arith

covers_above : (bands : List (ℕ × ℕ)) (reserve o : Option ℕ) (x y : ℕ) → x ≤ y → Covers bands reserve o x → Covers bands reserve o y
covers_above bands reserve o x y le covers = (over_above bands o x y le covers.0, met_above reserve x y le covers.1)

-- a surplus is a difference in the top alone
pub surplus_tops : (bands : List (ℕ × ℕ)) (reserve : Option ℕ) (w x y : ℕ) (left right : List Bid) → x ≤ y → IsSurplus bands reserve w x y left right
    → DifferInTop bands reserve w left right
surplus_tops bands reserve w x y left right le s =
    let covers : Covers bands reserve (second left) x = (rw (second_is left w s.left_leads) (all_cover bands x (bids_not_by w left) s.covered), s.met) in
    let same : second left ≡ second right = second_is left w s.left_leads ∙ ap (λ bs. greatest_if_any (maxima bs)) s.others ∙ sym (second_is right w s.right_leads) in
    record {
      left_leads = s.left_leads;
      right_leads = s.right_leads;
      seconds = same;
      count = s.count;
      left_covers = rw s.left_top covers;
      right_covers = rw (s.right_top, ← same) (covers_above bands reserve (second left) x y le covers);
    }

all_push : (bands : List (ℕ × ℕ)) (x : ℕ) (bids : List Bid) (b : Bid) → AreCovered bands x bids → over bands b.maximum ≤ x → AreCovered bands x (bids ++ b ∷ [])
all_push bands x [] b all le = (le, tt)
all_push bands x (a ∷ bids) b all le = (all.0, all_push bands x bids b all.1 le)

-- another's bid that is covered keeps the surplus
pub surplus_more : (bands : List (ℕ × ℕ)) (reserve : Option ℕ) (w x y : ℕ) (left right : List Bid) (b : Bid) → x ≤ y → b.member ≢ w → over bands b.maximum ≤ x → IsSurplus bands reserve w x y left right
    → IsSurplus bands reserve w x y (left ++ b ∷ []) (right ++ b ∷ [])
surplus_more bands reserve w x y left right b le ne covered s =
    let below : b.maximum ≤ x = omega arith in
    let below_left : b.maximum ≤ top left = rw s.left_top below in
    let below_right : b.maximum ≤ top right = rw s.right_top (omega arith) in
    record {
      others = rw (not_by-more_other w left b ne, not_by-more_other w right b ne, s.others) refl;
      count = rw (length-append left (b ∷ []), length-append right (b ∷ []), s.count) refl;
      left_leads = leader_kept left b w s.left_leads below_left;
      right_leads = leader_kept right b w s.right_leads below_right;
      left_top = top-more left b ∙ (let t = s.left_top in grind arith);
      right_top = top-more right b ∙ (let t = s.right_top in grind arith);
      covered = rw (not_by-more_other w left b ne) (all_push bands x (bids_not_by w left) b s.covered covered);
      met = s.met;
    }

-- a bid above all before it begins one
surplus_above : (bands : List (ℕ × ℕ)) (reserve : Option ℕ) (w x y : ℕ) (bids : List Bid) (number : ℕ) → IfSome reserve (λ r. r ≤ x) → x ≤ y → top bids < x → AreCovered bands x (bids_not_by w bids)
    → IsSurplus bands reserve w x y (bids ++ record { member = w; maximum = x; no = number } ∷ []) (bids ++ record { member = w; maximum = y; no = number } ∷ [])
surplus_above bands reserve w x y bids number met le lt all =
    let one : Bid = record { member = w; maximum = x; no = number } in
    let other : Bid = record { member = w; maximum = y; no = number } in
    let lt' : top bids < y = omega arith in
    record {
      others = not_by-more_same w bids one refl ∙ sym (not_by-more_same w bids other refl);
      count = length-append bids (one ∷ []) ∙ sym (length-append bids (other ∷ []));
      left_leads = leader_above bids one lt;
      right_leads = leader_above bids other lt';
      left_top = top-more bids one ∙ grind arith;
      right_top = top-more bids other ∙ grind arith;
      covered = rw (not_by-more_same w bids one refl) all;
      met = met;
    }

one_leads : (b : Bid) → leader (b ∷ []) ≡ Some b.member
unfolding leader top
one_leads b = grind (arith, nat_tests)

one_top : (b : Bid) → top (b ∷ []) ≡ b.maximum
unfolding top
one_top b = grind arith

-- and so does the first bid of all
surplus_alone : (bands : List (ℕ × ℕ)) (reserve : Option ℕ) (w x y : ℕ) (bids : List Bid) (number : ℕ) → IfSome reserve (λ r. r ≤ x) → bids ≡ []
    → IsSurplus bands reserve w x y (bids ++ record { member = w; maximum = x; no = number } ∷ []) (bids ++ record { member = w; maximum = y; no = number } ∷ [])
surplus_alone bands reserve w x y bids number met none =
    let one : Bid = record { member = w; maximum = x; no = number } in
    let other : Bid = record { member = w; maximum = y; no = number } in
    rw none (record {
      others = not_by-more_same w [] one refl ∙ sym (not_by-more_same w [] other refl);
      count = refl;
      left_leads = one_leads one;
      right_leads = one_leads other;
      left_top = one_top one;
      right_top = one_top other;
      covered = rw (not_by-more_same w [] one refl) tt;
      met = met;
    })

pub surplus_first : (bands : List (ℕ × ℕ)) (reserve : Option ℕ) (w x y : ℕ) (bids : List Bid) (number : ℕ) → IfSome reserve (λ r. r ≤ x) → x ≤ y → (bids ≡ []) ⊎ (top bids < x) → AreCovered bands x (bids_not_by w bids)
    → IsSurplus bands reserve w x y (bids ++ record { member = w; maximum = x; no = number } ∷ []) (bids ++ record { member = w; maximum = y; no = number } ∷ [])
surplus_first bands reserve w x y bids number met le (inl none) all = surplus_alone bands reserve w x y bids number met none
surplus_first bands reserve w x y bids number met le (inr lt) all = surplus_above bands reserve w x y bids number met le lt all

-- another's own bids are the same
by_of_others : (w d : ℕ) (bids : List Bid) → d ≢ w → bids_by d bids ≡ bids_by d (bids_not_by w bids)
by_of_others w d [] ne = refl
by_of_others w d (b ∷ bids) ne = grind (arith, nat_tests, by_of_others w d bids ne)

pub surplus_greatest : (bands : List (ℕ × ℕ)) (reserve : Option ℕ) (w x y d : ℕ) (left right : List Bid) → d ≢ w → IsSurplus bands reserve w x y left right → greatest left d ≡ greatest right d
unfolding greatest
surplus_greatest bands reserve w x y d left right ne s = rw (by_of_others w d left ne, by_of_others w d right ne, s.others) refl

-- the leader's own maxima are the tops
pub surplus_own : (bands : List (ℕ × ℕ)) (reserve : Option ℕ) (w x y : ℕ) (left right : List Bid) → IsSurplus bands reserve w x y left right → (greatest left w ≡ x) × (greatest right w ≡ y)
surplus_own bands reserve w x y left right s =
    (leader_greatest left w s.left_leads ∙ s.left_top, leader_greatest right w s.right_leads ∙ s.right_top)

-- where the second is covered, all others' bids are
all_from_greatest : (bands : List (ℕ × ℕ)) (x n : ℕ) (bids : List Bid) → IsBandTable bands → greatest_of (maxima bids) ≤ n → over bands n ≤ x → AreCovered bands x bids
all_from_greatest bands x n [] valid le top = tt
all_from_greatest bands x n (b ∷ bids) valid le top =
    let below : b.maximum ≤ n = omega arith in
    let rises : step_at bands b.maximum ≤ step_at bands n = step_rises bands b.maximum n valid below in
    (omega arith, all_from_greatest bands x n bids valid (omega arith) top)

all_from_second : (bands : List (ℕ × ℕ)) (x : ℕ) (bids : List Bid) → IsBandTable bands → IfSome (greatest_if_any (maxima bids)) (λ s. over bands s ≤ x) → AreCovered bands x bids
all_from_second bands x [] valid covers = tt
all_from_second bands x (b ∷ bids) valid covers = all_from_greatest bands x (greatest_of (maxima (b ∷ bids))) (b ∷ bids) valid (omega arith) covers

pub others_covered : (bands : List (ℕ × ℕ)) (w x : ℕ) (bids : List Bid) → IsBandTable bands → leader bids ≡ Some w → IfSome (second bids) (λ s. over bands s ≤ x)
    → AreCovered bands x (bids_not_by w bids)
others_covered bands w x bids valid led covers = all_from_second bands x (bids_not_by w bids) valid (rw (second_is bids w led) at covers)

-- whoever else leads is among them
all_tail : (bands : List (ℕ × ℕ)) (w x : ℕ) (b : Bid) (bids : List Bid) → AreCovered bands x (bids_not_by w (b ∷ bids)) → AreCovered bands x (bids_not_by w bids)
all_tail bands w x b bids all = elim (cases_eq b.member w) [
  | inl is ↦ (let e : (b.member == w) ≡ true = grind (arith, nat_tests) in rw e at all)
  | inr ne ↦ (let e : (b.member == w) ≡ false = grind (arith, nat_tests) in let here : AreCovered bands x (b ∷ bids_not_by w bids) = rw e at all in here.1)
]

leader_covered : (bands : List (ℕ × ℕ)) (w x l amount : ℕ) (bids : List Bid) → first_at amount bids ≡ Some l → l ≢ w → AreCovered bands x (bids_not_by w bids) → over bands amount ≤ x
leader_covered bands w x l amount [] first ne all = cc
leader_covered bands w x l amount (b ∷ bids) first ne all =
    elim (cases_eq b.maximum amount) [
      | inl is ↦ (let same : (b.maximum == amount) ≡ true = grind (arith, nat_tests) in
          let mine : Some b.member ≡ Some l = rw same at first in
          let me : b.member ≡ l = cc in
          let differ : (b.member == w) ≡ false = grind (arith, nat_tests, ne) in
          let here : AreCovered bands x (b ∷ bids_not_by w bids) = rw differ at all in
          rw (← is) here.0)
      | inr apart ↦ (let other : (b.maximum == amount) ≡ false = grind (arith, nat_tests) in
          leader_covered bands w x l amount bids (rw other at first) ne (all_tail bands w x b bids all))
    ]

-- so a bid that is above its bidder's own where it leads, and covers all others', is the first or above all before it
pub first_or_above : (bands : List (ℕ × ℕ)) (w x : ℕ) (bids : List Bid) (o : Option ℕ) → leader bids ≡ o → IsBandTable bands → (leader bids ≡ Some w → greatest bids w < x) → AreCovered bands x (bids_not_by w bids)
    → (bids ≡ []) ⊎ (top bids < x)
unfolding leader
first_or_above bands w x bids None e valid own all = inl (none_leads bids e)
first_or_above bands w x bids (Some l) e valid own all =
    elim (cases_eq l w) [
      | inl same ↦ (let me : leader bids ≡ Some w = e ∙ ap Some same in let g = own me in let t = leader_greatest bids w me in inr (omega arith))
      | inr ne ↦ (let c : over bands (top bids) ≤ x = leader_covered bands w x l (top bids) bids e ne all in let a = step_positive bands (top bids) valid in inr (omega arith))
    ]
