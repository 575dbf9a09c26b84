-- Accepted bids leave a standing that its row gives.
use Rattle.std.proofs.Common.{◌≡◌, ◌≢◌, ℕ, ◌+◌, ◌≤◌, List, [], ◌∷◌, ◌++◌, length, Option, Some, None, Bool, true, false, refl, ◌⊎◌, ◌∙◌, ap, sym, arith, inl, inr, append_assoc}
use Rattle.std.specs.Prelude.{◌==◌, unwrap_or, IfSome}
use Rattle.std.specs.List.{AllByRecursion}
use Rattle.std.proofs.lemmas.Bool.{cases_eq}
use Rattle.std.proofs.lemmas.Bool.Decides.{nat_tests}
use Rattle.proxy.specs.declared.bid.Bid.{Bid}
use Rattle.proxy.specs.Accepted.{AreAccepted}
use Rattle.proxy.specs.Opening.{Opening}
use Rattle.proxy.specs.Bids.{bids_by, bids_not_by, first_at, floor, greatest_if_any, greatest_of, leader, maxima, price, price_from, refusal, second, standing_of, top}
use Rattle.proxy.specs.Rows.{is_shape, is_standing}
use Rattle.proxy.proofs.Judged.{accepted_above, accepted_over, none_leader}
use Rattle.proxy.proofs.Leads.{or_zero, others_below, somebody_leads, top-more}
use Rattle.proxy.proofs.Prices.{price-none, price_starts}

by_test : (b : Bool) → (b ≡ true) ⊎ (b ≡ false)
by_test true = inl refl
by_test false = inr refl

-- the floor is at least the start
floor_starts : (bands : List (ℕ × ℕ)) (opening : Opening) (bids : List Bid) → opening.start ≤ floor bands opening bids
floor_starts bands opening [] = omega arith
floor_starts bands opening (b ∷ bids) = let le = price_starts bands opening (b ∷ bids) in omega arith

-- where earlier bids are at least the start, so is an accepted one
bid_starts : (bands : List (ℕ × ℕ)) (opening : Opening) (before : List Bid) (b : Bid) → (before ≢ [] → opening.start ≤ top before) → refusal bands opening before b.member b.maximum ≡ None → opening.start ≤ b.maximum
bid_starts bands opening before b early ok =
    by_leader (leader before) refl where
      by_leader : (o : Option ℕ) → leader before ≡ o → opening.start ≤ b.maximum
      by_leader None none =
          let over = accepted_over bands opening before b.member b.maximum ok (λ led. let e : None ≡ Some b.member = sym none ∙ led in cc) in
          let low = floor_starts bands opening before in omega arith
      by_leader (Some l) led = elim (cases_eq l b.member) [
        | inl same ↦ (let own : leader before ≡ Some b.member = led ∙ ap Some same in
            let above = accepted_above bands opening before b.member b.maximum ok own in
            let low = early (λ none. none_leader b.member (rw none at own)) in omega arith)
        | inr other ↦ (let over = accepted_over bands opening before b.member b.maximum ok (λ own. let e : Some l ≡ Some b.member = sym led ∙ own in other (let f : l ≡ b.member = cc in f)) in
            let low = floor_starts bands opening before in omega arith)
      ]

-- each of the accepted bids is at least the start
all_start : (bands : List (ℕ × ℕ)) (opening : Opening) (done rest : List Bid) → AreAccepted bands opening (done ++ rest) → (done ≢ [] → opening.start ≤ top done) → AllByRecursion (λ b. opening.start ≤ b.maximum) rest
all_start bands opening done [] each early = tt
all_start bands opening done (b ∷ rest) each early =
    let joined : (done ++ b ∷ []) ++ rest ≡ done ++ b ∷ rest = append_assoc done (b ∷ []) rest in
    let first = bid_starts bands opening done b early (each done b rest refl).accepted in
    let more = top-more done b in
    (first, all_start bands opening (done ++ b ∷ []) rest (rw joined each) (λ some. let le = first in omega arith))

others_start : (start l : ℕ) (bids : List Bid) → AllByRecursion (λ b. start ≤ b.maximum) bids → IfSome (greatest_if_any (maxima (bids_not_by l bids))) (λ s. start ≤ s)
others_start start l [] all = tt
others_start start l (b ∷ bids) all = elim (by_test (b.member == l)) [
  | inl same ↦ rw same (others_start start l bids all.1)
  | inr other ↦ rw other (let le = all.0 in omega arith)
]

-- a leader and a second are of two bids
first_among : (amount l : ℕ) (bids : List Bid) → first_at amount bids ≡ Some l → 1 ≤ length (bids_by l bids)
first_among amount l [] e = cc
first_among amount l (b ∷ bids) e = grind (arith, nat_tests, first_among amount l bids)

all_parts : (l : ℕ) (bids : List Bid) → length bids ≡ length (bids_by l bids) + length (bids_not_by l bids)
all_parts l [] = refl
all_parts l (b ∷ bids) = elim (by_test (b.member == l)) [
  | inl same ↦ rw same (let rest = all_parts l bids in omega arith)
  | inr other ↦ rw other (let rest = all_parts l bids in omega arith)
]

some_others : (bids : List Bid) (s : ℕ) → greatest_if_any (maxima bids) ≡ Some s → 1 ≤ length bids
some_others [] s e = cc
some_others (b ∷ bids) s e = omega arith

two_bids : (bids : List Bid) (l s : ℕ) → leader bids ≡ Some l → greatest_if_any (maxima (bids_not_by l bids)) ≡ Some s → 2 ≤ length bids
unfolding leader
two_bids bids l s led is =
    let own = first_among (top bids) l bids led in
    let others = some_others (bids_not_by l bids) s is in
    let all = all_parts l bids in
    omega arith

-- the second is at most the top
second_below : (bids : List Bid) (l s : ℕ) → greatest_if_any (maxima (bids_not_by l bids)) ≡ Some s → s ≤ top bids
unfolding top
second_below bids l s is =
    let e : greatest_of (maxima (bids_not_by l bids)) ≡ s = sym (or_zero (bids_not_by l bids)) ∙ ap (λ o. unwrap_or o 0) is in
    let le = others_below bids l in
    rw (← e) le

some_start : (start s : ℕ) (o : Option ℕ) → o ≡ Some s → IfSome o (λ x. start ≤ x) → start ≤ s
some_start start s o is le = rw is at le

shape_of : (bands : List (ℕ × ℕ)) (opening : Opening) (l t count : ℕ) (o : Option ℕ) → 1 ≤ count → count ≤ 10000 → opening.start ≤ t
    → ((s : ℕ) → o ≡ Some s → (2 ≤ count) × (opening.start ≤ s) × (s ≤ t)) → is_shape bands opening (price_from bands opening t o) count (Some l) (Some t) o ≡ true
shape_of bands opening l t count None some few starts each = grind (arith, nat_tests)
shape_of bands opening l t count (Some s) some few starts each = let is = each s refl in let a = is.0 in let b = is.1 in let c = is.2 in grind (arith, nat_tests)

pub accepted_shape : (bands : List (ℕ × ℕ)) (opening : Opening) (bids : List Bid) → AreAccepted bands opening bids → length bids ≤ 10000 → is_standing bands (standing_of bands opening bids) ≡ true
unfolding price second leader top
accepted_shape bands opening [] each few = let none : price bands opening [] ≡ opening.start = price-none bands opening in grind (arith, nat_tests)
accepted_shape bands opening (b ∷ bids) each few =
    let led = somebody_leads b bids in
    let all = all_start bands opening [] (b ∷ bids) each (λ none. absurd (none refl)) in
    let low = all.0 in
    rw led.1 (shape_of bands opening led.0 (greatest_of (maxima (b ∷ bids))) (length (b ∷ bids)) (greatest_if_any (maxima (bids_not_by led.0 (b ∷ bids)))) (omega arith) few (omega arith)
    (λ s is. (two_bids (b ∷ bids) led.0 s led.1 is, some_start opening.start s _ is (others_start opening.start led.0 (b ∷ bids) all), second_below (b ∷ bids) led.0 s is)))
