-- What the rules say of a bid.
use Rattle.std.proofs.Common.{◌≡◌, ◌≢◌, ℕ, ◌<◌, ◌≤◌, List, [], ◌∷◌, length, Option, Some, None, true, false, refl, ◌∙◌, ap, sym, arith}
use Rattle.std.specs.Prelude.{if◌then◌else◌, nat_le, nat_lt, IfSome}
use Rattle.std.proofs.lemmas.Bool.Decides.{nat_tests}
use Rattle.proxy.specs.declared.bid.Bid.{Bid}
use Rattle.proxy.specs.declared.bid.BidRefusal.TheVariants.{Low, NotHigher, Full}
use Rattle.proxy.specs.Kept.{Kept}
use Rattle.proxy.specs.Opening.{Opening}
use Rattle.proxy.specs.Bids.{greatest_if_any, maxima, top, leader, is_leader, refusal, standing_of, floor}
use Rattle.proxy.proofs.Leads.{leader_greatest, top_is}

-- nobody leads where nobody bid
pub none_leader : (m : ℕ) → leader [] ≢ Some m
unfolding leader
none_leader m e = cc

is_leader_yes : (o : Option ℕ) (m : ℕ) → o ≡ Some m → is_leader o m ≡ true
is_leader_yes None m e = cc
is_leader_yes (Some l) m e = grind (arith, nat_tests)

is_leader_no : (o : Option ℕ) (m : ℕ) → o ≢ Some m → is_leader o m ≡ false
is_leader_no None m ne = refl
is_leader_no (Some l) m ne = grind (arith, nat_tests)

-- what a leader is answered
refusal-leader : (bands : List (ℕ × ℕ)) (opening : Opening) (bids : List Bid) (m x : ℕ) → leader bids ≡ Some m →
    refusal bands opening bids m x ≡ (if nat_le x (top bids) then Some NotHigher else (if nat_le 10000 (length bids) then Some Full else None))
refusal-leader bands opening bids m x led =
    let leads : is_leader (leader bids) m ≡ true = is_leader_yes (leader bids) m led in
    rw (leads, leader_greatest bids m led) refl

-- what anybody else is answered
pub refusal-other : (bands : List (ℕ × ℕ)) (opening : Opening) (bids : List Bid) (m x : ℕ) → leader bids ≢ Some m →
    refusal bands opening bids m x ≡ (if nat_lt x (floor bands opening bids) then Some (Low (floor bands opening bids)) else (if nat_le 10000 (length bids) then Some Full else None))
refusal-other bands opening bids m x ne =
    let leads : is_leader (leader bids) m ≡ false = is_leader_no (leader bids) m ne in
    rw leads refl

-- an accepted bid of the leader is above its own
pub accepted_above : (bands : List (ℕ × ℕ)) (opening : Opening) (bids : List Bid) (m x : ℕ) → refusal bands opening bids m x ≡ None → leader bids ≡ Some m → top bids < x
accepted_above bands opening bids m x ok led = grind (arith, nat_tests, sym (refusal-leader bands opening bids m x led) ∙ ok)

-- an accepted bid of anybody else meets the floor
pub accepted_over : (bands : List (ℕ × ℕ)) (opening : Opening) (bids : List Bid) (m x : ℕ) → refusal bands opening bids m x ≡ None → leader bids ≢ Some m → floor bands opening bids ≤ x
accepted_over bands opening bids m x ok ne = grind (arith, nat_tests, sym (refusal-other bands opening bids m x ne) ∙ ok)

-- where somebody leads there is a top
led_top : (bands : List (ℕ × ℕ)) (s : Kept) (opening : Opening) (bids : List Bid) (m : ℕ) → s ≡ standing_of bands opening bids → s.leader ≡ Some m → s.top ≡ Some (top bids)
led_top bands s opening [] m e led = absurd (none_leader m (sym (ap (λ (s : Kept). s.leader) e) ∙ led))
led_top bands s opening (b ∷ bids) m e led =
    let to : s.top ≡ greatest_if_any (maxima (b ∷ bids)) = ap (λ (s : Kept). s.top) e in
    to ∙ ap Some (sym (top_is (b ∷ bids) _ refl))

-- a leader's maximum that isn't above its own is refused
pub not_higher : (bands : List (ℕ × ℕ)) (s : Kept) (opening : Opening) (bids : List Bid) (m x : ℕ) → s ≡ standing_of bands opening bids → s.leader ≡ Some m → IfSome s.top (λ t. x ≤ t) →
    refusal bands opening bids m x ≡ Some NotHigher
not_higher bands s opening bids m x e led low =
    let le : s.leader ≡ leader bids = ap (λ (s : Kept). s.leader) e in
    let low' : x ≤ top bids = rw (led_top bands s opening bids m e led) at low in
    refusal-leader bands opening bids m x (sym le ∙ led) ∙ grind (arith, nat_tests)

-- one that is above its own is taken as long as there is room
pub higher : (bands : List (ℕ × ℕ)) (s : Kept) (opening : Opening) (bids : List Bid) (m x : ℕ) → s ≡ standing_of bands opening bids → s.leader ≡ Some m → IfSome s.top (λ t. t < x) →
    refusal bands opening bids m x ≡ (if nat_le 10000 s.count then Some Full else None)
higher bands s opening bids m x e led high =
    let le : s.leader ≡ leader bids = ap (λ (s : Kept). s.leader) e in
    let co : s.count ≡ length bids = ap (λ (s : Kept). s.count) e in
    let high' : top bids < x = rw (led_top bands s opening bids m e led) at high in
    refusal-leader bands opening bids m x (sym le ∙ led) ∙ rw co (grind (arith, nat_tests))

-- anybody else's maximum under the floor is refused
pub under : (bands : List (ℕ × ℕ)) (s : Kept) (opening : Opening) (bids : List Bid) (m x f : ℕ) → s ≡ standing_of bands opening bids → s.leader ≢ Some m → f ≡ floor bands opening bids → x < f →
    refusal bands opening bids m x ≡ Some (Low f)
under bands s opening bids m x f e ne is lt =
    let le : s.leader ≡ leader bids = ap (λ (s : Kept). s.leader) e in
    refusal-other bands opening bids m x (λ led. ne (le ∙ led)) ∙ rw (← is) (grind (arith, nat_tests))

-- one that meets the floor is taken as long as there is room
pub met : (bands : List (ℕ × ℕ)) (s : Kept) (opening : Opening) (bids : List Bid) (m x f : ℕ) → s ≡ standing_of bands opening bids → s.leader ≢ Some m → f ≡ floor bands opening bids → f ≤ x →
    refusal bands opening bids m x ≡ (if nat_le 10000 s.count then Some Full else None)
met bands s opening bids m x f e ne is ge =
    let le : s.leader ≡ leader bids = ap (λ (s : Kept). s.leader) e in
    let co : s.count ≡ length bids = ap (λ (s : Kept). s.count) e in
    refusal-other bands opening bids m x (λ led. ne (le ∙ led)) ∙ rw (← is, co) (grind (arith, nat_tests))
