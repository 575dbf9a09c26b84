-- The standing after each kind of bid.
use Rattle.std.proofs.Common.{◌≡◌, ◌≢◌, ℕ, ◌+◌, ◌<◌, ◌≤◌, List, [], ◌∷◌, ◌++◌, length, max, Option, Some, None, refl, ◌∙◌, ap, sym, arith, length-append}
use Rattle.std.specs.Prelude.{unwrap_or}
use Rattle.std.proofs.lemmas.Bool.Decides.{nat_tests}
use Rattle.proxy.specs.declared.bid.Bid.{Bid}
use Rattle.proxy.specs.Opening.{Opening}
use Rattle.proxy.specs.Bids.{greatest_if_any, maxima, bids_not_by, one_more, top, leader, second, price, standing_of}
use Rattle.proxy.specs.Kept.{Kept, opening_of}
use Rattle.proxy.specs.Led.{kept_led}
use Rattle.proxy.proofs.Prices.{none_raised}
use Rattle.proxy.proofs.Leads.{leader_above, leader_kept, second_raised, second_overtaken, second_kept, top-more, top_is, if_any-more, if_any_is}

-- the standing where nobody has bid
pub standing-none : (bands : List (ℕ × ℕ)) (opening : Opening) → standing_of bands opening [] ≡ record { start = opening.start; reserve = opening.reserve; price = opening.start; leader = None; top = None; second = None; count = 0 }
unfolding leader second top price
standing-none bands opening = rw none_raised refl

second-none : second [] ≡ None
unfolding second leader top
second-none = refl

opened : (bands : List (ℕ × ℕ)) (opening : Opening) (b : Bid) → standing_of bands opening (b ∷ []) ≡ kept_led bands opening b.member b.maximum None 1
unfolding price leader second top
opened bands opening b = grind (arith, nat_tests)

raised : (bands : List (ℕ × ℕ)) (opening : Opening) (bids : List Bid) (b : Bid) (t : ℕ) → leader bids ≡ Some b.member → greatest_if_any (maxima bids) ≡ Some t → t < b.maximum →
    standing_of bands opening (bids ++ b ∷ []) ≡ kept_led bands opening b.member b.maximum (second bids) (length bids + 1)
unfolding price
raised bands opening bids b t led is lt =
    let lt' : top bids < b.maximum = rw (top_is bids t is) lt in
    grind (arith, leader_above bids b lt', second_raised bids b led lt', top-more bids b, if_any-more bids b, if_any_is bids t is, length-append bids (b ∷ []), top_is bids t is)

overtaken : (bands : List (ℕ × ℕ)) (opening : Opening) (bids : List Bid) (b : Bid) (l t : ℕ) → leader bids ≡ Some l → l ≢ b.member → greatest_if_any (maxima bids) ≡ Some t → t < b.maximum →
    standing_of bands opening (bids ++ b ∷ []) ≡ kept_led bands opening b.member b.maximum (Some t) (length bids + 1)
unfolding price
overtaken bands opening bids b l t led ne is lt =
    let lt' : top bids < b.maximum = rw (top_is bids t is) lt in
    grind (arith, leader_above bids b lt', second_overtaken bids b l led ne lt', top-more bids b, if_any-more bids b, if_any_is bids t is, length-append bids (b ∷ []), top_is bids t is)

held : (bands : List (ℕ × ℕ)) (opening : Opening) (bids : List Bid) (b : Bid) (l t : ℕ) → leader bids ≡ Some l → l ≢ b.member → greatest_if_any (maxima bids) ≡ Some t → b.maximum ≤ t →
    standing_of bands opening (bids ++ b ∷ []) ≡ kept_led bands opening l t (Some (max (unwrap_or (second bids) 0) b.maximum)) (length bids + 1)
unfolding price
held bands opening bids b l t led ne is le =
    let le' : b.maximum ≤ top bids = rw (top_is bids t is) le in
    let ne' : b.member ≢ l = λ e. ne (sym e) in
    grind (arith, leader_kept bids b l led le', second_kept bids b l led ne' le', top-more bids b, if_any-more bids b, if_any_is bids t is, length-append bids (b ∷ []), top_is bids t is)

-- the standing by the two scans
pub scanned : (bands : List (ℕ × ℕ)) (opening : Opening) (bids : List Bid) (l t : ℕ) (o : Option ℕ) → leader bids ≡ Some l → greatest_if_any (maxima bids) ≡ Some t → o ≡ greatest_if_any (maxima (bids_not_by l bids)) →
    kept_led bands opening l t o (length bids) ≡ standing_of bands opening bids
unfolding price second
scanned bands opening bids l t o led is others = rw (others, led, is, top_is bids t is) refl

-- the first bid
pub opened_from : (bands : List (ℕ × ℕ)) (s : Kept) (opening : Opening) (bids : List Bid) (m x : ℕ) → s ≡ standing_of bands opening bids → bids ≡ [] →
    kept_led bands (opening_of s) m x s.second (s.count + 1) ≡ standing_of bands opening (one_more bids m x)
opened_from bands s opening bids m x e none =
    let st : s.start ≡ opening.start = ap (λ (s : Kept). s.start) e in
    let re : s.reserve ≡ opening.reserve = ap (λ (s : Kept). s.reserve) e in
    let co : s.count ≡ 0 = ap (λ (s : Kept). s.count) e ∙ ap length none in
    let se : s.second ≡ None = ap (λ (s : Kept). s.second) e ∙ ap second none ∙ second-none in
    rw (none, st, re, co, se) (sym (opened bands opening (record { member = m; maximum = x; no = 1 })))

-- the leader raises
pub raised_from : (bands : List (ℕ × ℕ)) (s : Kept) (opening : Opening) (bids : List Bid) (m x t : ℕ) → s ≡ standing_of bands opening bids → s.leader ≡ Some m → s.top ≡ Some t → t < x →
    kept_led bands (opening_of s) m x s.second (s.count + 1) ≡ standing_of bands opening (one_more bids m x)
raised_from bands s opening bids m x t e led is lt =
    let st : s.start ≡ opening.start = ap (λ (s : Kept). s.start) e in
    let re : s.reserve ≡ opening.reserve = ap (λ (s : Kept). s.reserve) e in
    let le : s.leader ≡ leader bids = ap (λ (s : Kept). s.leader) e in
    let to : s.top ≡ greatest_if_any (maxima bids) = ap (λ (s : Kept). s.top) e in
    let se : s.second ≡ second bids = ap (λ (s : Kept). s.second) e in
    let co : s.count ≡ length bids = ap (λ (s : Kept). s.count) e in
    rw (st, re, se, co) (sym (raised bands opening bids (record { member = m; maximum = x; no = length bids + 1 }) t (sym le ∙ led) (sym to ∙ is) lt))

-- another bids above the leader
pub overtaken_from : (bands : List (ℕ × ℕ)) (s : Kept) (opening : Opening) (bids : List Bid) (m x l t : ℕ) → s ≡ standing_of bands opening bids → s.leader ≡ Some l → l ≢ m → s.top ≡ Some t → t < x →
    kept_led bands (opening_of s) m x (Some t) (s.count + 1) ≡ standing_of bands opening (one_more bids m x)
overtaken_from bands s opening bids m x l t e led ne is lt =
    let st : s.start ≡ opening.start = ap (λ (s : Kept). s.start) e in
    let re : s.reserve ≡ opening.reserve = ap (λ (s : Kept). s.reserve) e in
    let le : s.leader ≡ leader bids = ap (λ (s : Kept). s.leader) e in
    let to : s.top ≡ greatest_if_any (maxima bids) = ap (λ (s : Kept). s.top) e in
    let co : s.count ≡ length bids = ap (λ (s : Kept). s.count) e in
    rw (st, re, co) (sym (overtaken bands opening bids (record { member = m; maximum = x; no = length bids + 1 }) l t (sym le ∙ led) ne (sym to ∙ is) lt))

-- another bids no more than the leader
pub held_from : (bands : List (ℕ × ℕ)) (s : Kept) (opening : Opening) (bids : List Bid) (m x l t y : ℕ) → s ≡ standing_of bands opening bids → s.leader ≡ Some l → l ≢ m → s.top ≡ Some t → x ≤ t → y ≡ max (unwrap_or s.second 0) x →
    kept_led bands (opening_of s) l t (Some y) (s.count + 1) ≡ standing_of bands opening (one_more bids m x)
held_from bands s opening bids m x l t y e led ne is le ey =
    let st : s.start ≡ opening.start = ap (λ (s : Kept). s.start) e in
    let re : s.reserve ≡ opening.reserve = ap (λ (s : Kept). s.reserve) e in
    let ld : s.leader ≡ leader bids = ap (λ (s : Kept). s.leader) e in
    let to : s.top ≡ greatest_if_any (maxima bids) = ap (λ (s : Kept). s.top) e in
    let se : s.second ≡ second bids = ap (λ (s : Kept). s.second) e in
    let co : s.count ≡ length bids = ap (λ (s : Kept). s.count) e in
    rw (ey, st, re, se, co) (sym (held bands opening bids (record { member = m; maximum = x; no = length bids + 1 }) l t (sym ld ∙ led) ne (sym to ∙ is) le))
