-- What one more bid does to the leader, the top and the second.
use Rattle.std.proofs.Common.{◌≡◌, ◌≢◌, ℕ, ◌<◌, ◌≤◌, List, [], ◌∷◌, ◌++◌, max, Some, None, refl, ap, arith, inl, inr}
use Rattle.std.specs.Prelude.{unwrap_or}
use Rattle.std.proofs.lemmas.Bool.Decides.{nat_tests}
use Rattle.std.proofs.lemmas.Bool.{cases_lt}
use Rattle.proxy.specs.declared.bid.Bid.{Bid}
use Rattle.proxy.specs.Bids.{greatest_of, greatest_if_any, maxima, bids_by, bids_not_by, greatest, top, first_at, leader, second}

-- the greatest maximum with one bid more
greatest_more : (bids : List Bid) (b : Bid) → greatest_of (maxima (bids ++ b ∷ [])) ≡ max (greatest_of (maxima bids)) b.maximum
greatest_more [] b = grind arith
greatest_more (a ∷ bids) b = grind (arith, greatest_more bids b)

-- the bids of all but one bidder, with another's bid more
pub not_by-more_other : (l : ℕ) (bids : List Bid) (b : Bid) → b.member ≢ l → bids_not_by l (bids ++ b ∷ []) ≡ bids_not_by l bids ++ b ∷ []
not_by-more_other l [] b ne = grind (arith, nat_tests)
not_by-more_other l (a ∷ bids) b ne = grind (arith, nat_tests, not_by-more_other l bids b ne)

-- and with a bid more of that bidder
pub not_by-more_same : (l : ℕ) (bids : List Bid) (b : Bid) → b.member ≡ l → bids_not_by l (bids ++ b ∷ []) ≡ bids_not_by l bids
not_by-more_same l [] b e = grind (arith, nat_tests)
not_by-more_same l (a ∷ bids) b e = grind (arith, nat_tests, not_by-more_same l bids b e)

-- whoever was first at an amount stays so
first_stays : (amount : ℕ) (bids : List Bid) (b : Bid) (l : ℕ) → first_at amount bids ≡ Some l → first_at amount (bids ++ b ∷ []) ≡ Some l
first_stays amount [] b l e = cc
first_stays amount (a ∷ bids) b l e = grind (arith, nat_tests, first_stays amount bids b l)

-- the first at an amount above all so far
first_above : (amount : ℕ) (bids : List Bid) (b : Bid) → greatest_of (maxima bids) < amount → b.maximum ≡ amount → first_at amount (bids ++ b ∷ []) ≡ Some b.member
first_above amount [] b lt e = grind (arith, nat_tests)
first_above amount (a ∷ bids) b lt e = grind (arith, nat_tests, first_above amount bids b)

-- an amount that another bid is at most the greatest of all but one bidder
first_among_others : (amount : ℕ) (bids : List Bid) (l m : ℕ) → first_at amount bids ≡ Some l → l ≢ m → amount ≤ greatest_of (maxima (bids_not_by m bids))
first_among_others amount [] l m e ne = cc
first_among_others amount (a ∷ bids) l m e ne = grind (arith, nat_tests, first_among_others amount bids l m)

-- an amount that a bidder was first at is at most its own greatest
first_among_own : (amount : ℕ) (bids : List Bid) (m : ℕ) → first_at amount bids ≡ Some m → amount ≤ greatest_of (maxima (bids_by m bids))
first_among_own amount [] m e = cc
first_among_own amount (a ∷ bids) m e = grind (arith, nat_tests, first_among_own amount bids m)

-- no other is above all
pub others_below : (bids : List Bid) (m : ℕ) → greatest_of (maxima (bids_not_by m bids)) ≤ greatest_of (maxima bids)
others_below [] m = grind arith
others_below (a ∷ bids) m = grind (arith, nat_tests, others_below bids m)

-- and nobody's own is
own_below : (bids : List Bid) (m : ℕ) → greatest_of (maxima (bids_by m bids)) ≤ greatest_of (maxima bids)
own_below [] m = grind arith
own_below (a ∷ bids) m = grind (arith, nat_tests, own_below bids m)

-- the greatest is bid by somebody
somebody_first : (a : Bid) (bids : List Bid) → (l : ℕ) × (first_at (greatest_of (maxima (a ∷ bids))) (a ∷ bids) ≡ Some l)
somebody_first a [] = (a.member, grind (arith, nat_tests))
somebody_first a (b ∷ bids) =
    let rest = somebody_first b bids in
    elim (cases_lt a.maximum (greatest_of (maxima (b ∷ bids)))) [ inl lt ↦ (rest.0, grind (arith, nat_tests, rest.1)) | inr le ↦ (a.member, grind (arith, nat_tests)) ]

-- where somebody bid, somebody leads
pub somebody_leads : (a : Bid) (bids : List Bid) → (l : ℕ) × (leader (a ∷ bids) ≡ Some l)
unfolding leader top
somebody_leads a bids = somebody_first a bids

-- nobody leads only where nobody bid
pub none_leads : (bids : List Bid) → leader bids ≡ None → bids ≡ []
none_leads [] e = refl
none_leads (a ∷ bids) e = let some = somebody_leads a bids in cc (some.1)

-- no bidder's greatest maximum is above the top
pub greatest_below : (bids : List Bid) (m : ℕ) → greatest bids m ≤ top bids
unfolding greatest top
greatest_below bids m = own_below bids m

-- the leader's greatest maximum is the top
pub leader_greatest : (bids : List Bid) (m : ℕ) → leader bids ≡ Some m → greatest bids m ≡ top bids
unfolding leader top greatest
leader_greatest bids m e = grind (arith, first_among_own (greatest_of (maxima bids)) bids m e, own_below bids m)

-- the greatest that there is, is the greatest or 0
pub if_any_is : (bids : List Bid) (t : ℕ) → greatest_if_any (maxima bids) ≡ Some t → greatest_of (maxima bids) ≡ t
if_any_is [] t e = cc
if_any_is (a ∷ bids) t e = cc

-- where somebody else leads, the greatest of all but one bidder is the greatest of all
second_left : (bids : List Bid) (l m t : ℕ) → l ≢ m → first_at t bids ≡ Some l → greatest_of (maxima bids) ≡ t → greatest_if_any (maxima (bids_not_by m bids)) ≡ Some t
second_left [] l m t ne led is = cc
second_left (a ∷ bids) l m t ne led is = grind (arith, nat_tests, first_among_others t (a ∷ bids) l m, others_below (a ∷ bids) m, if_any_is (bids_not_by m (a ∷ bids)) t)

-- the greatest that there is, with one bid more
pub if_any-more : (bids : List Bid) (b : Bid) → greatest_if_any (maxima (bids ++ b ∷ [])) ≡ Some (max (greatest_of (maxima bids)) b.maximum)
if_any-more [] b = grind arith
if_any-more (a ∷ bids) b = ap Some (greatest_more (a ∷ bids) b)

-- and 0 stands for none
pub or_zero : (bids : List Bid) → unwrap_or (greatest_if_any (maxima bids)) 0 ≡ greatest_of (maxima bids)
or_zero [] = refl
or_zero (a ∷ bids) = refl

-- there is a greatest where somebody bid
pub no_top : (bids : List Bid) → greatest_if_any (maxima bids) ≡ None → bids ≡ []
no_top [] e = refl
no_top (a ∷ bids) e = cc

-- the greatest that there is, is the top
pub top_is : (bids : List Bid) (t : ℕ) → greatest_if_any (maxima bids) ≡ Some t → top bids ≡ t
unfolding top
top_is bids t e = if_any_is bids t e

-- the top with one bid more
pub top-more : (bids : List Bid) (b : Bid) → top (bids ++ b ∷ []) ≡ max (top bids) b.maximum
unfolding top
top-more bids b = greatest_more bids b

-- whoever bids above the top leads
pub leader_above : (bids : List Bid) (b : Bid) → top bids < b.maximum → leader (bids ++ b ∷ []) ≡ Some b.member
unfolding leader top
leader_above bids b lt =
    rw greatest_more (let e : max (greatest_of (maxima bids)) b.maximum ≡ b.maximum = grind arith in rw e (first_above b.maximum bids b lt refl))

-- a bid of at most the top keeps the leader
pub leader_kept : (bids : List Bid) (b : Bid) (l : ℕ) → leader bids ≡ Some l → b.maximum ≤ top bids → leader (bids ++ b ∷ []) ≡ Some l
unfolding leader top
leader_kept bids b l led le =
    rw greatest_more (let e : max (greatest_of (maxima bids)) b.maximum ≡ greatest_of (maxima bids) = grind arith in rw e (first_stays (greatest_of (maxima bids)) bids b l led))

-- a leader's raise keeps the second
pub second_raised : (bids : List Bid) (b : Bid) → leader bids ≡ Some b.member → top bids < b.maximum → second (bids ++ b ∷ []) ≡ second bids
unfolding second
second_raised bids b led lt = rw (leader_above bids b lt, led) (ap (λ bs. greatest_if_any (maxima bs)) (not_by-more_same b.member bids b refl))

-- where another overtakes, the old top is the second
pub second_overtaken : (bids : List Bid) (b : Bid) (l : ℕ) → leader bids ≡ Some l → l ≢ b.member → top bids < b.maximum → second (bids ++ b ∷ []) ≡ Some (top bids)
unfolding second leader top
second_overtaken bids b l led ne lt =
    rw (leader_above bids b lt) (rw (not_by-more_same b.member bids b refl) (second_left bids l b.member (greatest_of (maxima bids)) ne led refl))

-- another's bid of at most the top may raise the second
pub second_kept : (bids : List Bid) (b : Bid) (l : ℕ) → leader bids ≡ Some l → b.member ≢ l → b.maximum ≤ top bids → second (bids ++ b ∷ []) ≡ Some (max (unwrap_or (second bids) 0) b.maximum)
unfolding second
second_kept bids b l led ne le = rw (leader_kept bids b l led le, led, not_by-more_other l bids b ne) (rw (or_zero (bids_not_by l bids)) (if_any-more (bids_not_by l bids) b))
