-- Who leads ranks first, and nobody else does.
use Rattle.std.proofs.Common.{◌≡◌, ◌≢◌, ℕ, ◌+◌, ◌<◌, List, [], ◌∷◌, Some, ◌∙◌, ◌↔◌, ap, sym, arith, inl, inr}
use Rattle.std.proofs.lemmas.Bool.Decides.{nat_tests}
use Rattle.std.proofs.lemmas.Bool.{cases_lt, cases_eq}
use Rattle.proxy.specs.declared.bid.Bid.{Bid}
use Rattle.proxy.specs.Bids.{greatest, top, first_at, leader}
use Rattle.proxy.specs.Rank.{place_of, RanksFirst}
use Rattle.proxy.proofs.Leads.{leader_greatest, greatest_below, somebody_leads}

first_place : (amount : ℕ) (bids : List Bid) (l k : ℕ) → first_at amount bids ≡ Some l → k ≢ l → place_of l amount bids < place_of k amount bids
first_place amount [] l k first ne = cc
first_place amount (b ∷ bids) l k first ne = grind (arith, nat_tests, first_place amount bids l k)

leads_first : (bids : List Bid) (l : ℕ) → leader bids ≡ Some l → first_at (top bids) bids ≡ Some l
unfolding leader
leads_first bids l led = led

-- who leads ranks first
ranks_first : (bids : List Bid) (l : ℕ) → leader bids ≡ Some l → RanksFirst bids l
ranks_first bids l led = λ k ne.
    let mine = leader_greatest bids l led in
    let theirs = greatest_below bids k in
    elim (cases_lt (greatest bids k) (greatest bids l)) [
      | inl lt ↦ inl lt
      | inr le ↦ (let same : greatest bids k ≡ greatest bids l = omega arith in
          let highest : greatest bids k ≡ top bids = same ∙ mine in
          inr (same, rw (mine, highest) (first_place (top bids) bids l k (leads_first bids l led) ne)))
    ]

-- two members don't both rank first
one_first : (bids : List Bid) (l m : ℕ) → l ≢ m → RanksFirst bids l → RanksFirst bids m → ⊥
one_first bids l m ne first second =
    let le = first m (λ e. ne (sym e)) in
    let ge = second l ne in
    omega arith

-- nobody ranks first where nobody bid
none_first : (l : ℕ) → RanksFirst [] l → ⊥
unfolding greatest
none_first l first =
    let below = first (l + 1) (omega arith) in
    omega arith

-- who ranks first leads
first_leads : (bids : List Bid) (l : ℕ) → RanksFirst bids l → leader bids ≡ Some l
first_leads [] l first = absurd (none_first l first)
first_leads (b ∷ bids) l first =
    let some = somebody_leads b bids in
    elim (cases_eq l some.0) [
      | inl e ↦ some.1 ∙ ap Some (sym e)
      | inr ne ↦ absurd (one_first (b ∷ bids) l some.0 ne first (ranks_first (b ∷ bids) some.0 some.1))
    ]

-- the leader is the one who ranks first
pub leads_ranks : (bids : List Bid) (l : ℕ) → (leader bids ≡ Some l) ↔ RanksFirst bids l
leads_ranks bids l = (ranks_first bids l, first_leads bids l)
