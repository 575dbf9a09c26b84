-- The two scans of a list of bids.
use Rattle.std.proofs.Common.{◌≡◌, ℕ, ◌+◌, ◌<◌, ◌≤◌, List, [], ◌∷◌, ◌++◌, length, take, get_or, max, Option, Some, None, refl, ◌∙◌, ap, sym, arith}
use Rattle.std.specs.Prelude.{if◌then◌else◌, ◌==◌, unwrap_or}
use Rattle.std.specs.Option.{option_map}
use Rattle.std.proofs.lemmas.Bool.Decides.{nat_tests}
use Rattle.std.proofs.lemmas.List.{take_more}
use Rattle.proxy.specs.declared.bid.Bid.{Bid}
use Rattle.proxy.specs.Bids.{greatest_of, greatest_if_any, maxima, bids_not_by, leader, top}
use Rattle.proxy.proofs.Leads.{leader_above, leader_kept, no_top, top_is, if_any-more, if_any_is, not_by-more_other, not_by-more_same, or_zero}

-- the first bid of the greatest maximum, as far as the others see it
pub record IsLeading (found : Option Bid) (bids : List Bid) : Type 0 where
  pub leader : option_map (λ b. b.member) found ≡ leader bids
  pub top : option_map (λ b. b.maximum) found ≡ greatest_if_any (maxima bids)

-- nobody leads before the first bid
pub leading_none : IsLeading None []
unfolding leader top
leading_none = record { leader = refl; top = refl }

leads_first : (bids : List Bid) (b : Bid) → bids ≡ [] → IsLeading (Some b) (bids ++ b ∷ [])
unfolding leader top
leads_first bids b none = rw none (record { leader = grind (arith, nat_tests); top = grind arith })

leads_above : (bids : List Bid) (b best : Bid) → IsLeading (Some best) bids → best.maximum < b.maximum → IsLeading (Some b) (bids ++ b ∷ [])
leads_above bids b best is lt =
    let high : top bids ≡ best.maximum = top_is bids best.maximum (sym is.top) in
    let same : greatest_of (maxima bids) ≡ best.maximum = if_any_is bids best.maximum (sym is.top) in
    record { leader = sym (leader_above bids b (omega arith)); top = grind (arith, if_any-more bids b) }

leads_still : (bids : List Bid) (b best : Bid) → IsLeading (Some best) bids → b.maximum ≤ best.maximum → IsLeading (Some best) (bids ++ b ∷ [])
leads_still bids b best is le =
    let high : top bids ≡ best.maximum = top_is bids best.maximum (sym is.top) in
    let same : greatest_of (maxima bids) ≡ best.maximum = if_any_is bids best.maximum (sym is.top) in
    record { leader = sym (leader_kept bids b best.member (sym is.leader) (omega arith)); top = grind (arith, if_any-more bids b) }

-- the first bid leads
pub first_leads : (bids : List Bid) (i : ℕ) (b : Bid) → i < length bids → b ≡ get_or bids i b → IsLeading None (take i bids) → IsLeading (Some b) (take (i + 1) bids)
first_leads bids i b lt is none =
    rw (take_more bids i b lt, ← is) (leads_first (take i bids) b (no_top (take i bids) (sym none.top)))

-- a bid above the best leads
pub better_leads : (bids : List Bid) (i : ℕ) (b best : Bid) → i < length bids → b ≡ get_or bids i b → IsLeading (Some best) (take i bids) → best.maximum < b.maximum → IsLeading (Some b) (take (i + 1) bids)
better_leads bids i b best lt is led above = rw (take_more bids i b lt, ← is) (leads_above (take i bids) b best led above)

-- after any other bid the best leads still
pub best_leads : (bids : List Bid) (i : ℕ) (b best : Bid) → i < length bids → b ≡ get_or bids i b → IsLeading (Some best) (take i bids) → b.maximum ≤ best.maximum → IsLeading (Some best) (take (i + 1) bids)
best_leads bids i b best lt is led le = rw (take_more bids i b lt, ← is) (leads_still (take i bids) b best led le)

-- the greatest of all but one bidder, with one bid more
others_push : (l : ℕ) (bids : List Bid) (b : Bid) → greatest_if_any (maxima (bids_not_by l (bids ++ b ∷ []))) ≡ (if b.member == l then greatest_if_any (maxima (bids_not_by l bids)) else Some (max (unwrap_or (greatest_if_any (maxima (bids_not_by l bids))) 0) b.maximum))
others_push l bids b = grind (arith, nat_tests, not_by-more_other l bids b, not_by-more_same l bids b, or_zero (bids_not_by l bids), if_any-more (bids_not_by l bids) b)

-- the greatest of all but one bidder, with one bid more read
pub others_more : (l : ℕ) (bids : List Bid) (i : ℕ) (none : Bid) → i < length bids → greatest_if_any (maxima (bids_not_by l (take (i + 1) bids))) ≡ (if (get_or bids i none).member == l then greatest_if_any (maxima (bids_not_by l (take i bids))) else Some (max (unwrap_or (greatest_if_any (maxima (bids_not_by l (take i bids)))) 0) (get_or bids i none).maximum))
others_more l bids i none lt = ap (λ bs. greatest_if_any (maxima (bids_not_by l bs))) (take_more bids i none lt) ∙ others_push l (take i bids) (get_or bids i none)
