-- The items that were sold with a member: its own, what it bought, and what it leads by its bids.
use Rattle.std.proofs.Common.{◌≡◌, ℕ, List, [], ◌∷◌, Bool, true, false, refl, ap, inl, inr, ◌⊎◌, Option, Some, None}
use Rattle.std.specs.Prelude.{◌==◌, ◌||◌, is_some, unwrap_or}
use Rattle.std.specs.List.{AllByRecursion}
use Rattle.proxy.specs.Bids.{is_leader}
use Rattle.house_rows.specs.Tables.{ItemRow}
use Rattle.house_rows.specs.Verdict.{was_sold}
use Rattle.house_rows.proofs.Put.{by_test}
use Rattle.list_items.specs.Indexed.{IsNoted, number_of, seller_of}
use Rattle.list_items.specs.Rising.{HasAll, is_among}
use Rattle.list_items.specs.Sales.{is_sold_with}
use Rattle.list_items.proofs.Among.{or_left, or_right}
use Rattle.list_items.proofs.Joined.{both_ways, same_number}

or_cases : (a b : Bool) → (a || b) ≡ true → (a ≡ true) ⊎ (b ≡ true)
or_cases true b is = inl refl
or_cases false b is = inr is

leads_by : (leader : Option ℕ) (m : ℕ) → is_leader leader m ≡ true → leader ≡ Some m
leads_by None m leads = absurd (both_ways false leads refl)
leads_by (Some l) m leads = ap Some (same_number l m leads)

buyer_leads : (leader : Option ℕ) (m : ℕ) → is_some leader ≡ true → (unwrap_or leader 0 == m) ≡ true → is_leader leader m ≡ true
buyer_leads None m led is = absurd (both_ways false led refl)
buyer_leads (Some l) m led is = is

-- the member sold it, or leads it
party : (m : ℕ) (row : ItemRow) → is_sold_with m row ≡ true → (was_sold row.item.terms.state ≡ true) × ((seller_of row == m) || (unwrap_or row.item.terms.leader 0 == m)) ≡ true
party m row is =
    elim (by_test (was_sold row.item.terms.state)) [ inl sold ↦ (sold, rw sold at is) | inr unsold ↦ absurd (both_ways false (rw unsold at is) refl) ]

one_has : (m : ℕ) (row : ItemRow) (own bid_on ks : List ℕ) (bought_by : ℕ → List ℕ) → ((seller_of row == m) ≡ true → is_among own (number_of row) ≡ true) → IsNoted bought_by row
    → (row.standing.leader ≡ Some m → is_among bid_on (number_of row) ≡ true) → (was_sold row.item.terms.state ≡ true → is_some row.item.terms.leader ≡ true)
    → ((n : ℕ) → is_among ks n ≡ (is_among own n || (is_among (bought_by m) n || is_among bid_on n))) → is_sold_with m row ≡ true → is_among ks (number_of row) ≡ true
one_has m row own bid_on ks bought_by owns noted bids led same is =
    let n = number_of row in
    let parts = party m row is in
    rw (same n) (elim (or_cases (seller_of row == m) (unwrap_or row.item.terms.leader 0 == m) parts.1) [
      | inl sells ↦ or_left (is_among own n) (is_among (bought_by m) n || is_among bid_on n) (owns sells)
      | inr buys ↦ or_right (is_among own n) (is_among (bought_by m) n || is_among bid_on n)
          (elim (or_cases (is_leader row.standing.leader m) (is_among (bought_by m) n) (noted m (buyer_leads row.item.terms.leader m (led parts.0) buys))) [
            | inl leads ↦ or_right (is_among (bought_by m) n) (is_among bid_on n) (bids (leads_by row.standing.leader m leads))
            | inr bought ↦ or_left (is_among (bought_by m) n) (is_among bid_on n) bought
          ])
    ])

pub parties_have : (m : ℕ) (rows : List ItemRow) (own : List ℕ) (bought_by : ℕ → List ℕ) (bid_on ks : List ℕ) → HasAll number_of (λ row. seller_of row == m) own rows → AllByRecursion (IsNoted bought_by) rows
    → AllByRecursion (λ row. row.standing.leader ≡ Some m → is_among bid_on (number_of row) ≡ true) rows → AllByRecursion (λ row. was_sold row.item.terms.state ≡ true → is_some row.item.terms.leader ≡ true) rows
    → ((n : ℕ) → is_among ks n ≡ (is_among own n || (is_among (bought_by m) n || is_among bid_on n))) → HasAll number_of (is_sold_with m) ks rows
parties_have m [] own bought_by bid_on ks owns noted bids led same = tt
parties_have m (row ∷ rows) own bought_by bid_on ks owns noted bids led same =
    (one_has m row own bid_on ks bought_by owns.0 noted.0 bids.0 led.0 same, parties_have m rows own bought_by bid_on ks owns.1 noted.1 bids.1 led.1 same)
