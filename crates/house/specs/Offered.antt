-- What is reported of an offer, by the tables.
use Rattle.std.specs.Prelude.{◌≡◌, ℕ, List, [], ◌∷◌, ◌==◌, ◌&&◌, not, nat_le, length, Option, Some, None, Result, Ok, Err}
use Rattle.std.specs.List.{list_any}
use Rattle.house_rows.specs.declared.refusal.Refusal.{Refusal}
use Rattle.house_rows.specs.declared.refusal.Refusal.TheVariants.{Limit, Range, Unknown}
use Rattle.house_rows.specs.Limits.{most_items}
use Rattle.house_rows.specs.Tables.{Tables}
use Rattle.house_rows.specs.Text.{same_text}
use Rattle.house_rows.specs.Verdict.{Rule, are_terms, listing_rules}
use Rattle.house.specs.declared.listing.Offer.{Offer}
use Rattle.house.specs.declared.listing.Prices.{Prices}

-- the rules of an offer
abbrev pub offer_rules : Tables → ℕ → ℕ → Offer → List Rule
offer_rules t moment caller offer = listing_rules offer.lot.now
    (list_any (λ row. (row.item.terms.seller == caller) && same_text row.item.lot offer.lot.now) t.items)
    (are_terms moment offer.title.now offer.text.now offer.start offer.buy_now offer.end offer.reserve)
    (list_any (λ k. k.category == offer.category) t.categories)
    (length t.items)

-- but those of its lot
abbrev pub terms_rules : Tables → ℕ → Offer → List Rule
terms_rules t moment offer =
    (not (are_terms moment offer.title.now offer.text.now offer.start offer.buy_now offer.end offer.reserve), Range)
    ∷ (not (list_any (λ k. k.category == offer.category) t.categories), Unknown)
    ∷ (nat_le most_items (length t.items), Limit) ∷ []

-- the category and the prices of an offer
pub record AreOf (offer : Offer) (taken : ℕ × Prices) : Type 0 where
  pub category : taken.0 ≡ offer.category
  pub start : taken.1.start ≡ offer.start
  pub buy_now : taken.1.buy_now ≡ offer.buy_now
  pub reserve : taken.1.reserve ≡ offer.reserve

-- what is reported, if anything is
abbrev pub report : {A : Type 0} → Result A Refusal → Option Refusal
report (Ok value) = None
report (Err refusal) = Some refusal
