-- What look-ups say of an offer.
use Rattle.std.proofs.Common.{◌≡◌, ℕ, List, [], ◌∷◌, ◌++◌, Bool, true, false, not, refl, ◌∙◌, sym, Option, Some, None, Result, Ok, Err, IfOk}
use Rattle.std.specs.Prelude.{◌==◌, ◌&&◌, find, is_some, option_map}
use Rattle.std.specs.List.{list_any}
use Rattle.proxy.specs.Rules.{first_failing}
use Rattle.house_rows.specs.declared.fault.KeepFault.{KeepFault}
use Rattle.house_rows.specs.declared.people.Category.{Category}
use Rattle.house_rows.specs.declared.refusal.Refusal.{Refusal}
use Rattle.house_rows.specs.declared.refusal.Refusal.TheVariants.{LotExists, Range}
use Rattle.house_rows.specs.Found.{category_at, item_with_lot}
use Rattle.house_rows.specs.Tables.{ItemRow, Tables}
use Rattle.house_rows.specs.Text.{same_text}
use Rattle.house_rows.specs.Verdict.{Rule}
use Rattle.house.specs.declared.listing.Prices.{Prices}
use Rattle.house.specs.Offered.{report}
use Rattle.house.proofs.Found.{first_none, some_found}

some_mapped : {A B : Type 0} (f : A → B) (o : Option A) → is_some (option_map f o) ≡ is_some o
some_mapped f None = refl
some_mapped f (Some x) = refl

pub lot_found : (t : Tables) (seller : ℕ) (lot : List ℕ)
    → is_some (item_with_lot t seller lot) ≡ list_any (λ row. (row.item.terms.seller == seller) && same_text row.item.lot lot) t.items
lot_found t seller lot =
    some_mapped (λ (row : ItemRow). row.item.terms.item) (find (λ row. (row.item.terms.seller == seller) && same_text row.item.lot lot) t.items)
    ∙ some_found (λ (row : ItemRow). (row.item.terms.seller == seller) && same_text row.item.lot lot) t.items

pub known_category : (t : Tables) (n : ℕ) → is_some (category_at t n) ≡ list_any (λ k. k.category == n) t.categories
known_category t n = some_found (λ (k : Category). k.category == n) t.categories

-- where the first rules pass, the report is that of the rules after them
pub report_after : (first rest : List Rule) (r : Result (Result (ℕ × Prices) Refusal) KeepFault) → first_failing first ≡ None
    → IfOk r (λ v. report v ≡ first_failing rest) → IfOk r (λ v. report v ≡ first_failing (first ++ rest))
report_after first rest (Ok v) none is = is ∙ sym (first_none first rest none)
report_after first rest (Err fault) none is = tt

pub report_after_lot : (lot has : Bool) (rest : List Rule) (r : Result (Result (ℕ × Prices) Refusal) KeepFault) → lot ≡ true → has ≡ false
    → IfOk r (λ v. report v ≡ first_failing rest) → IfOk r (λ v. report v ≡ first_failing ((not lot, Range) ∷ (has, LotExists) ∷ rest))
report_after_lot lot has rest r is none rest_is = report_after ((not lot, Range) ∷ (has, LotExists) ∷ []) rest r (rw (is, none) refl) rest_is
