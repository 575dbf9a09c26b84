-- What is reported of an item that a command names, before the item's own rules and by them.
use Rattle.std.specs.Prelude.{◌≡◌, ℕ, List, [], ◌∷◌, ◌++◌, Bool, length, nat_le, not, Some, None, Result, Ok, Err}
use Rattle.proxy.specs.Rules.{first_failing}
use Rattle.house_rows.specs.declared.item.Terms.{Terms}
use Rattle.house_rows.specs.declared.refusal.Refusal.{Refusal}
use Rattle.house_rows.specs.declared.refusal.Refusal.TheVariants.{Limit, NameTaken, Range}
use Rattle.house_rows.specs.Found.{terms_at}
use Rattle.house_rows.specs.Tables.{Tables}
use Rattle.house_rows.specs.Text.{is_text}
use Rattle.house_rows.specs.Verdict.{Rule, common_rules, purchase_rules}
use Rattle.house.specs.Decided.{of_terms}

-- the rules that every command begins with, by the tables
abbrev pub first_rules : Tables → ℕ → ℕ → Bool → List Rule
first_rules t moment caller of_house = common_rules t.clock (length t.members) moment caller of_house

-- the rules of a new name, by whether it is taken, and by how many there are and may be
abbrev pub name_rules : List ℕ → Bool → ℕ → ℕ → List Rule
name_rules name is_taken count most =
    (not (is_text 1 40 name), Range) ∷ (is_taken, NameTaken) ∷ (nat_le most count, Limit) ∷ []

-- the rules of a command on an item
abbrev pub item_rules : Tables → ℕ → ℕ → Bool → ℕ → (Terms → List Rule) → List Rule
item_rules t moment caller of_house item rules = first_rules t moment caller of_house ++ of_terms (terms_at t item) rules

-- no rule fails before the item's own, and these are its terms
pub record IsThere (t : Tables) (moment caller : ℕ) (of_house : Bool) (item : ℕ) (terms : Terms) : Type 0 where
  pub passed : first_failing (first_rules t moment caller of_house) ≡ None
  pub found : terms_at t item ≡ Some terms

-- the terms of the item, or the refusal whatever its own rules are
abbrev pub IsNamed : Tables → ℕ → ℕ → Bool → ℕ → Result Terms Refusal → Type 0
IsNamed t moment caller of_house item (Ok terms) = IsThere t moment caller of_house item terms
IsNamed t moment caller of_house item (Err refusal) =
    (rules : Terms → List Rule) → first_failing (item_rules t moment caller of_house item rules) ≡ Some refusal

-- the price of a purchase that no rule refuses
pub record IsPriced (moment caller : ℕ) (terms : Terms) (price : ℕ) : Type 0 where
  pub passed : first_failing (purchase_rules moment caller terms) ≡ None
  pub priced : terms.buy_now ≡ Some price

-- or the refusal
abbrev pub IsPurchase : ℕ → ℕ → Terms → Result ℕ Refusal → Type 0
IsPurchase moment caller terms (Ok price) = IsPriced moment caller terms price
IsPurchase moment caller terms (Err refusal) = first_failing (purchase_rules moment caller terms) ≡ Some refusal
