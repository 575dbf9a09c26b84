-- What rules report by the tables alone: those of an item that was found, of a purchase, of a watch and of an answer.
use Rattle.std.proofs.Common.{◌≡◌, ℕ, List, [], ◌∷◌, Bool, true, false, not, refl, sym, Option, Some, None}
use Rattle.proxy.specs.Rules.{first_failing}
use Rattle.house_rows.specs.declared.item.Terms.{Terms}
use Rattle.house_rows.specs.declared.refusal.Refusal.{Refusal}
use Rattle.house_rows.specs.declared.refusal.Refusal.TheVariants.{Limit, SellerOnly}
use Rattle.house_rows.specs.Found.{terms_at}
use Rattle.house_rows.specs.Tables.{Tables}
use Rattle.house_rows.specs.Verdict.{Rule, purchase_rules}
use Rattle.house.specs.Judged.{IsPriced, IsThere, first_rules, item_rules}
use Rattle.house.proofs.Rows.{own_reported}

-- of an item that was found, its own rules decide
pub of_found : (t : Tables) (moment caller item : ℕ) (terms : Terms) (rules : Terms → List Rule) (o : Option Refusal)
    → terms_at t item ≡ Some terms → None ≡ first_failing (first_rules t moment caller false) → o ≡ first_failing (rules terms)
    → o ≡ first_failing (item_rules t moment caller false item rules)
of_found t moment caller item terms rules o found passed is =
    sym (own_reported t moment caller false item terms rules o (record { passed = sym passed; found = found }) is)

-- of a purchase
pub not_bought : (t : Tables) (moment caller item : ℕ) (terms : Terms) (refusal : Refusal) → IsThere t moment caller false item terms
    → first_failing (purchase_rules moment caller terms) ≡ Some refusal
    → Some refusal ≡ first_failing (item_rules t moment caller false item (purchase_rules moment caller))
not_bought t moment caller item terms refusal there report =
    sym (own_reported t moment caller false item terms (purchase_rules moment caller) (Some refusal) there (sym report))

pub bought : (t : Tables) (moment caller item price : ℕ) (terms : Terms) → IsThere t moment caller false item terms
    → IsPriced moment caller terms price → None ≡ first_failing (item_rules t moment caller false item (purchase_rules moment caller))
bought t moment caller item price terms there priced =
    sym (own_reported t moment caller false item terms (purchase_rules moment caller) None there (sym priced.passed))

-- whether a watch has room
pub no_room : (may : Bool) → may ≡ false → Some Limit ≡ first_failing ((not may, Limit) ∷ [])
no_room may full = rw full refl

pub has_room : (may : Bool) → may ≡ true → None ≡ first_failing ((not may, Limit) ∷ [])
has_room may room = rw room refl

-- whether the seller answers
pub by_another : (sells : Bool) (rest : List Rule) → sells ≡ false → Some SellerOnly ≡ first_failing ((not sells, SellerOnly) ∷ rest)
by_another sells rest other = rw other refl

pub by_seller : (sells : Bool) (rest : List Rule) (o : Option Refusal) → sells ≡ true → o ≡ first_failing rest
    → o ≡ first_failing ((not sells, SellerOnly) ∷ rest)
by_seller sells rest o own is = rw own is
