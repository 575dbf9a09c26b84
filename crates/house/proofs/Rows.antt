-- The rows of items, one by one.
use Rattle.std.proofs.Common.{◌≡◌, ◌≢◌, ℕ, List, [], ◌∷◌, ◌++◌, map, Bool, true, false, not, refl, ◌∙◌, ap, sym, arith, Option, Some, None}
use Rattle.std.specs.Prelude.{◌==◌, option_map}
use Rattle.std.specs.List.{AllByRecursion}
use Rattle.std.proofs.lemmas.Bool.Decides.{nat_tests}
use Rattle.proxy.specs.Rules.{first_failing}
use Rattle.house_rows.specs.declared.item.Terms.{Terms}
use Rattle.house_rows.specs.declared.refusal.Refusal.{Refusal}
use Rattle.house_rows.specs.declared.settings.Settings.{Settings}
use Rattle.house_rows.specs.Found.{terms_at}
use Rattle.house_rows.specs.History.{History}
use Rattle.house_rows.specs.Items.{terms_now}
use Rattle.house_rows.specs.Listings.{Listing, listing_at, listings}
use Rattle.house_rows.specs.Tables.{Tables, tables_of}
use Rattle.house_rows.specs.Verdict.{Rule}
use Rattle.house_rows.proofs.Every.{found_is}
use Rattle.house.specs.Decided.{of_terms}
use Rattle.house.specs.Judged.{IsThere, first_rules, item_rules}
use Rattle.house.proofs.Found.{first_none}
use Rattle.house.proofs.ListedTerms.{terms_listed}

cons_both : {A : Type 0} (x y : A) (xs ys : List A) → x ≡ y → xs ≡ ys → x ∷ xs ≡ y ∷ ys
cons_both x y xs ys first rest = cc

-- rows that are made and then changed, at elements with a property
pub each_row : {A B C : Type 0} (P : A → Type 0) (make : A → B) (change : B → C) (next : A → C) (xs : List A)
    → ((x : A) → P x → change (make x) ≡ next x) → AllByRecursion P xs → map change (map make xs) ≡ map next xs
each_row P make change next [] same all = refl
each_row P make change next (x ∷ xs) same all = cons_both _ _ _ _ (same x all.0) (each_row P make change next xs same all.1)

-- and one more
pub each_and_new : {A B : Type 0} (make next : A → B) (xs : List A) (x : A) (row : B)
    → ((x : A) → make x ≡ next x) → row ≡ next x → map make xs ++ row ∷ [] ≡ map next (xs ++ x ∷ [])
each_and_new make next [] x row same new = cons_both _ _ _ _ new refl
each_and_new make next (y ∷ xs) x row same new = cons_both _ _ _ _ (same y) (each_and_new make next xs x row same new)

pub all_of : {A : Type 0} (P : A → Type 0) (xs : List A) → ((x : A) → P x) → AllByRecursion P xs
all_of P [] each = tt
all_of P (x ∷ xs) each = (each x, all_of P xs each)

-- the listing of an item whose terms are found in the tables
pub record Known (settings : Settings) (h : History) (i : ℕ) (terms : Terms) : Type 0 where
  pub listing : Listing
  pub listed : listing_at (listings h) i ≡ Some listing
  pub same : terms ≡ terms_now settings h listing

terms_same : (a b : Terms) → Some a ≡ Some b → b ≡ a
terms_same a b e = cc

nothing_found : (terms : Terms) → None ≡ Some terms → ⊥
nothing_found terms e = cc

pub known : (settings : Settings) (h : History) (i : ℕ) (terms : Terms) → terms_at (tables_of settings h) i ≡ Some terms → Known settings h i terms
known settings h i terms found =
    by_listing (listing_at (listings h) i) refl (sym (terms_listed settings h i) ∙ found) where
      by_listing : (o : Option Listing) → listing_at (listings h) i ≡ o → option_map (terms_now settings h) o ≡ Some terms → Known settings h i terms
      by_listing None is all = absurd (nothing_found terms all)
      by_listing (Some l) is all = record { listing = l; listed = is; same = terms_same (terms_now settings h l) terms all }

pub same_number : (a b : ℕ) → (a == b) ≡ true → a ≡ b
same_number a b is = grind (arith, nat_tests, is)

-- and its number is the one that was asked for
pub number_is : (settings : Settings) (h : History) (item : ℕ) (terms : Terms) → Known settings h item terms → terms.item ≡ item
number_is settings h item terms it =
    let test = found_is (λ (l : Listing). l.item == item) (listings h) it.listing it.listed in
    ap (λ (t : Terms). t.item) it.same ∙ same_number it.listing.item item test

-- what an item's own rules report is reported
pub own_reported : (t : Tables) (moment caller : ℕ) (of_house : Bool) (item : ℕ) (terms : Terms) (rules : Terms → List Rule) (o : Option Refusal)
    → IsThere t moment caller of_house item terms → o ≡ first_failing (rules terms) → first_failing (item_rules t moment caller of_house item rules) ≡ o
own_reported t moment caller of_house item terms rules o there report =
    first_none (first_rules t moment caller of_house) (of_terms (terms_at t item) rules) there.passed
    ∙ ap (λ (found : Option Terms). first_failing (of_terms found rules)) there.found
    ∙ sym report

pub other_way : (a b : ℕ) (is : Bool) → (a == b) ≡ is → (b == a) ≡ is
other_way a b true is = grind (arith, nat_tests, is)
other_way a b false is = grind (arith, nat_tests, is)

pub apart_from : (a b : ℕ) → (a == b) ≡ false → b ≢ a
apart_from a b not e = let f : (a == b) ≡ true = grind (arith, nat_tests) in let g : true ≡ false = sym f ∙ not in cc
