-- What is found of an item in the tables is what everybody sees.
use Rattle.std.proofs.Common.{◌≡◌, ℕ, List, refl, ◌∙◌, ap, Option, Some, None}
use Rattle.std.specs.Prelude.{option_map}
use Rattle.house_rows.specs.declared.item.ItemShown.{ItemShown}
use Rattle.house_rows.specs.declared.item.Terms.{Terms}
use Rattle.house_rows.specs.declared.settings.Settings.{Settings}
use Rattle.house_rows.specs.Found.{row_at, terms_at}
use Rattle.house_rows.specs.History.{History}
use Rattle.house_rows.specs.Items.{floor_of, items_shown, shown_at}
use Rattle.house_rows.specs.Tables.{ItemRow, Tables, bands_for, tables_of}
use Rattle.house_rows.specs.Verdict.{Rule, by_terms, of_item}
use Rattle.house_rows.proofs.Shown.{shown_by_row, shown_row}
use Rattle.house.specs.ByTables.{row_shown}
use Rattle.house.specs.Decided.{of_terms}

-- rules that ask for an item's floor and its terms
abbrev pub by_floor : (Option ℕ → Terms → List Rule) → ItemShown → List Rule
by_floor rules it = rules it.floor it.item.terms

-- and with the floor that its terms give, by its band table
abbrev pub at_floor : Tables → (Option ℕ → Terms → List Rule) → Terms → List Rule
at_floor t rules terms = rules (floor_of (bands_for t terms.item) terms) terms

-- the rules of an item by the tables
pub floors_shown : (settings : Settings) (h : History) (i : ℕ) (rules : Option ℕ → Terms → List Rule)
    → of_item (shown_at (items_shown settings h) i) (by_floor rules) ≡ of_terms (terms_at (tables_of settings h) i) (at_floor (tables_of settings h) rules)
floors_shown settings h i rules =
    ap (λ (it : Option ItemShown). of_item it (by_floor rules)) (shown_by_row settings h i) ∙ by_row (row_at (tables_of settings h) i) where
      by_row : (o : Option ItemRow) → of_item (option_map (shown_row (tables_of settings h)) o) (by_floor rules) ≡ of_terms (option_map (λ (row : ItemRow). row.item.terms) o) (at_floor (tables_of settings h) rules)
      by_row None = refl
      by_row (Some row) = refl

pub terms_shown : (settings : Settings) (h : History) (i : ℕ) (rules : Terms → List Rule)
    → of_item (shown_at (items_shown settings h) i) (by_terms rules) ≡ of_terms (terms_at (tables_of settings h) i) rules
terms_shown settings h i rules = floors_shown settings h i (λ floor. rules)

-- and by tables of no history
pub rows_shown : (t : Tables) (i : ℕ) (rules : Option ℕ → Terms → List Rule)
    → of_item (option_map (row_shown t) (row_at t i)) (by_floor rules) ≡ of_terms (terms_at t i) (at_floor t rules)
rows_shown t i rules = by_row (row_at t i) where
  by_row : (o : Option ItemRow) → of_item (option_map (row_shown t) o) (by_floor rules) ≡ of_terms (option_map (λ (row : ItemRow). row.item.terms) o) (at_floor t rules)
  by_row None = refl
  by_row (Some row) = refl
