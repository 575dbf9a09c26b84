-- A member's command on an item: the verdict by the tables, and what is known of the item.
use Rattle.std.proofs.Common.{◌≡◌, ℕ, List, ◌∷◌, ◌++◌, length, false, refl, sym, arith, Option, Some, None}
use Rattle.std.specs.Prelude.{option_map}
use Rattle.std.proofs.lemmas.Bool.Decides.{nat_tests}
use Rattle.proxy.specs.Rules.{first_failing}
use Rattle.house_rows.specs.declared.item.Terms.{Terms}
use Rattle.house_rows.specs.declared.refusal.Refusal.{Refusal}
use Rattle.house_rows.specs.declared.refusal.Refusal.TheVariants.{Unknown}
use Rattle.house_rows.specs.declared.settings.Settings.{Settings}
use Rattle.house_rows.specs.Changed.{is_item}
use Rattle.house_rows.specs.Found.{row_at, terms_at}
use Rattle.house_rows.specs.History.{History, clock}
use Rattle.house_rows.specs.Items.{items_shown, shown_at}
use Rattle.house_rows.specs.People.{members}
use Rattle.house_rows.specs.Tables.{ItemRow, Tables, tables_of}
use Rattle.house_rows.specs.Verdict.{Rule, common_rules, of_item}
use Rattle.house_rows.proofs.Every.{found_is}
use Rattle.house.proofs.Found.{first_none}
use Rattle.house.proofs.Items.{at_floor, by_floor, floors_shown}
use Rattle.house.specs.Decided.{of_terms}

-- what is refused before the item's rules are asked
pub item_refused : (t : Tables) (settings : Settings) (h : History) (moment caller item : ℕ) (refusal : Refusal) (more : Option ℕ → Terms → List Rule) → t ≡ tables_of settings h
    → ((rules : Terms → List Rule) → Some refusal ≡ first_failing (common_rules t.clock (length t.members) moment caller false ++ of_terms (terms_at t item) rules))
    → first_failing (common_rules (clock h) (length (members h)) moment caller false ++ of_item (shown_at (items_shown settings h) item) (by_floor more)) ≡ Some refusal
unfolding tables_of
item_refused t settings h moment caller item refusal more e report = rw (floors_shown settings h item more) (sym (rw e at report (at_floor (tables_of settings h) more)))

-- where the item is there, its rules decide
pub item_judged : (t : Tables) (settings : Settings) (h : History) (moment caller item : ℕ) (terms : Terms) (more : Option ℕ → Terms → List Rule) → t ≡ tables_of settings h
    → terms_at t item ≡ Some terms → None ≡ first_failing (common_rules t.clock (length t.members) moment caller false)
    → first_failing (common_rules (clock h) (length (members h)) moment caller false ++ of_item (shown_at (items_shown settings h) item) (by_floor more)) ≡ first_failing (at_floor (tables_of settings h) more terms)
unfolding tables_of
item_judged t settings h moment caller item terms more e found passed =
    let there : terms_at (tables_of settings h) item ≡ Some terms = rw e at found in
    let common : first_failing (common_rules (clock h) (length (members h)) moment caller false) ≡ None = sym (rw e at passed) in
    rw (floors_shown settings h item more, there) (first_none (common_rules (clock h) (length (members h)) moment caller false) ((false, Unknown) ∷ at_floor (tables_of settings h) more terms) common)

-- the row of the terms that were found
pub record RowThere (t : Tables) (item : ℕ) (terms : Terms) : Type 0 where
  pub row : ItemRow
  pub there : row_at t item ≡ Some row
  pub same : row.item.terms ≡ terms
  pub numbered : terms.item ≡ item

pub row_there : (t : Tables) (item : ℕ) (terms : Terms) → terms_at t item ≡ Some terms → RowThere t item terms
row_there t item terms found = by_row (row_at t item) refl found where
  by_row : (o : Option ItemRow) → row_at t item ≡ o → option_map (λ (row : ItemRow). row.item.terms) o ≡ Some terms → RowThere t item terms
  by_row None is none = cc
  by_row (Some row) is some =
      let same : row.item.terms ≡ terms = cc in
      let here = found_is (is_item item) t.items row is in
      record { row = row; there = is; same = same; numbered = rw (← same) (grind (arith, nat_tests, here)) }
