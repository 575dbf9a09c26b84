-- What everybody sees of an item after a change, and the result in the change's own words.
use Rattle.std.proofs.Common.{◌≡◌, ◌∷◌, ℕ, List, [], map, ◌∙◌, ap, sym, subst, inl, inr, Some, Ok, Err}
use Rattle.std.specs.Prelude.{Result, IfOk, find, option_map}
use Rattle.house.specs.Decided.{IsAccepted}
use Rattle.house_rows.specs.declared.change.Change.{Change}
use Rattle.house_rows.specs.declared.command.Command.{Command}
use Rattle.house_rows.specs.declared.settings.Settings.{Settings}
use Rattle.house_rows.specs.declared.command_result.CommandResult.{CommandResult}
use Rattle.house_rows.specs.Changed.{changed, is_item}
use Rattle.house_rows.specs.Found.{row_at}
use Rattle.house_rows.specs.History.{History}
use Rattle.house_rows.specs.Items.{items_shown, shown_at}
use Rattle.house_rows.specs.Runs.{entry}
use Rattle.house_rows.specs.Tables.{ItemRow, Tables, tables_of}
use Rattle.house_rows.specs.CommandResult.{result_of}
use Rattle.house_rows.proofs.Put.{by_test}
use Rattle.house_rows.proofs.Shown.{shown_by_row, shown_row}

-- the result is what the definition gives
abbrev pub IsReported : Settings → History → ℕ → ℕ → Command → CommandResult → Type 0
IsReported settings h moment caller command r = r ≡ result_of settings (entry moment caller command ∷ h) moment caller command h

-- so of the same command in other words
pub report_as : (settings : Settings) (h : History) (moment caller : ℕ) (own command : Command) (r : CommandResult) → own ≡ command
    → IsReported settings h moment caller own r → IsReported settings h moment caller command r
report_as settings h moment caller own command r same is = subst (λ (k : Command). IsReported settings h moment caller k r) same is

pub accepted_as : (settings : Settings) (h : History) (moment caller : ℕ) (own command : Command) (made : Change) → own ≡ command
    → IsAccepted settings h moment caller command made → IsAccepted settings h moment caller own made
accepted_as settings h moment caller own command made same is = subst (λ (k : Command). IsAccepted settings h moment caller k made) (sym same) is

pub ok_as : {A E : Type 0} (P Q : A → Type 0) (result : Result A E) → ((a : A) → P a → Q a) → IfOk result P → IfOk result Q
ok_as P Q (Ok a) as' is = as' a is
ok_as P Q (Err e) as' is = tt

-- the row of an item after rows have changed and kept their numbers
pub row_changed : (i : ℕ) (f : ItemRow → ItemRow) (row : ItemRow) (rows : List ItemRow) → ((r : ItemRow) → is_item i (f r) ≡ is_item i r)
    → find (is_item i) rows ≡ Some row → find (is_item i) (map f rows) ≡ Some (f row)
row_changed i f row [] same found = cc
row_changed i f row (r ∷ rows) same found =
    elim (by_test (is_item i r)) [
      | inl here ↦ (let first : Some r ≡ Some row = rw here at found in let e : r ≡ row = cc in rw (same r, here) (ap (λ x. Some (f x)) e))
      | inr other ↦ rw (same r, other) (row_changed i f row rows same (rw other at found))
    ]

-- an item as everybody sees it once the command is entered
pub seen_after : (settings : Settings) (h : History) (moment caller i : ℕ) (command : Command) (made : Change) (row : ItemRow) → IsAccepted settings h moment caller command made
    → row_at (changed (tables_of settings h) made) i ≡ Some row → shown_at (items_shown settings (entry moment caller command ∷ h)) i ≡ Some (shown_row (changed (tables_of settings h) made) row)
seen_after settings h moment caller i command made row is found =
    shown_by_row settings (entry moment caller command ∷ h) i
    ∙ ap (λ (t : Tables). option_map (shown_row t) (row_at t i)) (sym is.leads)
    ∙ ap (option_map (shown_row (changed (tables_of settings h) made))) found
