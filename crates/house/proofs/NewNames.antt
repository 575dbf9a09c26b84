-- Registrations and new categories: the verdict by the tables, and the tables after them.
use Rattle.std.proofs.Common.{Bor, ◌≡◌, ℕ, List, [], ◌∷◌, ◌++◌, map, length, true, refl, ◌∙◌, sym, arith, Some, None}
use Rattle.std.proofs.lemmas.Bool.Decides.{nat_tests}
use Rattle.std.proofs.lemmas.List.{append-nil}
use Rattle.proxy.specs.Rules.{first_failing}
use Rattle.house_rows.specs.declared.change.Change.TheVariants as change
use Rattle.house_rows.specs.declared.command.Command.TheVariants.{Register, AddCategory}
use Rattle.house_rows.specs.declared.refusal.Refusal.{Refusal}
use Rattle.house_rows.specs.declared.settings.Settings.{Settings}
use Rattle.house_rows.specs.Asks.{NameFits}
use Rattle.house_rows.specs.Changed.{changed}
use Rattle.house_rows.specs.Found.{category_named, member_named}
use Rattle.house_rows.specs.History.{History}
use Rattle.house_rows.specs.Limits.{most_categories, most_members}
use Rattle.house_rows.specs.Listings.{Listing, listings}
use Rattle.house_rows.specs.Questions.{questions}
use Rattle.house_rows.specs.Runs.{entry}
use Rattle.house_rows.specs.Tables.{Tables, row_now, tables_of}
use Rattle.house_rows.specs.Text.{same_text}
use Rattle.house_rows.specs.Verdict.{common_rules, category_rules, register_rules, verdict}
use Rattle.house.specs.Decided.{IsAccepted}
use Rattle.house.proofs.ByTables.{none_found}

pub register_verdict : (t : Tables) (settings : Settings) (h : History) (moment caller : ℕ) (name : List ℕ) → t ≡ tables_of settings h
    → verdict settings h moment caller (Register name) ≡ first_failing (common_rules t.clock (length t.members) moment caller true ++ register_rules name t.members)
unfolding tables_of verdict
register_verdict t settings h moment caller name e = rw e refl

-- items are as they were
rows_still : (settings : Settings) (h : History) (moment caller : ℕ) (name : List ℕ) (ls : List Listing)
    → map (row_now settings (entry moment caller (Register name) ∷ h)) ls ≡ map (row_now settings h) ls
rows_still settings h moment caller name [] = refl
rows_still settings h moment caller name (l ∷ ls) = rw (rows_still settings h moment caller name ls) (simp append-nil)

pub register_leads : (settings : Settings) (h : History) (moment caller : ℕ) (name : Bor (List ℕ)) → changed (tables_of settings h) (change.Register moment name) ≡ tables_of settings (entry moment caller (Register name.now) ∷ h)
unfolding changed tables_of questions
register_leads settings h moment caller name =
    rw (rows_still settings h moment caller name.now (listings h ++ [])) (simp append-nil)

pub register_refusal : (t : Tables) (settings : Settings) (h : History) (moment caller : ℕ) (name : List ℕ) (refusal : Refusal) → t ≡ tables_of settings h
    → Some refusal ≡ first_failing (common_rules t.clock (length t.members) moment caller true ++ register_rules name t.members) → verdict settings h moment caller (Register name) ≡ Some refusal
register_refusal t settings h moment caller name refusal e report = register_verdict t settings h moment caller name e ∙ sym report

pub register_fits : (t : Tables) (moment caller : ℕ) (name : List ℕ) (text : Bor (List ℕ)) → text.now ≡ name
    → None ≡ first_failing (common_rules t.clock (length t.members) moment caller true ++ register_rules name t.members)
    → NameFits moment text.now (length t.members) most_members
register_fits t moment caller name text same none =
    rw same (record { moment_fits = grind (arith, nat_tests, none); name_fits = grind (arith, nat_tests, none); room = grind (arith, nat_tests, none) })

register_free : (t : Tables) (moment caller : ℕ) (name : List ℕ) (text : Bor (List ℕ)) → text.now ≡ name
    → None ≡ first_failing (common_rules t.clock (length t.members) moment caller true ++ register_rules name t.members)
    → member_named t text.now ≡ None
register_free t moment caller name text same none = rw same (none_found (λ m. same_text m.name name) t.members (grind (arith, nat_tests, none)))

pub register_accepts : (t : Tables) (settings : Settings) (h : History) (moment caller : ℕ) (name : List ℕ) (text : Bor (List ℕ)) → text.now ≡ name → t ≡ tables_of settings h
    → None ≡ first_failing (common_rules t.clock (length t.members) moment caller true ++ register_rules name t.members)
    → IsAccepted settings h moment caller (Register name) (change.Register moment text)
register_accepts t settings h moment caller name text same e none =
    record {
      accepted = register_verdict t settings h moment caller name e ∙ sym none;
      fits = rw e at (register_fits t moment caller name text same none);
      free = rw e at (register_free t moment caller name text same none);
      leads = rw (← same) (register_leads settings h moment caller text);
    }

pub category_verdict : (t : Tables) (settings : Settings) (h : History) (moment caller : ℕ) (name : List ℕ) → t ≡ tables_of settings h
    → verdict settings h moment caller (AddCategory name) ≡ first_failing (common_rules t.clock (length t.members) moment caller true ++ category_rules name t.categories)
unfolding tables_of verdict
category_verdict t settings h moment caller name e = rw e refl

-- items are as they were
rows_still_too : (settings : Settings) (h : History) (moment caller : ℕ) (name : List ℕ) (ls : List Listing)
    → map (row_now settings (entry moment caller (AddCategory name) ∷ h)) ls ≡ map (row_now settings h) ls
rows_still_too settings h moment caller name [] = refl
rows_still_too settings h moment caller name (l ∷ ls) = rw (rows_still_too settings h moment caller name ls) (simp append-nil)

pub category_leads : (settings : Settings) (h : History) (moment caller : ℕ) (name : Bor (List ℕ)) → changed (tables_of settings h) (change.AddCategory moment name) ≡ tables_of settings (entry moment caller (AddCategory name.now) ∷ h)
unfolding changed tables_of questions
category_leads settings h moment caller name =
    rw (rows_still_too settings h moment caller name.now (listings h ++ [])) (simp append-nil)

pub category_refusal : (t : Tables) (settings : Settings) (h : History) (moment caller : ℕ) (name : List ℕ) (refusal : Refusal) → t ≡ tables_of settings h
    → Some refusal ≡ first_failing (common_rules t.clock (length t.members) moment caller true ++ category_rules name t.categories) → verdict settings h moment caller (AddCategory name) ≡ Some refusal
category_refusal t settings h moment caller name refusal e report = category_verdict t settings h moment caller name e ∙ sym report

pub category_fits : (t : Tables) (moment caller : ℕ) (name : List ℕ) (text : Bor (List ℕ)) → text.now ≡ name
    → None ≡ first_failing (common_rules t.clock (length t.members) moment caller true ++ category_rules name t.categories)
    → NameFits moment text.now (length t.categories) most_categories
category_fits t moment caller name text same none =
    rw same (record { moment_fits = grind (arith, nat_tests, none); name_fits = grind (arith, nat_tests, none); room = grind (arith, nat_tests, none) })

category_free : (t : Tables) (moment caller : ℕ) (name : List ℕ) (text : Bor (List ℕ)) → text.now ≡ name
    → None ≡ first_failing (common_rules t.clock (length t.members) moment caller true ++ category_rules name t.categories)
    → category_named t text.now ≡ None
category_free t moment caller name text same none = rw same (none_found (λ m. same_text m.name name) t.categories (grind (arith, nat_tests, none)))

pub category_accepts : (t : Tables) (settings : Settings) (h : History) (moment caller : ℕ) (name : List ℕ) (text : Bor (List ℕ)) → text.now ≡ name → t ≡ tables_of settings h
    → None ≡ first_failing (common_rules t.clock (length t.members) moment caller true ++ category_rules name t.categories)
    → IsAccepted settings h moment caller (AddCategory name) (change.AddCategory moment text)
category_accepts t settings h moment caller name text same e none =
    record {
      accepted = category_verdict t settings h moment caller name e ∙ sym none;
      fits = rw e at (category_fits t moment caller name text same none);
      free = rw e at (category_free t moment caller name text same none);
      leads = rw (← same) (category_leads settings h moment caller text);
    }
