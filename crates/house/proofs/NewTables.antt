-- New band tables: the verdict by the tables, and the tables after them.
use Rattle.std.proofs.Common.{Bor, ◌≡◌, ℕ, ◌+◌, List, [], ◌∷◌, ◌++◌, map, length, true, refl, ◌∙◌, sym, arith, Some, None}
use Rattle.std.proofs.lemmas.Bool.Decides.{nat_tests}
use Rattle.std.proofs.lemmas.List.{append-nil, length-map}
use Rattle.steps.specs.Valid.{is_band_table}
use Rattle.steps.proofs.Tested.{table_is}
use Rattle.proxy.specs.Rules.{first_failing}
use Rattle.house_rows.specs.declared.change.Change.TheVariants as change
use Rattle.house_rows.specs.declared.command.Command.TheVariants.{SetBands}
use Rattle.house_rows.specs.declared.refusal.Refusal.{Refusal}
use Rattle.house_rows.specs.declared.settings.Settings.{Settings}
use Rattle.house_rows.specs.Asks.{TableFits}
use Rattle.house_rows.specs.Changed.{changed}
use Rattle.house_rows.specs.History.{History}
use Rattle.house_rows.specs.Listings.{Listing, listings}
use Rattle.house_rows.specs.Questions.{questions}
use Rattle.house_rows.specs.Runs.{entry}
use Rattle.house_rows.specs.Tables.{Tables, row_now, tables_of}
use Rattle.house_rows.specs.Verdict.{common_rules, table_rules, verdict}
use Rattle.house_rows.proofs.GoesBy.{set_count}
use Rattle.house.specs.Decided.{IsAccepted}

table_verdict : (t : Tables) (settings : Settings) (h : History) (moment caller : ℕ) (bands : List (ℕ × ℕ)) → t ≡ tables_of settings h
    → verdict settings h moment caller (SetBands bands) ≡ first_failing (common_rules t.clock (length t.members) moment caller true ++ table_rules bands (length t.editions + 1))
unfolding tables_of verdict
table_verdict t settings h moment caller bands e = rw (e, set_count h) refl

-- items are as they were
rows_still : (settings : Settings) (h : History) (moment caller : ℕ) (bands : List (ℕ × ℕ)) (ls : List Listing)
    → map (row_now settings (entry moment caller (SetBands bands) ∷ h)) ls ≡ map (row_now settings h) ls
rows_still settings h moment caller bands [] = refl
rows_still settings h moment caller bands (l ∷ ls) = rw (rows_still settings h moment caller bands ls) (simp append-nil)

table_leads : (settings : Settings) (h : History) (moment caller : ℕ) (bands : Bor (List (ℕ × ℕ))) → changed (tables_of settings h) (change.SetBands moment bands) ≡ tables_of settings (entry moment caller (SetBands bands.now) ∷ h)
unfolding changed tables_of questions
table_leads settings h moment caller bands =
    rw (rows_still settings h moment caller bands.now (listings h ++ []), length-map (listings h) (row_now settings h)) (simp append-nil)

pub table_refusal : (t : Tables) (settings : Settings) (h : History) (moment caller : ℕ) (bands : List (ℕ × ℕ)) (refusal : Refusal) → t ≡ tables_of settings h
    → Some refusal ≡ first_failing (common_rules t.clock (length t.members) moment caller true ++ table_rules bands (length t.editions + 1)) → verdict settings h moment caller (SetBands bands) ≡ Some refusal
table_refusal t settings h moment caller bands refusal e report = table_verdict t settings h moment caller bands e ∙ sym report

pub table_fits : (t : Tables) (moment caller : ℕ) (bands : List (ℕ × ℕ)) (rows : Bor (List (ℕ × ℕ))) → rows.now ≡ bands
    → None ≡ first_failing (common_rules t.clock (length t.members) moment caller true ++ table_rules bands (length t.editions + 1))
    → TableFits t moment rows.now
table_fits t moment caller bands rows same none =
    let valid : is_band_table bands ≡ true = grind (arith, nat_tests, none) in
    rw same (record { moment_fits = grind (arith, nat_tests, none); valid = table_is bands valid; room = grind (arith, nat_tests, none) })

pub table_accepts : (t : Tables) (settings : Settings) (h : History) (moment caller : ℕ) (bands : List (ℕ × ℕ)) (rows : Bor (List (ℕ × ℕ))) → rows.now ≡ bands → t ≡ tables_of settings h
    → None ≡ first_failing (common_rules t.clock (length t.members) moment caller true ++ table_rules bands (length t.editions + 1))
    → IsAccepted settings h moment caller (SetBands bands) (change.SetBands moment rows)
table_accepts t settings h moment caller bands rows same e none =
    record {
      accepted = table_verdict t settings h moment caller bands e ∙ sym none;
      fits = rw e at (table_fits t moment caller bands rows same none);
      free = tt;
      leads = rw (← same) (table_leads settings h moment caller rows);
    }
