-- A settlement: the verdict by the tables, and the tables after it.
use Rattle.std.proofs.Common.{◌≡◌, ℕ, List, [], ◌∷◌, ◌++◌, map, length, true, false, not, refl, ◌∙◌, ap, inl, inr, Some, None}
use Rattle.std.specs.Prelude.{◌==◌}
use Rattle.std.specs.List.{list_any}
use Rattle.std.proofs.lemmas.List.{append-nil}
use Rattle.proxy.specs.Rules.{first_failing}
use Rattle.house_rows.specs.declared.change.Change.TheVariants as change
use Rattle.house_rows.specs.declared.command.Command.TheVariants.{Settle}
use Rattle.house_rows.specs.declared.item.Terms.{Terms}
use Rattle.house_rows.specs.declared.refusal.Refusal.{Refusal}
use Rattle.house_rows.specs.declared.refusal.Refusal.TheVariants.{NotSold}
use Rattle.house_rows.specs.declared.settings.Settings.{Settings}
use Rattle.house_rows.specs.declared.state.State.{State}
use Rattle.house_rows.specs.declared.state.State.TheVariants.{Open, Sold, Unsold, Settled}
use Rattle.house_rows.specs.Asks.{SettlementFits}
use Rattle.house_rows.specs.Changed.{changed, with_settlement}
use Rattle.house_rows.specs.History.{History, clock}
use Rattle.house_rows.specs.Items.{settlements}
use Rattle.house_rows.specs.Listings.{Listing, listings}
use Rattle.house_rows.specs.People.{members}
use Rattle.house_rows.specs.Questions.{questions}
use Rattle.house_rows.specs.Runs.{entry}
use Rattle.house_rows.specs.Tables.{Tables, row_now, tables_of}
use Rattle.house_rows.specs.Verdict.{common_rules, is_sold, settlement_rules, verdict}
use Rattle.house_rows.proofs.Put.{by_test}
use Rattle.house.specs.Decided.{IsAccepted}
use Rattle.house.specs.Judged.{IsThere, item_rules}
use Rattle.house.proofs.Items.{terms_shown}
use Rattle.house.proofs.ByTables.{caller_fits}
use Rattle.house.proofs.OnItems.{row_there}
use Rattle.house.proofs.Rows.{all_of, each_row, other_way, own_reported}

settle_verdict : (t : Tables) (settings : Settings) (h : History) (moment caller item : ℕ) → t ≡ tables_of settings h
    → verdict settings h moment caller (Settle item) ≡ first_failing (item_rules t moment caller true item settlement_rules)
unfolding tables_of verdict
settle_verdict t settings h moment caller item e =
    rw e (ap (λ rest. first_failing (common_rules (clock h) (length (members h)) moment caller true ++ rest)) (terms_shown settings h item settlement_rules))

pub settle_unnamed : (t : Tables) (settings : Settings) (h : History) (moment caller item : ℕ) (refusal : Refusal) → t ≡ tables_of settings h
    → first_failing (item_rules t moment caller true item settlement_rules) ≡ Some refusal → verdict settings h moment caller (Settle item) ≡ Some refusal
settle_unnamed t settings h moment caller item refusal e report = settle_verdict t settings h moment caller item e ∙ report

pub settle_refusal : (t : Tables) (settings : Settings) (h : History) (moment caller item : ℕ) (terms : Terms) (refusal : Refusal) → t ≡ tables_of settings h
    → IsThere t moment caller true item terms → Some refusal ≡ first_failing (settlement_rules terms) → verdict settings h moment caller (Settle item) ≡ Some refusal
settle_refusal t settings h moment caller item terms refusal e there report =
    settle_verdict t settings h moment caller item e ∙ own_reported t moment caller true item terms settlement_rules (Some refusal) there report

any_here : (i j : ℕ) (ss : List ℕ) → (j == i) ≡ true → list_any (λ s. s == i) (ss ++ j ∷ []) ≡ true
any_here i j [] here = rw here refl
any_here i j (s ∷ ss) here = elim (by_test (s == i)) [ inl is ↦ rw is refl | inr not ↦ rw not (any_here i j ss here) ]

any_other : (i j : ℕ) (ss : List ℕ) → (j == i) ≡ false → list_any (λ s. s == i) (ss ++ j ∷ []) ≡ list_any (λ s. s == i) ss
any_other i j [] other = rw other refl
any_other i j (s ∷ ss) other = elim (by_test (s == i)) [ inl is ↦ rw is refl | inr not ↦ rw not (any_other i j ss other) ]

-- the row of that number is settled, and every other is as it was
settled_row : (settings : Settings) (h : History) (moment caller i : ℕ) (l : Listing)
    → with_settlement i (row_now settings h l) ≡ row_now settings (entry moment caller (Settle i) ∷ h) l
settled_row settings h moment caller i l =
    elim (by_test (l.item == i)) [
      | inl here ↦ rw (here, any_here l.item i (settlements h) (other_way l.item i true here)) (simp append-nil)
      | inr other ↦ rw (other, any_other l.item i (settlements h) (other_way l.item i false other)) (simp append-nil)
    ]

settled_rows : (settings : Settings) (h : History) (moment caller i : ℕ) (ls : List Listing)
    → map (with_settlement i) (map (row_now settings h) ls) ≡ map (row_now settings (entry moment caller (Settle i) ∷ h)) ls
settled_rows settings h moment caller i ls =
    each_row (λ l. Unit {0}) (row_now settings h) (with_settlement i) (row_now settings (entry moment caller (Settle i) ∷ h)) ls
    (λ l any. settled_row settings h moment caller i l) (all_of (λ l. Unit {0}) ls (λ l. tt))

settle_leads : (settings : Settings) (h : History) (moment caller i : ℕ)
    → changed (tables_of settings h) (change.Settle moment i) ≡ tables_of settings (entry moment caller (Settle i) ∷ h)
unfolding changed tables_of questions
settle_leads settings h moment caller i = rw (settled_rows settings h moment caller i (listings h)) (simp append-nil)

sold_state : (s : State) → None ≡ first_failing ((not (is_sold s), NotSold) ∷ []) → s ≡ Sold
sold_state Open pass = cc
sold_state Sold pass = refl
sold_state Unsold pass = cc
sold_state Settled pass = cc

pub settle_fits : (t : Tables) (moment caller item : ℕ) (terms : Terms) → IsThere t moment caller true item terms → None ≡ first_failing (settlement_rules terms)
    → SettlementFits t moment terms.item
settle_fits t moment caller item terms there report =
    let row = row_there t item terms there.found in
    rw row.numbered (record {
      moment_fits = (caller_fits t moment caller true there.passed).moment_fits;
      row = row.row;
      row_there = row.there;
      is_sold = rw row.same (sold_state terms.state report);
    })

pub settle_accepts : (t : Tables) (settings : Settings) (h : History) (moment caller item : ℕ) (terms : Terms) → t ≡ tables_of settings h
    → IsThere t moment caller true item terms → None ≡ first_failing (settlement_rules terms)
    → IsAccepted settings h moment caller (Settle item) (change.Settle moment terms.item)
settle_accepts t settings h moment caller item terms e there report =
    let named : terms.item ≡ item = (row_there t item terms there.found).numbered in
    rw named (record {
      accepted = settle_verdict t settings h moment caller item e ∙ own_reported t moment caller true item terms settlement_rules None there report;
      fits = rw (e, named) at (settle_fits t moment caller item terms there report);
      free = tt;
      leads = settle_leads settings h moment caller item;
    })
