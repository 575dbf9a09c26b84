-- Watches: the verdict by the tables, and the tables after them.
use Rattle.std.proofs.Common.{◌≡◌, ℕ, ◌≤◌, ◌<◌, List, [], ◌∷◌, ◌++◌, map, filter, length, true, false, not, refl, ◌∙◌, sym, arith, inl, inr, Some, None}
use Rattle.std.specs.Prelude.{nat_le, nat_lt, ◌==◌, ◌&&◌, ◌||◌}
use Rattle.std.specs.List.{list_any}
use Rattle.std.proofs.lemmas.Bool.Decides.{nat_tests}
use Rattle.std.proofs.lemmas.List.{append-nil}
use Rattle.proxy.specs.Rules.{first_failing}
use Rattle.house_rows.specs.declared.change.Change.TheVariants as change
use Rattle.house_rows.specs.declared.command.Command.TheVariants.{Unwatch, Watch}
use Rattle.house_rows.specs.declared.item.Terms.{Terms}
use Rattle.house_rows.specs.declared.refusal.Refusal.{Refusal}
use Rattle.house_rows.specs.declared.refusal.Refusal.TheVariants.{Limit}
use Rattle.house_rows.specs.declared.settings.Settings.{Settings}
use Rattle.house_rows.specs.Asks.{UnwatchFits, WatchFits}
use Rattle.house_rows.specs.Changed.{changed}
use Rattle.house_rows.specs.Found.{is_watched, terms_at, watch_count}
use Rattle.house_rows.specs.History.{History, counted}
use Rattle.house_rows.specs.Limits.{most_watches}
use Rattle.house_rows.specs.Listings.{Listing, listings}
use Rattle.house_rows.specs.Questions.{questions}
use Rattle.house_rows.specs.Runs.{entry}
use Rattle.house_rows.specs.Tables.{Tables, row_now, tables_of}
use Rattle.house_rows.specs.Verdict.{IsHistory, Rule, common_rules, verdict, watch_rules}
use Rattle.house_rows.specs.Views.{own_watches}
use Rattle.house_rows.specs.Watches.{WatchRow, is_watch, watches}
use Rattle.house_rows.proofs.RangedTables.{few_rows}
use Rattle.house.proofs.ByTables.{caller_fits, sound_here}
use Rattle.house.proofs.Found.{by_test}
use Rattle.house.proofs.OnItems.{item_judged, item_refused, row_there}
use Rattle.house.specs.Decided.{IsAccepted, of_terms}

-- a member's watches of other items than one
abbrev others : ℕ → ℕ → List WatchRow → ℕ
others c i ws = counted (λ w. (w.member == c) && not (w.item == i)) ws

-- they are those of the watches that are the member's
others_own : (c i : ℕ) (ws : List WatchRow) → counted (λ w. not (w.item == i)) (filter (λ w. w.member == c) ws) ≡ others c i ws
others_own c i [] = refl
others_own c i (w ∷ ws) = grind (arith, nat_tests, others_own c i ws)

-- an item that isn't watched is none of the member's
others_all : (c i : ℕ) (ws : List WatchRow) → list_any (is_watch c i) ws ≡ false → others c i ws ≡ counted (λ w. w.member == c) ws
others_all c i [] none = refl
others_all c i (w ∷ ws) none = grind (arith, nat_tests, others_all c i ws, none)

others_within : (c i : ℕ) (ws : List WatchRow) → others c i ws ≤ counted (λ w. w.member == c) ws
others_within c i [] = omega arith
others_within c i (w ∷ ws) = grind (arith, nat_tests, others_within c i ws)

-- one that is watched is one of them
others_fewer : (c i : ℕ) (ws : List WatchRow) → list_any (is_watch c i) ws ≡ true → others c i ws < counted (λ w. w.member == c) ws
others_fewer c i [] any = cc
others_fewer c i (w ∷ ws) any = grind (arith, nat_tests, others_fewer c i ws, others_within c i ws, any)

-- fewer than the most others are watched where the item is watched, or there is room
others_room : (c i : ℕ) (ws : List WatchRow) → counted (λ w. w.member == c) ws ≤ most_watches
    → (list_any (is_watch c i) ws || nat_lt (counted (λ w. w.member == c) ws) most_watches) ≡ nat_lt (others c i ws) most_watches
others_room c i ws few =
    elim (by_test (list_any (is_watch c i) ws)) [
      | inl any ↦ (let fewer = others_fewer c i ws any in rw any (grind (arith, nat_tests, fewer, few)))
      | inr none ↦ rw (none, others_all c i ws none) refl
    ]

-- items are as they were
rows_still : (settings : Settings) (h : History) (moment caller i : ℕ) (ls : List Listing)
    → map (row_now settings (entry moment caller (Watch i) ∷ h)) ls ≡ map (row_now settings h) ls
rows_still settings h moment caller i [] = refl
rows_still settings h moment caller i (l ∷ ls) = rw (rows_still settings h moment caller i ls) (simp append-nil)

watch_leads : (settings : Settings) (h : History) (moment caller i : ℕ) → changed (tables_of settings h) (change.Watch caller i) ≡ tables_of settings (entry moment caller (Watch i) ∷ h)
unfolding changed tables_of questions
watch_leads settings h moment caller i = rw (rows_still settings h moment caller i (listings h ++ [])) (simp append-nil)

-- what is refused before the watches are asked
pub watch_refused : (t : Tables) (settings : Settings) (h : History) (moment caller item : ℕ) (refusal : Refusal) → t ≡ tables_of settings h
    → ((rules : Terms → List Rule) → Some refusal ≡ first_failing (common_rules t.clock (length t.members) moment caller false ++ of_terms (terms_at t item) rules))
    → verdict settings h moment caller (Watch item) ≡ Some refusal
unfolding verdict
watch_refused t settings h moment caller item refusal e report = item_refused t settings h moment caller item refusal (λ floor. watch_rules (own_watches h caller)) e report

-- the verdict by whether there is room
watch_judged : (t : Tables) (settings : Settings) (h : History) (moment caller item : ℕ) (terms : Terms) → IsHistory settings h → t ≡ tables_of settings h
    → terms_at t item ≡ Some terms → None ≡ first_failing (common_rules t.clock (length t.members) moment caller false)
    → verdict settings h moment caller (Watch item) ≡ first_failing ((not (is_watched t caller item || nat_lt (watch_count t caller) most_watches), Limit) ∷ [])
unfolding verdict own_watches tables_of
watch_judged t settings h moment caller item terms is e found passed =
    item_judged t settings h moment caller item terms (λ floor. watch_rules (own_watches h caller)) e found passed
    ∙ rw (row_there t item terms found).numbered (rw e (rw (others_own caller item (watches h), others_room caller item (watches h) (few_rows settings h caller is)) (by_room (others caller item (watches h))))) where
      by_room : (n : ℕ) → first_failing ((nat_le most_watches n, Limit) ∷ []) ≡ first_failing ((not (nat_lt n most_watches), Limit) ∷ [])
      by_room n = grind (arith, nat_tests)

pub watch_full : (t : Tables) (settings : Settings) (h : History) (moment caller item : ℕ) (terms : Terms) → IsHistory settings h → t ≡ tables_of settings h
    → terms_at t item ≡ Some terms → None ≡ first_failing (common_rules t.clock (length t.members) moment caller false)
    → (is_watched t caller item || nat_lt (watch_count t caller) most_watches) ≡ false → verdict settings h moment caller (Watch item) ≡ Some Limit
watch_full t settings h moment caller item terms is e found passed full = watch_judged t settings h moment caller item terms is e found passed ∙ rw full refl

pub watch_fits : (t : Tables) (moment caller item : ℕ) (terms : Terms) (member : ℕ)
    → counted (λ w. w.member == member) t.watches ≤ most_watches
    → member ≡ caller → terms_at t item ≡ Some terms → None ≡ first_failing (common_rules t.clock (length t.members) moment caller false)
    → (is_watched t caller item || nat_lt (watch_count t caller) most_watches) ≡ true → WatchFits t member terms.item
watch_fits t moment caller item terms member few same found passed room =
    let row = row_there t item terms found in
    let fewer : nat_lt (others caller item t.watches) most_watches ≡ true = sym (others_room caller item t.watches (rw same at few)) ∙ room in
    rw (same, row.numbered) (record {
      member_there = (caller_fits t moment caller false (sym passed)).there refl;
      item_there = (row.row, row.there);
      room = grind (arith, nat_tests, fewer);
    })

pub watch_accepts : (t : Tables) (settings : Settings) (h : History) (moment caller item : ℕ) (terms : Terms) (member : ℕ) → IsHistory settings h → t ≡ tables_of settings h
    → member ≡ caller → terms_at t item ≡ Some terms → None ≡ first_failing (common_rules t.clock (length t.members) moment caller false)
    → (is_watched t caller item || nat_lt (watch_count t caller) most_watches) ≡ true → IsAccepted settings h moment caller (Watch item) (change.Watch member terms.item)
watch_accepts t settings h moment caller item terms member is e same found passed room =
    let named : terms.item ≡ item = (row_there t item terms found).numbered in
    rw (same, named) (record {
      accepted = watch_judged t settings h moment caller item terms is e found passed ∙ rw room refl;
      fits = rw (e, same, named) at (watch_fits t moment caller item terms member ((sound_here t settings h is e).few_watches member) same found passed room);
      free = tt;
      leads = watch_leads settings h moment caller item;
    })

-- and unwatched
rows_still_too : (settings : Settings) (h : History) (moment caller i : ℕ) (ls : List Listing)
    → map (row_now settings (entry moment caller (Unwatch i) ∷ h)) ls ≡ map (row_now settings h) ls
rows_still_too settings h moment caller i [] = refl
rows_still_too settings h moment caller i (l ∷ ls) = rw (rows_still_too settings h moment caller i ls) (simp append-nil)

unwatch_leads : (settings : Settings) (h : History) (moment caller i : ℕ) → changed (tables_of settings h) (change.Unwatch caller i) ≡ tables_of settings (entry moment caller (Unwatch i) ∷ h)
unfolding changed tables_of questions
unwatch_leads settings h moment caller i = rw (rows_still_too settings h moment caller i (listings h ++ [])) (simp append-nil)

pub unwatch_refused : (t : Tables) (settings : Settings) (h : History) (moment caller item : ℕ) (refusal : Refusal) → t ≡ tables_of settings h
    → ((rules : Terms → List Rule) → Some refusal ≡ first_failing (common_rules t.clock (length t.members) moment caller false ++ of_terms (terms_at t item) rules))
    → verdict settings h moment caller (Unwatch item) ≡ Some refusal
unfolding verdict
unwatch_refused t settings h moment caller item refusal e report = item_refused t settings h moment caller item refusal (λ floor terms. []) e report

unwatch_judged : (t : Tables) (settings : Settings) (h : History) (moment caller item : ℕ) (terms : Terms) → t ≡ tables_of settings h
    → terms_at t item ≡ Some terms → None ≡ first_failing (common_rules t.clock (length t.members) moment caller false) → verdict settings h moment caller (Unwatch item) ≡ None
unfolding verdict
unwatch_judged t settings h moment caller item terms e found passed = item_judged t settings h moment caller item terms (λ floor terms. []) e found passed

pub unwatch_fits : (t : Tables) (moment caller item : ℕ) (terms : Terms) (member : ℕ)
    → member ≡ caller → terms_at t item ≡ Some terms → None ≡ first_failing (common_rules t.clock (length t.members) moment caller false)
    → UnwatchFits t member terms.item
unwatch_fits t moment caller item terms member same found passed =
    let row = row_there t item terms found in
    rw (same, row.numbered) (record { member_there = (caller_fits t moment caller false (sym passed)).there refl; item_there = (row.row, row.there) })

pub unwatch_accepts : (t : Tables) (settings : Settings) (h : History) (moment caller item : ℕ) (terms : Terms) (member : ℕ) → t ≡ tables_of settings h
    → member ≡ caller → terms_at t item ≡ Some terms → None ≡ first_failing (common_rules t.clock (length t.members) moment caller false)
    → IsAccepted settings h moment caller (Unwatch item) (change.Unwatch member terms.item)
unwatch_accepts t settings h moment caller item terms member e same found passed =
    let named : terms.item ≡ item = (row_there t item terms found).numbered in
    rw (same, named) (record {
      accepted = unwatch_judged t settings h moment caller item terms e found passed;
      fits = rw (e, same, named) at (unwatch_fits t moment caller item terms member same found passed);
      free = tt;
      leads = unwatch_leads settings h moment caller item;
    })
