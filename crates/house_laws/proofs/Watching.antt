-- How many items a member watches.
use Rattle.std.proofs.Common.{◌≡◌, ℕ, ◌≤◌, ◌<◌, List, [], ◌∷◌, ◌++◌, length, true, false, not, refl, ap, arith, inl, inr, Option, Some, None, ◌∙◌}
use Rattle.std.specs.Prelude.{◌==◌, nat_le, nat_lt, if◌then◌else◌}
use Rattle.std.specs.List.{list_any}
use Rattle.std.proofs.lemmas.Bool.Decides.{nat_tests}
use Rattle.proxy.specs.Rules.{first_failing}
use Rattle.house_rows.specs.declared.command.Command.TheVariants.{Watch}
use Rattle.house_rows.specs.declared.refusal.Refusal.{Refusal}
use Rattle.house_rows.specs.declared.refusal.Refusal.TheVariants.{Limit}
use Rattle.house_rows.specs.declared.settings.Settings.{Settings}
use Rattle.house_rows.specs.History.{History, clock, counted}
use Rattle.house_rows.specs.Items.{items_shown, shown_at}
use Rattle.house_rows.specs.Limits.{last_moment, most_watches}
use Rattle.house_rows.specs.Listings.{Listing, listing_at, listings}
use Rattle.house_rows.specs.People.{members}
use Rattle.house_rows.specs.Verdict.{IsHistory, Rule, common_rules, by_terms, of_item, verdict, watch_rules}
use Rattle.house_rows.specs.Views.{own_watches}
use Rattle.house_rows.specs.Watches.{WatchRow}
use Rattle.house_rows.proofs.Passed.{shown_is}
use Rattle.house_rows.proofs.Put.{by_test}
use Rattle.house_rows.proofs.RangedTables.{few_watches}
use Rattle.house_rows.proofs.RangedTalk.{listing_is}
use Rattle.house_laws.specs.Watching.{MayCommand, is_watched}

-- the common rules of a member's command pass
common_none : (h : History) (moment caller : ℕ) (rest : List Rule) → MayCommand h moment caller
    → first_failing (common_rules (clock h) (length (members h)) moment caller false ++ rest) ≡ first_failing rest
common_none h moment caller rest may =
    let a = may.moment_fits in let b = may.not_house in let c = may.registered in let d = may.not_after in
    let one : nat_lt last_moment moment ≡ false = grind (arith, nat_tests) in
    let two : nat_lt (length (members h)) caller ≡ false = grind (arith, nat_tests) in
    let three : (caller == 0) ≡ false = grind (arith, nat_tests) in
    let four : nat_lt moment (clock h) ≡ false = grind (arith, nat_tests) in
    rw (one, two, three, four) refl

-- the refusal of a watch, if any, by how many others are watched
abbrev report_by : ℕ → List WatchRow → Option Refusal
report_by i ws = if nat_le most_watches (counted (λ w. not (w.item == i)) ws) then Some Limit else None

watch_reported : (settings : Settings) (h : History) (moment caller i : ℕ) (l : Listing) → MayCommand h moment caller → listing_at (listings h) i ≡ Some l
    → verdict settings h moment caller (Watch i) ≡ report_by i (own_watches h caller)
unfolding verdict
watch_reported settings h moment caller i l may listed =
    let same : l.item ≡ i = listing_is h i l listed in
    let report : report_by l.item (own_watches h caller) ≡ report_by i (own_watches h caller) = ap (λ (n : ℕ). report_by n (own_watches h caller)) same in
    common_none h moment caller (of_item (shown_at (items_shown settings h) i) (by_terms (watch_rules (own_watches h caller)))) may
    ∙ rw (shown_is settings h i, listed) report

others_all : (i : ℕ) (ws : List WatchRow) → list_any (λ w. w.item == i) ws ≡ false → counted (λ w. not (w.item == i)) ws ≡ length ws
others_all i [] none = refl
others_all i (w ∷ ws) none =
    elim (by_test (w.item == i)) [ inl is ↦ absurd (let e : true ≡ false = rw is at none in cc) | inr other ↦ (let e = others_all i ws (rw other at none) in rw (other, e) refl) ]

others_most : (i : ℕ) (ws : List WatchRow) → counted (λ w. not (w.item == i)) ws ≤ length ws
others_most i [] = omega arith
others_most i (w ∷ ws) =
    let most = others_most i ws in
    elim (by_test (w.item == i)) [ inl is ↦ rw is (omega arith) | inr other ↦ rw other (omega arith) ]

others_fewer : (i : ℕ) (ws : List WatchRow) → list_any (λ w. w.item == i) ws ≡ true → counted (λ w. not (w.item == i)) ws < length ws
others_fewer i [] any = cc
others_fewer i (w ∷ ws) any =
    elim (by_test (w.item == i)) [
      | inl is ↦ (let most = others_most i ws in rw is (omega arith))
      | inr other ↦ (let fewer = others_fewer i ws (rw other at any) in rw other (omega arith))
    ]

-- 200 others are watched: one more is refused
pub watched_full : (settings : Settings) (h : History) (moment caller i : ℕ) (l : Listing) → MayCommand h moment caller → listing_at (listings h) i ≡ Some l
    → length (own_watches h caller) ≡ 200 → is_watched h caller i ≡ false → verdict settings h moment caller (Watch i) ≡ Some Limit
watched_full settings h moment caller i l may listed full other =
    let count : counted (λ w. not (w.item == i)) (own_watches h caller) ≡ 200 = others_all i (own_watches h caller) other ∙ full in
    watch_reported settings h moment caller i l may listed ∙ rw count refl

report_room : (n : ℕ) → n < 200 → (if nat_le most_watches n then Some Limit else None) ≡ None
report_room n lt = let not : nat_le most_watches n ≡ false = grind (arith, nat_tests) in rw not refl

-- with fewer watches any item may be watched
pub watched_room : (settings : Settings) (h : History) (moment caller i : ℕ) (l : Listing) → MayCommand h moment caller → listing_at (listings h) i ≡ Some l
    → length (own_watches h caller) < 200 → verdict settings h moment caller (Watch i) ≡ None
watched_room settings h moment caller i l may listed room =
    let most = others_most i (own_watches h caller) in
    watch_reported settings h moment caller i l may listed ∙ report_room (counted (λ w. not (w.item == i)) (own_watches h caller)) (omega arith)

-- what is watched may be watched again
pub watched_again : (settings : Settings) (h : History) (moment caller i : ℕ) (l : Listing) → IsHistory settings h → MayCommand h moment caller
    → listing_at (listings h) i ≡ Some l → is_watched h caller i ≡ true → verdict settings h moment caller (Watch i) ≡ None
watched_again settings h moment caller i l is may listed watched =
    let few = few_watches settings h caller is in
    let fewer = others_fewer i (own_watches h caller) watched in
    watch_reported settings h moment caller i l may listed ∙ report_room (counted (λ w. not (w.item == i)) (own_watches h caller)) (omega arith)
