-- What holds where a command is accepted: none of its rules fails.
use Rattle.std.proofs.Common.{◌≡◌, ℕ, ◌≤◌, List, [], ◌∷◌, ◌++◌, map, length, Bool, true, false, refl, arith, Option, Some, None}
use Rattle.std.proofs.lemmas.Bool.Decides.{nat_tests}
use Rattle.proxy.specs.Rules.{first_failing}
use Rattle.house_rows.specs.declared.command.Command.{Command}
use Rattle.house_rows.specs.declared.item.ItemShown.{ItemShown}
use Rattle.house_rows.specs.declared.refusal.Refusal.{Refusal}
use Rattle.house_rows.specs.declared.settings.Settings.{Settings}
use Rattle.house_rows.specs.History.{History, clock}
use Rattle.house_rows.specs.Items.{items_shown, shown_at, shown_now}
use Rattle.house_rows.specs.Limits.{last_moment}
use Rattle.house_rows.specs.Listings.{Listing, listing_at, listings}
use Rattle.house_rows.specs.People.{members}
use Rattle.house_rows.specs.Verdict.{Rule, common_rules, is_house_command, of_item, rules, verdict}

-- a rule that passes, and those after it
pub passes : (fails : Bool) (refusal : Refusal) (rest : List Rule) → first_failing ((fails, refusal) ∷ rest) ≡ None → (fails ≡ false) × (first_failing rest ≡ None)
passes true refusal rest none = cc
passes false refusal rest none = (refl, none)

pub later_pass : (first rest : List Rule) → first_failing (first ++ rest) ≡ None → first_failing rest ≡ None
later_pass [] rest none = none
later_pass (rule ∷ first) rest none = grind (arith, nat_tests, later_pass first rest)

pub first_pass : (first rest : List Rule) → first_failing (first ++ rest) ≡ None → first_failing first ≡ None
first_pass [] rest none = refl
first_pass (rule ∷ first) rest none = grind (arith, nat_tests, first_pass first rest)

-- an item is found where its listing is
abbrev pub item_from : Settings → History → Option Listing → Option ItemShown
item_from settings h None = None
item_from settings h (Some l) = Some (shown_now settings h l)

pub find_item : (settings : Settings) (h : History) (ls : List Listing) (i : ℕ) → shown_at (map (shown_now settings h) ls) i ≡ item_from settings h (listing_at ls i)
find_item settings h [] i = refl
find_item settings h (l ∷ ls) i = grind (arith, nat_tests, find_item settings h ls i)

pub shown_is : (settings : Settings) (h : History) (i : ℕ) → shown_at (items_shown settings h) i ≡ item_from settings h (listing_at (listings h) i)
unfolding items_shown
shown_is settings h i = find_item settings h (listings h) i

-- the rules of every command
pub record Common (h : History) (moment caller : ℕ) (of_house : Bool) : Type 0 where
  pub moment_fits : moment ≤ last_moment
  pub registered : caller ≤ length (members h)
  pub member_if : of_house ≡ false → 1 ≤ caller
  pub house_if : of_house ≡ true → caller ≡ 0
  pub not_after : clock h ≤ moment

pub common_pass : (settings : Settings) (h : History) (moment caller : ℕ) (command : Command) → verdict settings h moment caller command ≡ None
    → Common h moment caller (is_house_command command)
unfolding verdict
common_pass settings h moment caller command none =
    by_house (is_house_command command) (first_pass (common_rules (clock h) (length (members h)) moment caller (is_house_command command)) (rules settings h moment caller command) none) where
      by_house : (of_house : Bool) → first_failing (common_rules (clock h) (length (members h)) moment caller of_house) ≡ None → Common h moment caller of_house
      by_house true pass = record {
        moment_fits = grind (arith, nat_tests, pass);
        registered = grind (arith, nat_tests, pass);
        member_if = λ e. cc;
        house_if = λ e. grind (arith, nat_tests, pass);
        not_after = grind (arith, nat_tests, pass);
      }
      by_house false pass = record {
        moment_fits = grind (arith, nat_tests, pass);
        registered = grind (arith, nat_tests, pass);
        member_if = λ e. grind (arith, nat_tests, pass);
        house_if = λ e. cc;
        not_after = grind (arith, nat_tests, pass);
      }

-- a command's own rules
pub own_pass : (settings : Settings) (h : History) (moment caller : ℕ) (command : Command) → verdict settings h moment caller command ≡ None
    → first_failing (rules settings h moment caller command) ≡ None
unfolding verdict
own_pass settings h moment caller command none =
    later_pass (common_rules (clock h) (length (members h)) moment caller (is_house_command command)) (rules settings h moment caller command) none

-- where an item's rules pass, the item is listed, and its own rules pass
pub record Passes (settings : Settings) (h : History) (i : ℕ) (more : ItemShown → List Rule) : Type 0 where
  pub listing : Listing
  pub listed : listing_at (listings h) i ≡ Some listing
  pub pass : first_failing (more (shown_now settings h listing)) ≡ None

pub item_pass : (settings : Settings) (h : History) (i : ℕ) (more : ItemShown → List Rule) → first_failing (of_item (shown_at (items_shown settings h) i) more) ≡ None → Passes settings h i more
item_pass settings h i more none =
    by_listing (listing_at (listings h) i) refl (rw (shown_is settings h i) at none) where
      by_listing : (o : Option Listing) → listing_at (listings h) i ≡ o → first_failing (of_item (item_from settings h o) more) ≡ None → Passes settings h i more
      by_listing None is pass = cc
      by_listing (Some l) is pass = record { listing = l; listed = is; pass = pass }
