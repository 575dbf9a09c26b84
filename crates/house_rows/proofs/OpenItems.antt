-- An item on which a bid or a purchase is accepted is open.
use Rattle.std.proofs.Common.{◌≡◌, ℕ, Bool, true, false, not, refl, ◌∙◌, sym, arith, Option, Some, None, List}
use Rattle.std.specs.Prelude.{◌==◌, if◌then◌else◌}
use Rattle.std.proofs.lemmas.Bool.Decides.{nat_tests}
use Rattle.proxy.specs.Bids.{greatest}
use Rattle.proxy.specs.Rules.{first_failing}
use Rattle.house_rows.specs.declared.command.Command.TheVariants.{Bid, Buy}
use Rattle.house_rows.specs.declared.item.ItemShown.{ItemShown}
use Rattle.house_rows.specs.declared.refusal.Refusal.{Refusal}
use Rattle.house_rows.specs.declared.refusal.Refusal.TheVariants.{NotOpen, OwnItem}
use Rattle.house_rows.specs.declared.settings.Settings.{Settings}
use Rattle.house_rows.specs.declared.state.State.{State}
use Rattle.house_rows.specs.declared.state.State.TheVariants.{Open, Sold, Unsold, Settled}
use Rattle.house_rows.specs.Bids.{bids_on}
use Rattle.house_rows.specs.History.{History}
use Rattle.house_rows.specs.Items.{Purchase, is_bought, is_open, purchase_of, shown_now, state_from, state_of}
use Rattle.house_rows.specs.Listings.{Listing, listing_at, listings}
use Rattle.house_rows.specs.Verdict.{Rule, bid_rules, by_terms, purchase_rules, rules, verdict}
use Rattle.house_rows.proofs.Passed.{Passes, item_pass, own_pass}
use Rattle.house_rows.proofs.RangedItems.{one_listing}

-- what an open item isn't
pub record IsOpen (bought taken settled : Bool) : Type 0 where
  pub bought_not : bought ≡ false
  pub taken_not : taken ≡ false
  pub settled_not : settled ≡ false

pub open_parts : (bought taken led settled : Bool) → is_open (state_from bought taken led settled) ≡ true → IsOpen bought taken settled
open_parts bought taken led true is = cc
open_parts true taken led false is = cc
open_parts false true true false is = cc
open_parts false true false false is = cc
open_parts false false led false is = record { bought_not = refl; taken_not = refl; settled_not = refl }

pub not_bought : (h : History) (i : ℕ) (o : Option Purchase) → o ≡ purchase_of h i → is_bought h i ≡ false → o ≡ None
not_bought h i None e not = refl
not_bought h i (Some p) e not = absurd (let some : is_bought h i ≡ true = rw (← e) refl in let e : true ≡ false = sym some ∙ not in cc)

-- the rules of the listing that is known
pub rules_of : (settings : Settings) (h : History) (l : Listing) (more : ItemShown → List Rule) → listing_at (listings h) l.item ≡ Some l → Passes settings h l.item more
    → first_failing (more (shown_now settings h l)) ≡ None
rules_of settings h l more listed pass =
    let e : pass.listing ≡ l = one_listing (listing_at (listings h) l.item) pass.listing l pass.listed listed in rw e at pass.pass

pub open_pass : (fails : Bool) (state : State) (rest : Option Refusal) → (if fails then Some OwnItem else (if not (is_open state) then Some NotOpen else rest)) ≡ None → is_open state ≡ true
open_pass true state rest none = cc
open_pass false Open rest none = refl
open_pass false Sold rest none = cc
open_pass false Unsold rest none = cc
open_pass false Settled rest none = cc

pub bid_led : (settings : Settings) (h : History) (t c j m : ℕ) (l : Listing) → listing_at (listings h) l.item ≡ Some l → verdict settings h t c (Bid j m) ≡ None → (j == l.item) ≡ true → is_open (state_of h l) ≡ true
bid_led settings h t c j m l listed none here =
    let at : j ≡ l.item = grind (arith, nat_tests) in
    let own : first_failing (rules settings h t c (Bid l.item m)) ≡ None = rw at at (own_pass settings h t c (Bid j m) none) in
    let more : ItemShown → List Rule = bid_rules t c m (greatest (bids_on h l.item) c) in
    let pass = rules_of settings h l more listed (item_pass settings h l.item more own) in
    open_pass (l.seller == c) (state_of h l) _ pass

pub bought_open : (settings : Settings) (h : History) (t c j : ℕ) (l : Listing) → listing_at (listings h) l.item ≡ Some l → verdict settings h t c (Buy j) ≡ None → (j == l.item) ≡ true → is_open (state_of h l) ≡ true
bought_open settings h t c j l listed none here =
    let at : j ≡ l.item = grind (arith, nat_tests) in
    let own : first_failing (rules settings h t c (Buy l.item)) ≡ None = rw at at (own_pass settings h t c (Buy j) none) in
    let more : ItemShown → List Rule = by_terms (purchase_rules t c) in
    let pass = rules_of settings h l more listed (item_pass settings h l.item more own) in
    open_pass (l.seller == c) (state_of h l) _ pass
