-- What was sold has its reserve met, if it has one.
use Rattle.std.proofs.Common.{◌≡◌, ◌≢◌, ℕ, ◌+◌, ◌≤◌, List, [], ◌∷◌, ◌++◌, length, Bool, true, false, not, refl, ap, sym, subst, arith, ◌∙◌, Option, Some, None}
use Rattle.std.specs.Prelude.{◌==◌, find, is_some, nat_le, option_map}
use Rattle.std.specs.List.{AllByRecursion}
use Rattle.std.proofs.lemmas.Bool.Decides.{nat_tests}
use Rattle.std.proofs.lemmas.List.{append-nil}
use Rattle.proxy.specs.Bids.{greatest_if_any, greatest_of, maxima, met, met_by}
use Rattle.proxy.specs.Rules.{first_failing}
use Rattle.proxy.specs.declared.bid.Bid as bid
use Rattle.house_rows.specs.declared.command.Command.{Command}
use Rattle.house_rows.specs.declared.command.Command.TheVariants.{Settle}
use Rattle.house_rows.specs.declared.refusal.Refusal.TheVariants.{NotSold}
use Rattle.house_rows.specs.declared.settings.Settings.{Settings}
use Rattle.house_rows.specs.declared.state.State.{State}
use Rattle.house_rows.specs.declared.state.State.TheVariants.{Open, Sold, Unsold, Settled}
use Rattle.house_rows.specs.Bids.{bid_in, bids_on}
use Rattle.house_rows.specs.History.{Entry, History}
use Rattle.house_rows.specs.Items.{Purchase, close_sells, is_bought, is_settled, is_taken, leader_of, met_from, met_of, purchase_in, purchase_of, purchases, settlements, state_from, state_of}
use Rattle.house_rows.specs.Listings.{Listing, listing_at, listings}
use Rattle.house_rows.specs.Runs.{entry}
use Rattle.house_rows.specs.Verdict.{IsHistory, by_terms, is_sold, rules, settlement_rules, verdict, was_sold}
use Rattle.house_rows.proofs.Every.{every_as, every_more, found_more, some_has}
use Rattle.house_rows.proofs.Passed.{item_pass, own_pass}
use Rattle.house_rows.proofs.RangedBids.{listed_more}
use Rattle.house_rows.proofs.RangedItems.{one_listing}
use Rattle.house_rows.proofs.RangedTalk.{listing_is}

-- more bids have no smaller greatest
greatest_grows : (bids more : List bid.Bid) → greatest_of (maxima bids) ≤ greatest_of (maxima (bids ++ more))
greatest_grows [] more = omega arith
greatest_grows (b ∷ bids) more = let rest = greatest_grows bids more in omega arith

some_true : (b : Bool) → Some b ≢ Some false → b ≡ true
some_true true ne = refl
some_true false ne = absurd (ne refl)

-- bids that meet a reserve meet it still with more bids
met_more : (r : ℕ) (bids more : List bid.Bid) → met_by (Some r) (greatest_if_any (maxima bids)) ≢ Some false → met_by (Some r) (greatest_if_any (maxima (bids ++ more))) ≢ Some false
met_more r [] more ne = absurd (ne refl)
met_more r (b ∷ bids) more ne =
    let was : nat_le r (greatest_of (maxima (b ∷ bids))) ≡ true = some_true _ ne in
    let grows = greatest_grows (b ∷ bids) more in
    let is : nat_le r (greatest_of (maxima (b ∷ bids ++ more))) ≡ true = grind (arith, nat_tests, was, grows) in
    λ e. (let f : Some true ≡ Some false = ap Some (sym is) ∙ e in cc)

-- what was bought stays bought
bought_still : (i : ℕ) (ps more : List Purchase) (o : Option Purchase) → find (λ p. p.item == i) ps ≡ o → is_some o ≡ true → is_some (find (λ p. p.item == i) (ps ++ more)) ≡ true
bought_still i ps more None found some = cc
bought_still i ps more (Some p) found some = rw (found_more (λ (q : Purchase). q.item == i) ps more p found) refl

all_met : (reserve : Option ℕ) → option_map (λ r. true) reserve ≢ Some false
all_met None e = cc
all_met (Some r) e = cc

met_after : (reserve : Option ℕ) (before after : Bool) (bids more : List bid.Bid) → (before ≡ true → after ≡ true)
    → met_from before reserve (met_by reserve (greatest_if_any (maxima bids))) ≢ Some false
    → met_from after reserve (met_by reserve (greatest_if_any (maxima (bids ++ more)))) ≢ Some false
met_after reserve before true bids more stays ne = all_met reserve
met_after reserve true false bids more stays ne = absurd (let e : false ≡ true = stays refl in cc)
met_after None false false bids more stays ne = λ e. cc
met_after (Some r) false false bids more stays ne = met_more r bids more ne

-- a reserve that isn't unmet stays so
met_stays : (h : History) (e : Entry) (l : Listing) → met_of h l ≢ Some false → met_of (e ∷ h) l ≢ Some false
met_stays h e l ne =
    met_after l.reserve (is_bought h l.item) (is_bought (e ∷ h) l.item) (bids_on h l.item) (bid_in l.item (length (bids_on h l.item) + 1) e.caller e.command)
    (bought_still l.item (purchases h) (purchase_in e.moment e.caller e.command) (purchase_of h l.item) refl) ne

-- a settled item is one whose reserve isn't unmet
record MetIn (h : History) (i : ℕ) : Type 0 where
  listing : Listing
  listed : listing_at (listings h) i ≡ Some listing
  is_met : met_of h listing ≢ Some false

still_met : (h : History) (e : Entry) (i : ℕ) → MetIn h i → MetIn (e ∷ h) i
still_met h e i is = record { listing = is.listing; listed = listed_more h e i is.listing is.listed; is_met = met_stays h e is.listing is.is_met }

all_still : (h : History) (e : Entry) (ss : List ℕ) → AllByRecursion (MetIn h) ss → AllByRecursion (MetIn (e ∷ h)) ss
all_still h e ss all = every_as (MetIn h) (MetIn (e ∷ h)) ss (still_met h e) all

by_state : (bought taken sells settled : Bool) (P : Type 0) → (settled ≡ true → P) → (bought ≡ true → P) → (sells ≡ true → P) → was_sold (state_from bought taken sells settled) ≡ true → P
by_state bought taken sells true P by_settled by_bought by_sale sold = by_settled refl
by_state true taken sells false P by_settled by_bought by_sale sold = by_bought refl
by_state false true true false P by_settled by_bought by_sale sold = by_sale refl
by_state false true false false P by_settled by_bought by_sale sold = absurd (let e = sold in cc)
by_state false false sells false P by_settled by_bought by_sale sold = absurd (let e = sold in cc)

sells_met : (leader : Option ℕ) (met : Option Bool) → close_sells leader met ≡ true → met ≢ Some false
sells_met None met sells e = absurd (let f = sells in cc)
sells_met (Some l) None sells e = cc
sells_met (Some l) (Some true) sells e = cc
sells_met (Some l) (Some false) sells e = absurd (let f = sells in cc)

bought_met : (h : History) (l : Listing) → is_bought h l.item ≡ true → met_of h l ≢ Some false
bought_met h l is = rw is (all_met l.reserve)

settled_met : (h : History) (l : Listing) → AllByRecursion (MetIn h) (settlements h) → listing_at (listings h) l.item ≡ Some l → is_settled h l.item ≡ true → met_of h l ≢ Some false
settled_met h l all listed is =
    let one = some_has (MetIn h) (λ s. s == l.item) (settlements h) all is in
    let test = one.2 in
    let at' : one.0 ≡ l.item = grind (arith, nat_tests, test) in
    let known : MetIn h l.item = rw at' at one.1 in
    subst (λ (x : Listing). met_of h x ≢ Some false) (one_listing (listing_at (listings h) l.item) known.listing l known.listed listed) known.is_met

was_met : (h : History) (l : Listing) → AllByRecursion (MetIn h) (settlements h) → listing_at (listings h) l.item ≡ Some l → was_sold (state_of h l) ≡ true → met_of h l ≢ Some false
was_met h l all listed sold =
    by_state (is_bought h l.item) (is_taken h l) (close_sells (leader_of h l) (met_of h l)) (is_settled h l.item) (met_of h l ≢ Some false)
    (settled_met h l all listed) (bought_met h l) (sells_met (leader_of h l) (met_of h l)) sold

sold_was : (s : State) → is_sold s ≡ true → was_sold s ≡ true
sold_was Open is = cc
sold_was Sold is = refl
sold_was Unsold is = cc
sold_was Settled is = cc

settle_pass : (sold : Bool) → first_failing ((not sold, NotSold) ∷ []) ≡ None → sold ≡ true
settle_pass true none = refl
settle_pass false none = cc

settlements_step : (settings : Settings) (h : History) (t c : ℕ) (command : Command) → verdict settings h t c command ≡ None → AllByRecursion (MetIn h) (settlements h) → AllByRecursion (MetIn (entry t c command ∷ h)) (settlements (entry t c command ∷ h))
settlements_step settings h t c (Settle i) none all =
    let own : first_failing (rules settings h t c (Settle i)) ≡ None = own_pass settings h t c (Settle i) none in
    let pass = item_pass settings h i (by_terms settlement_rules) own in
    let l : Listing = pass.listing in
    let sold = settle_pass (is_sold (state_of h l)) pass.pass in
    let at' : l.item ≡ i = listing_is h i l pass.listed in
    let own_listed : listing_at (listings h) l.item ≡ Some l = rw at' pass.listed in
    every_more (MetIn (entry t c (Settle i) ∷ h)) (settlements h) i (all_still h (entry t c (Settle i)) (settlements h) all)
    (still_met h (entry t c (Settle i)) i (record { listing = l; listed = pass.listed; is_met = was_met h l all own_listed (sold_was (state_of h l) sold) }))
settlements_step settings h t c command none all = simp append-nil (all_still h (entry t c command) (settlements h) all)

settlements_met : (settings : Settings) (h : History) → IsHistory settings h → AllByRecursion (MetIn h) (settlements h)
settlements_met settings [] is = tt
settlements_met settings (e ∷ h) is = settlements_step settings h e.moment e.caller e.command is.0 (settlements_met settings h is.1)

pub sold_is_met : (settings : Settings) (h : History) (l : Listing) → IsHistory settings h → listing_at (listings h) l.item ≡ Some l → was_sold (state_of h l) ≡ true → met_of h l ≢ Some false
sold_is_met settings h l is listed sold = was_met h l (settlements_met settings h is) listed sold
