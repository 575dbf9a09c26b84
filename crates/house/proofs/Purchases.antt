-- A purchase: the verdict by the tables, and the tables after it.
use Rattle.house_rows.specs.Bids.{bids_on}
use Rattle.proxy.specs.Bids.{greatest_if_any, maxima}
use Rattle.house_rows.proofs.ChangedRows.{met_again}
use Rattle.std.proofs.Common.{◌≡◌, ◌≢◌, ℕ, List, [], ◌∷◌, ◌++◌, map, length, subst, Bool, true, false, not, refl, ◌∙◌, ap, sym, arith, inl, inr, Some, None}
use Rattle.std.specs.Prelude.{◌==◌, find, is_none, is_some, nat_le, nat_lt}
use Rattle.std.proofs.lemmas.Bool.Decides.{nat_tests}
use Rattle.std.proofs.lemmas.List.{append-nil}
use Rattle.proxy.specs.Rules.{first_failing}
use Rattle.house_rows.specs.declared.change.Change.TheVariants as change
use Rattle.house_rows.specs.declared.command.Command.TheVariants.{Buy}
use Rattle.house_rows.specs.declared.item.Terms.{Terms}
use Rattle.house_rows.specs.declared.refusal.Refusal.{Refusal}
use Rattle.house_rows.specs.declared.refusal.Refusal.TheVariants.{Ended, HasBids, NoBuyNow, NotOpen, OwnItem}
use Rattle.house_rows.specs.declared.settings.Settings.{Settings}
use Rattle.house_rows.specs.declared.state.State.{State}
use Rattle.house_rows.specs.declared.state.State.TheVariants.{Open, Sold, Unsold, Settled}
use Rattle.house_rows.specs.Asks.{PurchaseFits}
use Rattle.house_rows.specs.Changed.{changed, with_purchase}
use Rattle.house_rows.specs.History.{History, clock}
use Rattle.house_rows.specs.Items.{Purchase, is_bought, is_open, is_settled, is_taken, leader_of, purchases, state_from, state_of, close_sells, met_of}
use Rattle.house_rows.specs.Listings.{Listing, listing_at, listings}
use Rattle.house_rows.specs.People.{members}
use Rattle.house_rows.specs.Questions.{questions}
use Rattle.house_rows.specs.Runs.{entry}
use Rattle.house_rows.specs.Tables.{Tables, row_now, tables_of}
use Rattle.house_rows.specs.Verdict.{common_rules, purchase_rules, verdict}
use Rattle.house_rows.proofs.Numbered.{numbered}
use Rattle.house_rows.proofs.Put.{by_test}
use Rattle.house_rows.proofs.RangedItems.{one_listing}
use Rattle.house.specs.Decided.{IsAccepted}
use Rattle.house.specs.Judged.{IsPriced, IsThere, item_rules}
use Rattle.house.proofs.Items.{terms_shown}
use Rattle.house.proofs.ByTables.{caller_fits}
use Rattle.house.proofs.OnItems.{row_there}
use Rattle.house.proofs.Rows.{Known, apart_from, each_row, known, number_is, other_way, own_reported, same_number}

buy_verdict : (t : Tables) (settings : Settings) (h : History) (moment caller item : ℕ) → t ≡ tables_of settings h
    → verdict settings h moment caller (Buy item) ≡ first_failing (item_rules t moment caller false item (purchase_rules moment caller))
unfolding tables_of verdict
buy_verdict t settings h moment caller item e =
    rw e (ap (λ rest. first_failing (common_rules (clock h) (length (members h)) moment caller false ++ rest)) (terms_shown settings h item (purchase_rules moment caller)))

pub buy_unnamed : (t : Tables) (settings : Settings) (h : History) (moment caller item : ℕ) (refusal : Refusal) → t ≡ tables_of settings h
    → first_failing (item_rules t moment caller false item (purchase_rules moment caller)) ≡ Some refusal → verdict settings h moment caller (Buy item) ≡ Some refusal
buy_unnamed t settings h moment caller item refusal e report = buy_verdict t settings h moment caller item e ∙ report

pub buy_refusal : (t : Tables) (settings : Settings) (h : History) (moment caller item : ℕ) (terms : Terms) (refusal : Refusal) → t ≡ tables_of settings h
    → IsThere t moment caller false item terms → first_failing (purchase_rules moment caller terms) ≡ Some refusal → verdict settings h moment caller (Buy item) ≡ Some refusal
buy_refusal t settings h moment caller item terms refusal e there report =
    buy_verdict t settings h moment caller item e ∙ own_reported t moment caller false item terms (purchase_rules moment caller) (Some refusal) there (sym report)

-- what holds where no rule of a purchase fails
record Passes (moment caller : ℕ) (terms : Terms) : Type 0 where
  apart : caller ≢ terms.seller
  is_open : terms.state ≡ Open
  no_bid : terms.count ≡ 0

tests_pass : (own : Bool) (state : State) (ended fixed bid : Bool)
    → first_failing ((own, OwnItem) ∷ (not (is_open state), NotOpen) ∷ (ended, Ended) ∷ (fixed, NoBuyNow) ∷ (bid, HasBids) ∷ []) ≡ None
    → (own ≡ false) × (state ≡ Open) × (bid ≡ false)
tests_pass true state ended fixed bid none = cc
tests_pass false Sold ended fixed bid none = cc
tests_pass false Unsold ended fixed bid none = cc
tests_pass false Settled ended fixed bid none = cc
tests_pass false Open true fixed bid none = cc
tests_pass false Open false true bid none = cc
tests_pass false Open false false true none = cc
tests_pass false Open false false false none = (refl, refl, refl)

passes : (moment caller : ℕ) (terms : Terms) → first_failing (purchase_rules moment caller terms) ≡ None → Passes moment caller terms
passes moment caller terms none =
    let pass = tests_pass (terms.seller == caller) terms.state (nat_le terms.end moment) (is_none terms.buy_now) (nat_lt 0 terms.count) none in
    let bid = pass.2 in
    record { apart = apart_from terms.seller caller pass.0; is_open = pass.1; no_bid = grind (arith, nat_tests, bid) }

-- what an open item isn't
record IsStill (bought taken settled : Bool) : Type 0 where
  bought_not : bought ≡ false
  settled_not : settled ≡ false

still : (bought taken led settled : Bool) → state_from bought taken led settled ≡ Open → IsStill bought taken settled
still bought taken led true is = cc
still true taken led false is = cc
still false true true false is = cc
still false true false false is = cc
still false false led false is = record { bought_not = refl; settled_not = refl }

-- purchases of other items, and of this one
find_other : (i : ℕ) (ps : List Purchase) (p : Purchase) → (p.item == i) ≡ false → find (λ p. p.item == i) (ps ++ p ∷ []) ≡ find (λ p. p.item == i) ps
find_other i [] p other = rw other refl
find_other i (q ∷ ps) p other = elim (by_test (q.item == i)) [ inl is ↦ rw is refl | inr not ↦ rw not (find_other i ps p other) ]

something : {A : Type 0} (x : A) → is_some (Some x) ≡ false → ⊥
something x e = cc

find_here : (i : ℕ) (ps : List Purchase) (p : Purchase) → is_some (find (λ p. p.item == i) ps) ≡ false → (p.item == i) ≡ true → find (λ p. p.item == i) (ps ++ p ∷ []) ≡ Some p
find_here i [] p none here = rw here refl
find_here i (q ∷ ps) p none here =
    elim (by_test (q.item == i)) [ inl is ↦ absurd (something q (rw is at none)) | inr not ↦ rw not (find_here i ps p (rw not at none) here) ]

bought_here : (settings : Settings) (h : History) (moment caller i price : ℕ) (l : Listing) → (l.item == i) ≡ true → state_of h l ≡ Open → l.buy_now ≡ Some price
    → with_purchase i caller price moment (row_now settings h l) ≡ row_now settings (entry moment caller (Buy i) ∷ h) l
bought_here settings h moment caller i price l here is priced =
    let p : Purchase = record { item = i; buyer = caller; moment = moment } in
    let parts = still (is_bought h l.item) (is_taken h l) (close_sells (leader_of h l) (met_of h l)) (is_settled h l.item) is in
    let unsettled : is_settled h l.item ≡ false = parts.settled_not in
    let found : find (λ p. p.item == l.item) (purchases h ++ p ∷ []) ≡ Some p =
    find_here l.item (purchases h) p parts.bought_not (other_way l.item i true here) in
    let unbought : is_bought h l.item ≡ false = parts.bought_not in
    rw (here, found) (simp append-nil (rw (unsettled, priced, unbought, met_again l.reserve (greatest_if_any (maxima (bids_on h l.item)))) refl))

bought_other : (settings : Settings) (h : History) (moment caller i price : ℕ) (l : Listing) → (l.item == i) ≡ false
    → with_purchase i caller price moment (row_now settings h l) ≡ row_now settings (entry moment caller (Buy i) ∷ h) l
bought_other settings h moment caller i price l other =
    let p : Purchase = record { item = i; buyer = caller; moment = moment } in
    rw (other, find_other l.item (purchases h) p (other_way l.item i false other)) (simp append-nil)

-- the row of that number is sold, and every other is as it was
bought_row : (settings : Settings) (h : History) (moment caller i price : ℕ) (sold l : Listing) → listing_at (listings h) i ≡ Some sold → state_of h sold ≡ Open
    → sold.buy_now ≡ Some price → listing_at (listings h) l.item ≡ Some l
    → with_purchase i caller price moment (row_now settings h l) ≡ row_now settings (entry moment caller (Buy i) ∷ h) l
bought_row settings h moment caller i price sold l listed is priced own =
    elim (by_test (l.item == i)) [
      | inl here ↦ (let at' : l.item ≡ i = same_number l.item i here in
          let same : sold ≡ l = one_listing (listing_at (listings h) i) sold l listed (subst (λ (n : ℕ). listing_at (listings h) n ≡ Some l) at' own) in
          bought_here settings h moment caller i price l here (rw same at is) (rw same at priced))
      | inr other ↦ bought_other settings h moment caller i price l other
    ]

bought_rows : (settings : Settings) (h : History) (moment caller i price : ℕ) (sold : Listing) → listing_at (listings h) i ≡ Some sold → state_of h sold ≡ Open
    → sold.buy_now ≡ Some price
    → map (with_purchase i caller price moment) (map (row_now settings h) (listings h)) ≡ map (row_now settings (entry moment caller (Buy i) ∷ h)) (listings h)
bought_rows settings h moment caller i price sold listed is priced =
    each_row (λ l. listing_at (listings h) l.item ≡ Some l) (row_now settings h) (with_purchase i caller price moment) (row_now settings (entry moment caller (Buy i) ∷ h)) (listings h)
    (λ l own. bought_row settings h moment caller i price sold l listed is priced own) (numbered h).own

buy_leads : (settings : Settings) (h : History) (moment caller i price : ℕ) (sold : Listing) → listing_at (listings h) i ≡ Some sold → state_of h sold ≡ Open
    → sold.buy_now ≡ Some price → changed (tables_of settings h) (change.Buy moment i caller price) ≡ tables_of settings (entry moment caller (Buy i) ∷ h)
unfolding changed tables_of questions
buy_leads settings h moment caller i price sold listed is priced =
    rw (bought_rows settings h moment caller i price sold listed is priced) (simp append-nil)

pub buy_fits : (t : Tables) (moment caller item price : ℕ) (terms : Terms) → IsThere t moment caller false item terms → IsPriced moment caller terms price
    → PurchaseFits t moment terms.item caller price
buy_fits t moment caller item price terms there report =
    let row = row_there t item terms there.found in
    let fits = caller_fits t moment caller false there.passed in
    let pass = passes moment caller terms report.passed in
    rw row.numbered (record {
      moment_fits = fits.moment_fits;
      row = row.row;
      row_there = row.there;
      is_open = rw row.same pass.is_open;
      buyer_there = fits.there refl;
      apart = rw row.same pass.apart;
      no_bid = rw row.same pass.no_bid;
      at_price = rw row.same report.priced;
    })

pub buy_accepts : (t : Tables) (settings : Settings) (h : History) (moment caller item price : ℕ) (terms : Terms) → t ≡ tables_of settings h
    → IsThere t moment caller false item terms → IsPriced moment caller terms price
    → IsAccepted settings h moment caller (Buy item) (change.Buy moment terms.item caller price)
buy_accepts t settings h moment caller item price terms e there report =
    let it : Known settings h item terms = known settings h item terms (rw e at there.found) in
    let is_open : state_of h it.listing ≡ Open = rw it.same at (passes moment caller terms report.passed).is_open in
    let priced : it.listing.buy_now ≡ Some price = rw it.same at report.priced in
    let named : terms.item ≡ item = number_is settings h item terms it in
    rw named (record {
      accepted = buy_verdict t settings h moment caller item e ∙ own_reported t moment caller false item terms (purchase_rules moment caller) None there (sym report.passed);
      fits = rw (e, named) at (buy_fits t moment caller item price terms there report);
      free = tt;
      leads = buy_leads settings h moment caller item price it.listing it.listed is_open priced;
    })
