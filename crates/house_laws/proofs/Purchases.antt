-- What is bought at once: what it costs, and that its buyer stays.
use Rattle.std.proofs.Common.{◌≡◌, ℕ, List, [], ◌∷◌, ◌++◌, Bool, true, refl, arith, inl, inr, Option, Some, None}
use Rattle.std.specs.Prelude.{◌==◌, find, is_some, unwrap_or}
use Rattle.std.proofs.lemmas.Bool.Decides.{nat_tests}
use Rattle.house_rows.specs.declared.command.Command.TheVariants.{Buy}
use Rattle.house_rows.specs.declared.settings.Settings.{Settings}
use Rattle.house_rows.specs.History.{Entry, History}
use Rattle.house_rows.specs.Items.{Purchase, close_sells, is_bought, is_settled, is_taken, leader_of, met_of, price_of, purchase_in, purchase_of, purchases}
use Rattle.house_rows.specs.Listings.{Listing, bands_by, listing_at, listings}
use Rattle.house_rows.specs.Runs.{entry}
use Rattle.house_rows.specs.Verdict.{IsHistory, verdict}
use Rattle.house_rows.proofs.AcceptedBids.{bought_known}
use Rattle.house_rows.proofs.Every.{found_more}
use Rattle.house_rows.proofs.OpenItems.{bought_open, not_bought, open_parts}
use Rattle.house_rows.proofs.Put.{by_test}

some_amount : (o : Option ℕ) → is_some o ≡ true → o ≡ Some (unwrap_or o 0)
some_amount None some = cc
some_amount (Some amount) some = refl

-- it costs the buy-now price
pub costs_buy_now : (settings : Settings) (h : History) (l : Listing) → IsHistory settings h → listing_at (listings h) l.item ≡ Some l → is_bought h l.item ≡ true
    → l.buy_now ≡ Some (price_of (bands_by settings l) h l)
costs_buy_now settings h l is listed bought =
    let known = bought_known settings h l is listed bought in
    let has : is_some l.buy_now ≡ true = known.1 in
    rw bought (some_amount l.buy_now has)

-- found is the last, where nothing is before it
found_last : {A : Type 0} (p : A → Bool) (xs : List A) (x : A) → find p xs ≡ None → p x ≡ true → find p (xs ++ x ∷ []) ≡ Some x
found_last p [] x none is = rw is refl
found_last p (y ∷ xs) x none is =
    elim (by_test (p y)) [
      | inl here ↦ absurd (let e : Some y ≡ None = rw here at none in cc)
      | inr not ↦ rw not (found_last p xs x (rw not at none) is)
    ]

-- the purchase that is accepted
abbrev bought_by : ℕ → ℕ → ℕ → Purchase
bought_by t c i = record { item = i; buyer = c; moment = t }

purchase_now : (settings : Settings) (h : History) (t c : ℕ) (l : Listing) → listing_at (listings h) l.item ≡ Some l → verdict settings h t c (Buy l.item) ≡ None
    → purchase_of (entry t c (Buy l.item) ∷ h) l.item ≡ Some (bought_by t c l.item)
purchase_now settings h t c l listed none =
    let here : (l.item == l.item) ≡ true = grind (arith, nat_tests) in
    let parts = open_parts (is_bought h l.item) (is_taken h l) (close_sells (leader_of h l) (met_of h l)) (is_settled h l.item) (bought_open settings h t c l.item l listed none here) in
    let free : purchase_of h l.item ≡ None = not_bought h l.item (purchase_of h l.item) refl parts.bought_not in
    found_last (λ (p : Purchase). p.item == l.item) (purchases h) (bought_by t c l.item) free here

-- a purchase stays
purchase_later : (h : History) (later : List Entry) (i : ℕ) (p : Purchase) → purchase_of h i ≡ Some p → purchase_of (later ++ h) i ≡ Some p
purchase_later h [] i p found = found
purchase_later h (e ∷ later) i p found =
    found_more (λ (p : Purchase). p.item == i) (purchases (later ++ h)) (purchase_in e.moment e.caller e.command) p (purchase_later h later i p found)

-- so the buyer does
pub buyer_stays : (settings : Settings) (h : History) (t c : ℕ) (later : List Entry) (l : Listing) → listing_at (listings h) l.item ≡ Some l → verdict settings h t c (Buy l.item) ≡ None
    → (is_bought (later ++ entry t c (Buy l.item) ∷ h) l.item ≡ true) × (leader_of (later ++ entry t c (Buy l.item) ∷ h) l ≡ Some c)
buyer_stays settings h t c later l listed none =
    let found : purchase_of (later ++ entry t c (Buy l.item) ∷ h) l.item ≡ Some (bought_by t c l.item) =
    purchase_later (entry t c (Buy l.item) ∷ h) later l.item (bought_by t c l.item) (purchase_now settings h t c l listed none) in
    (rw found refl, rw found refl)
