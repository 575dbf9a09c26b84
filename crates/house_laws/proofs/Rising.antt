-- The price of an item never falls, and an accepted bid adds one to the count.
use Rattle.std.proofs.Common.{◌≡◌, ℕ, ◌≤◌, ◌+◌, List, [], ◌∷◌, ◌++◌, length, true, refl, arith, inl, inr, Option, Some, None}
use Rattle.std.specs.Prelude.{◌==◌, find, is_some, unwrap_or, IfSome}
use Rattle.std.proofs.lemmas.Bool.Decides.{nat_tests}
use Rattle.std.proofs.lemmas.List.{append-nil, length-append}
use Rattle.steps.specs.Table.{IsBandTable}
use Rattle.proxy.specs.Bids.{price}
use Rattle.proxy.proofs.Prices.{price-none, price_rises}
use Rattle.house_rows.specs.declared.command.Command.{Command}
use Rattle.house_rows.specs.declared.command.Command.TheVariants.{Bid}
use Rattle.house_rows.specs.declared.settings.Settings.{Settings}
use Rattle.house_rows.specs.Bids.{bids_on}
use Rattle.house_rows.specs.Fits.{IsWithin}
use Rattle.house_rows.specs.History.{Entry, History}
use Rattle.house_rows.specs.Items.{Purchase, is_bought, price_of, purchase_in, purchase_of, purchases}
use Rattle.house_rows.specs.Limits.{most_cents}
use Rattle.house_rows.specs.Listings.{Listing, bands_by, listed_opening, listing_at, listings}
use Rattle.house_rows.specs.Runs.{entry}
use Rattle.house_rows.specs.Verdict.{IsHistory, verdict}
use Rattle.house_rows.proofs.AcceptedBids.{bid_accepted, bought_known}
use Rattle.house_rows.proofs.Every.{found_more}
use Rattle.house_rows.proofs.GoesBy.{bands_valid}
use Rattle.house_rows.proofs.Put.{by_test}
use Rattle.house_rows.proofs.RangedBids.{listed_more}
use Rattle.house_rows.proofs.RangedTalk.{ranges_of}

found_still : (i : ℕ) (ps more : List Purchase) (o : Option Purchase) → find (λ p. p.item == i) ps ≡ o → is_some o ≡ true → is_some (find (λ p. p.item == i) (ps ++ more)) ≡ true
found_still i ps more None found some = cc
found_still i ps more (Some p) found some = rw (found_more (λ (q : Purchase). q.item == i) ps more p found) refl

-- the price by the bids, after one more entry
bids_price : (settings : Settings) (h : History) (t c : ℕ) (command : Command) (l : Listing) → IsBandTable (bands_by settings l) → listing_at (listings h) l.item ≡ Some l → verdict settings h t c command ≡ None
    → price (bands_by settings l) (listed_opening l) (bids_on h l.item) ≤ price (bands_by settings l) (listed_opening l) (bids_on (entry t c command ∷ h) l.item)
bids_price settings h t c (Bid j m) l valid listed none =
    elim (by_test (j == l.item)) [
      | inl here ↦ (let at : j ≡ l.item = grind (arith, nat_tests) in
          let accepted = bid_accepted settings h t c m l listed (rw at at none) in
          rw here (price_rises (bands_by settings l) (listed_opening l) (bids_on h l.item) (record { member = c; maximum = m; no = length (bids_on h l.item) + 1 }) valid accepted))
      | inr other ↦ rw other (simp append-nil (omega arith))
    ]
bids_price settings h t c command l valid listed none = simp append-nil (omega arith)

at_least : (start : ℕ) (o : Option ℕ) → IfSome o (λ amount. IsWithin start most_cents amount) → is_some o ≡ true → start ≤ unwrap_or o 0
at_least start None within some = cc
at_least start (Some amount) within some = within.0

-- of an item that was bought, the start is at most the price
bought_start : (settings : Settings) (h : History) (l : Listing) → IsHistory settings h → listing_at (listings h) l.item ≡ Some l → is_bought h l.item ≡ true
    → price (bands_by settings l) (listed_opening l) (bids_on h l.item) ≤ unwrap_or l.buy_now 0
bought_start settings h l is listed bought =
    let known = bought_known settings h l is listed bought in
    let least : l.start ≤ unwrap_or l.buy_now 0 = at_least l.start l.buy_now (ranges_of settings h l.item l is listed).buy_now known.1 in
    let free : bids_on h l.item ≡ [] = known.0 in
    rw (free, price-none) least

-- the price doesn't fall with an entry
price_step : (settings : Settings) (h : History) (t c : ℕ) (command : Command) (l : Listing) → IsBandTable (bands_by settings l) → IsHistory settings h → listing_at (listings h) l.item ≡ Some l
    → verdict settings h t c command ≡ None → price_of (bands_by settings l) h l ≤ price_of (bands_by settings l) (entry t c command ∷ h) l
price_step settings h t c command l valid is listed none =
    let k : History = entry t c command ∷ h in
    let rises = bids_price settings h t c command l valid listed none in
    elim (by_test (is_bought h l.item)) [
      | inl before ↦ (let after : is_bought k l.item ≡ true = found_still l.item (purchases h) (purchase_in t c command) (purchase_of h l.item) refl before in rw (before, after) (omega arith))
      | inr not ↦ elim (by_test (is_bought k l.item)) [
        | inl now ↦ (let least = bought_start settings k l (none, is) (listed_more h (entry t c command) l.item l listed) now in rw (not, now) (omega arith))
        | inr still ↦ rw (not, still) rises
      ]
    ]

listed_later : (h : History) (later : List Entry) (i : ℕ) (l : Listing) → listing_at (listings h) i ≡ Some l → listing_at (listings (later ++ h)) i ≡ Some l
listed_later h [] i l listed = listed
listed_later h (e ∷ later) i l listed = listed_more (later ++ h) e i l (listed_later h later i l listed)

-- nor with any that follow
price_then : (settings : Settings) (h : History) (later : List Entry) (l : Listing) → IsBandTable (bands_by settings l) → IsHistory settings (later ++ h) → listing_at (listings h) l.item ≡ Some l
    → price_of (bands_by settings l) h l ≤ price_of (bands_by settings l) (later ++ h) l
price_then settings h [] l valid is listed = omega arith
price_then settings h (e ∷ later) l valid is listed =
    let before = price_then settings h later l valid is.1 listed in
    let step = price_step settings (later ++ h) e.moment e.caller e.command l valid is.1 (listed_later h later l.item l listed) is.0 in
    omega arith

pub price_later : (settings : Settings) (h : History) (later : List Entry) (l : Listing) → IsBandTable settings.bands → IsHistory settings (later ++ h) → listing_at (listings h) l.item ≡ Some l
    → price_of (bands_by settings l) h l ≤ price_of (bands_by settings l) (later ++ h) l
price_later settings h later l valid is listed =
    price_then settings h later l (bands_valid settings (later ++ h) l valid is (listed_later h later l.item l listed)) is listed

-- an accepted bid adds one
pub count_rises : (h : History) (t c i m : ℕ) → length (bids_on (entry t c (Bid i m) ∷ h) i) ≡ length (bids_on h i) + 1
count_rises h t c i m = let here : (i == i) ≡ true = grind (arith, nat_tests) in rw here (length-append (bids_on h i) _)
