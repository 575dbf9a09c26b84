-- The rows of items fit.
use Rattle.std.proofs.Common.{◌≡◌, ℕ, List, ◌≤◌, ◌⊎◌, map, refl, sym, subst, inl, inr, Bool, true, false, Option, Some, None}
use Rattle.std.specs.Prelude.{is_some, unwrap_or}
use Rattle.std.specs.List.{AllByRecursion}
use Rattle.proxy.specs.declared.bid.Bid as bid
use Rattle.house_rows.specs.declared.settings.Settings.{Settings}
use Rattle.house_rows.specs.Fits.{TermsFit}
use Rattle.house_rows.specs.History.{History}
use Rattle.house_rows.specs.Bids.{bids_on}
use Rattle.house_rows.specs.Items.{is_bought, is_settled, is_taken, leader_of, purchase_of, state_from, terms_now, close_sells, met_of}
use Rattle.house_rows.specs.Keeping.{IsBought, IsByBids, ItemRowFits, RowFits}
use Rattle.house_rows.specs.Limits.{most_cents}
use Rattle.house_rows.specs.Listings.{Listing, bands_by, listed_opening, listing_at, listings}
use Rattle.house_rows.specs.Tables.{row_now, tables_of}
use Rattle.house_rows.specs.Verdict.{IsHistory, was_sold}
use Rattle.house_rows.proofs.AcceptedBids.{bids_are_accepted, bought_known}
use Rattle.house_rows.proofs.GoesBy.{bands_kept}
use Rattle.house_rows.proofs.Every.{every_as, every_both, every_map}
use Rattle.house_rows.proofs.Numbered.{numbered}
use Rattle.house_rows.proofs.OpenItems.{not_bought}
use Rattle.house_rows.proofs.Ranged.{ListingRanges, listings_fit}
use Rattle.house_rows.proofs.RangedBids.{BidIn, bids_fit, price_within, top_within}
use Rattle.house_rows.proofs.RangedItems.{buy_now_most, closed_by, leader_may, leads_member, leads_not, price_by, purchase_known}
use Rattle.house_rows.proofs.RangedTalk.{sold_is_closed, sold_is_led}

pub terms_fit : (settings : Settings) (h : History) (l : Listing) → IsHistory settings h → ListingRanges l → listing_at (listings h) l.item ≡ Some l → TermsFit (terms_now settings h l)
terms_fit settings h l is ranges listed =
    let fits = bids_fit settings h l.item is in
    let may = leader_may settings h l is listed in
    let by_bids = price_within (bands_by settings l) (listed_opening l) most_cents (bids_on h l.item) ranges.start.1 (every_as (BidIn h l.item) (λ (b : bid.Bid). b.maximum ≤ most_cents) (bids_on h l.item) (λ b in'. in'.maximum) fits.all) in
    record {
      item = ranges.item;
      seller = ranges.seller;
      category = ranges.category;
      start = ranges.start;
      buy_now = ranges.buy_now;
      end = ranges.end;
      closed = closed_by (purchase_of h l.item) l (is_taken h l) (purchase_known settings h l is listed) ranges.end;
      price = price_by (is_bought h l.item) (unwrap_or l.buy_now 0) _ (buy_now_most l.start l.buy_now ranges.buy_now) by_bids;
      leader = leads_member (leader_of h l) l.seller may;
      apart = leads_not (leader_of h l) l.seller may;
      count = fits.room;
      sold_led = sold_is_led settings h l is listed;
      sold_closed = sold_is_closed settings h l is listed;
    }

-- the price is that of the bids, or the buy-now price
bought_price : (o : Option ℕ) → is_some o ≡ true → o ≡ Some (unwrap_or o 0)
bought_price None some = cc
bought_price (Some amount) some = refl

bought_sold : (bought taken led settled : Bool) → bought ≡ true → was_sold (state_from bought taken led settled) ≡ true
bought_sold bought taken led true is = refl
bought_sold true taken led false is = refl
bought_sold false taken led false is = cc

report_by : (settings : Settings) (h : History) (l : Listing) → IsHistory settings h → listing_at (listings h) l.item ≡ Some l → (bought : Bool) → is_bought h l.item ≡ bought
    → IsByBids (row_now settings h l) ⊎ IsBought (row_now settings h l)
report_by settings h l is listed false by_bids =
    let none : purchase_of h l.item ≡ None = not_bought h l.item (purchase_of h l.item) refl by_bids in
    inl (record { price = rw by_bids refl; leader = rw none refl; met = rw by_bids refl })
report_by settings h l is listed true bought =
    let known = bought_known settings h l is listed bought in
    inr (record {
      sold = bought_sold (is_bought h l.item) (is_taken h l) (close_sells (leader_of h l) (met_of h l)) (is_settled h l.item) bought;
      no_bid = rw known.0 refl;
      price = rw bought (bought_price l.buy_now known.1);
      met = rw bought refl;
    })

row_fits : (settings : Settings) (h : History) (l : Listing) → IsHistory settings h → ListingRanges l → listing_at (listings h) l.item ≡ Some l → ItemRowFits (bands_by settings l) (row_now settings h l)
row_fits settings h l is ranges listed =
    let fits = bids_fit settings h l.item is in
    record {
      item = record { terms = terms_fit settings h l is ranges listed; lot = ranges.lot; title = ranges.title; text = ranges.text };
      bids = bids_on h l.item;
      accepted = bids_are_accepted settings h is l listed;
      few = fits.room;
      is_consistent = refl;
      top = top_within most_cents (bids_on h l.item) (every_as (BidIn h l.item) (λ (b : bid.Bid). b.maximum ≤ most_cents) (bids_on h l.item) (λ b in'. in'.maximum) fits.all);
      reserve = ranges.reserve;
      count = refl;
      report = report_by settings h l is listed (is_bought h l.item) refl;
    }

pub rows_fit : (settings : Settings) (h : History) → IsHistory settings h → AllByRecursion (RowFits (tables_of settings h)) (map (row_now settings h) (listings h))
rows_fit settings h is =
    every_map (row_now settings h) (RowFits (tables_of settings h)) (listings h)
    (every_both ListingRanges (λ l. listing_at (listings h) l.item ≡ Some l) (λ l. RowFits (tables_of settings h) (row_now settings h l)) (listings h)
    (λ l ranges listed. subst (λ (bands : List (ℕ × ℕ)). ItemRowFits bands (row_now settings h l)) (sym (bands_kept settings h l.item l listed)) (row_fits settings h l is ranges listed))
    (listings_fit settings h is).all (numbered h).own)
