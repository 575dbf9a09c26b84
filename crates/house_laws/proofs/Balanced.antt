-- The sales of a history are sales between two members, and so their statements balance.
use Rattle.std.proofs.Common.{◌≡◌, ◌≢◌, ℕ, ◌≤◌, List, [], ◌∷◌, ◌++◌, map, true, ap, sym, arith, inl, inr, Option, Some, None}
use Rattle.std.specs.Prelude.{is_some, unwrap_or, IfSome}
use Rattle.std.specs.List.{AllByRecursion}
use Rattle.std.proofs.lemmas.List.Elements.{All-from_recursion}
use Rattle.settle.specs.Statement.{IsSale}
use Rattle.settle.specs.Balance.{IsBalanced}
use Rattle.settle.specs.declared.sale.Sold.{Sold}
use Rattle.settle.specs.declared.zone.Zone.{Zone}
use Rattle.settle.proofs.BalanceLemmas.{balanced}
use Rattle.house_rows.specs.declared.item.Terms.{Terms}
use Rattle.house_rows.specs.declared.settings.Settings.{Settings}
use Rattle.house_rows.specs.Fits.{IsMember, IsMoment, TermsFit}
use Rattle.house_rows.specs.History.{History}
use Rattle.house_rows.specs.Items.{items_shown, leader_of, shown_now, state_of, terms_now}
use Rattle.house_rows.specs.Listings.{Listing, listing_at, listings}
use Rattle.house_rows.specs.Pages.{all_sales, sale_of}
use Rattle.house_rows.specs.Verdict.{IsHistory, was_sold}
use Rattle.house_rows.proofs.Every.{every_both}
use Rattle.house_rows.proofs.Numbered.{numbered}
use Rattle.house_rows.proofs.Put.{by_test}
use Rattle.house_rows.proofs.Ranged.{ListingRanges, listings_fit}
use Rattle.house_rows.proofs.RangedRows.{terms_fit}
use Rattle.house_rows.proofs.RangedTalk.{sold_is_led}

buyer_fits : (o : Option ℕ) (seller : ℕ) → IfSome o IsMember → o ≢ Some seller → is_some o ≡ true → IsMember (unwrap_or o 0) × (seller ≢ unwrap_or o 0)
buyer_fits None seller member apart led = cc
buyer_fits (Some m) seller member apart led = (member, λ e. apart (ap Some (sym e)))

closed_fits : (o : Option ℕ) → IfSome o IsMoment → unwrap_or o 0 ≤ 4102444800
closed_fits None fits = omega arith
closed_fits (Some t) fits = fits

sale_fits : (terms : Terms) → TermsFit terms → (was_sold terms.state ≡ true → is_some terms.leader ≡ true) → AllByRecursion IsSale (sale_of terms)
sale_fits terms fits led =
    elim (by_test (was_sold terms.state)) [
      | inl sold ↦ (let buyer = buyer_fits terms.leader terms.seller fits.leader fits.apart (led sold) in
          rw sold (record { item = fits.item; seller = fits.seller; buyer = buyer.0; parties = buyer.1; closed = closed_fits terms.closed fits.closed }, tt))
      | inr not ↦ rw not tt
    ]

every_append : (P : Sold → Type 0) (xs ys : List Sold) → AllByRecursion P xs → AllByRecursion P ys → AllByRecursion P (xs ++ ys)
every_append P [] ys all also = also
every_append P (x ∷ xs) ys all also = (all.0, every_append P xs ys all.1 also)

sales_fit : (settings : Settings) (h : History) (ls : List Listing) → AllByRecursion (λ l. TermsFit (terms_now settings h l) × (was_sold (state_of h l) ≡ true → is_some (leader_of h l) ≡ true)) ls
    → AllByRecursion IsSale (all_sales (map (shown_now settings h) ls))
sales_fit settings h [] all = tt
sales_fit settings h (l ∷ ls) all =
    every_append IsSale (sale_of (terms_now settings h l)) _ (sale_fits (terms_now settings h l) all.0.0 all.0.1) (sales_fit settings h ls all.1)

pub sales_are_fit : (settings : Settings) (h : History) → IsHistory settings h → AllByRecursion IsSale (all_sales (items_shown settings h))
unfolding items_shown
sales_are_fit settings h is =
    sales_fit settings h (listings h)
    (every_both ListingRanges (λ l. listing_at (listings h) l.item ≡ Some l) (λ l. TermsFit (terms_now settings h l) × (was_sold (state_of h l) ≡ true → is_some (leader_of h l) ≡ true)) (listings h)
    (λ l ranges listed. (terms_fit settings h l is ranges listed, sold_is_led settings h l is listed)) (listings_fit settings h is).all (numbered h).own)

-- over the members that the sales name, what is bought is net plus fees
pub sales_balance : (settings : Settings) (h : History) (from to : ℕ) (zone : Zone) → IsHistory settings h → settings.rate ≤ 2000
    → IsBalanced (all_sales (items_shown settings h)) from to zone settings.rate
sales_balance settings h from to zone is rate =
    balanced (all_sales (items_shown settings h)) from to zone settings.rate rate (All-from_recursion IsSale (all_sales (items_shown settings h)) (sales_are_fit settings h is))
