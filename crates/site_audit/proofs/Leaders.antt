-- Who leads by what a keep has.
use Rattle.std.proofs.Common.{◌≡◌, ◌↔◌, ◌∙◌, ℕ, List, [], ◌∷◌, Bool, true, false, refl, sym, ap, subst, Option, Some, None}
use Rattle.std.specs.Prelude.{option_map}
use Rattle.std.specs.List.{AllByRecursion}
use Rattle.proxy.specs.declared.bid.Bid as bid
use Rattle.proxy.specs.Bids.{greatest_if_any, leader, maxima, second, standing_of, top}
use Rattle.proxy.specs.Kept.{Kept}
use Rattle.proxy.specs.Surplus.{Covers}
use Rattle.proxy.proofs.Judged.{none_leader}
use Rattle.proxy.proofs.Leads.{top_is}
use Rattle.house_laws.specs.Covered.{LeadsBy}
use Rattle.house_rows.specs.declared.settings.Settings.{Settings}
use Rattle.house_rows.specs.Bids.{bids_on}
use Rattle.house_rows.specs.Found.{standing_at}
use Rattle.house_rows.specs.History.{History}
use Rattle.house_rows.specs.Listings.{Listing, bands_by, listed_opening, listing_at, listings}
use Rattle.house_rows.specs.Tables.{ItemRow, Tables, bands_for, row_now, tables_of}
use Rattle.house_rows.specs.Verdict.{IsHistory}
use Rattle.house_rows.proofs.GoesBy.{bands_kept}
use Rattle.house_rows.proofs.RangedBids.{BidIn, bids_fit}
use Rattle.house_rows.proofs.RangedTalk.{listing_is}
use Rattle.house_rows.proofs.Shown.{row_found}
use Rattle.site_audit.specs.SealedBids.{IsLedKept}

-- an item that isn't listed has no bids
unlisted : (settings : Settings) (h : History) (i : ℕ) → IsHistory settings h → listing_at (listings h) i ≡ None → bids_on h i ≡ []
unlisted settings h i is none = by_bids (bids_on h i) (bids_fit settings h i is).all where
  by_bids : (bids : List bid.Bid) → AllByRecursion (BidIn h i) bids → bids ≡ []
  by_bids [] all = refl
  by_bids (b ∷ bids) all = absurd (let some = all.0.listed in cc)

led_top : (bids : List bid.Bid) (w : ℕ) → leader bids ≡ Some w → greatest_if_any (maxima bids) ≡ Some (top bids)
led_top [] w led = absurd (none_leader w led)
led_top (b ∷ bids) w led = ap Some (sym (top_is (b ∷ bids) _ refl))

-- what is kept of an item's bids says who leads
kept_led : (settings : Settings) (h : History) (l : Listing) (i w x : ℕ) → listing_at (listings h) i ≡ Some l
    → IsLedKept (bands_by settings l) w x (standing_of (bands_by settings l) (listed_opening l) (bids_on h i)) → LeadsBy settings h i w x
kept_led settings h l i w x listed is = record { listing = l; listed = listed; led = is.0; by = top_is (bids_on h i) x is.1; covers = is.2 }

led_kept : (settings : Settings) (h : History) (l : Listing) (i w x : ℕ) → listing_at (listings h) i ≡ Some l → LeadsBy settings h i w x
    → IsLedKept (bands_by settings l) w x (standing_of (bands_by settings l) (listed_opening l) (bids_on h i))
led_kept settings h l i w x listed is =
    let both : Some is.listing ≡ Some l = sym is.listed ∙ listed in
    let same : is.listing ≡ l = cc in
    (is.led, led_top (bids_on h i) w is.led ∙ ap Some is.by, subst (λ (m : Listing). Covers (bands_by settings m) m.reserve (second (bids_on h i)) x) same is.covers)

standing_by : (settings : Settings) (h : History) (i : ℕ) → standing_at (tables_of settings h) i ≡ option_map (λ (row : ItemRow). row.standing) (option_map (row_now settings h) (listing_at (listings h) i))
standing_by settings h i = ap (option_map (λ (row : ItemRow). row.standing)) (row_found settings h i)

-- where an item has a standing
pub standing_leads : (settings : Settings) (h : History) (t : Tables) (bands : List (ℕ × ℕ)) (i w x : ℕ) (k : Kept) (report : Bool) → t ≡ tables_of settings h → bands ≡ bands_for t i
    → standing_at t i ≡ Some k → (report ≡ true) ↔ IsLedKept bands w x k → (report ≡ true) ↔ LeadsBy settings h i w x
standing_leads settings h t bands i w x k report e same found is =
    by_listing (listing_at (listings h) i) refl where
      by_listing : (o : Option Listing) → listing_at (listings h) i ≡ o → (report ≡ true) ↔ LeadsBy settings h i w x
      by_listing None none =
          let f : None ≡ Some k = sym (ap (option_map (λ (row : ItemRow). row.standing)) (ap (option_map (row_now settings h)) none)) ∙ sym (standing_by settings h i) ∙ ap (λ (u : Tables). standing_at u i) (sym e) ∙ found in absurd cc
      by_listing (Some l) some =
          let f : Some (standing_of (bands_by settings l) (listed_opening l) (bids_on h l.item)) ≡ Some k =
          sym (ap (option_map (λ (row : ItemRow). row.standing)) (ap (option_map (row_now settings h)) some)) ∙ sym (standing_by settings h i) ∙ ap (λ (u : Tables). standing_at u i) (sym e) ∙ found in
          let me : l.item ≡ i = listing_is h i l some in
          let own : bands ≡ bands_by settings l = same ∙ ap (λ (u : Tables). bands_for u i) e ∙ ap (bands_for (tables_of settings h)) (sym me) ∙ bands_kept settings h i l some in
          let kept : k ≡ standing_of (bands_by settings l) (listed_opening l) (bids_on h i) = (let g : standing_of (bands_by settings l) (listed_opening l) (bids_on h l.item) ≡ k = cc in sym g ∙ ap (λ j. standing_of (bands_by settings l) (listed_opening l) (bids_on h j)) me) in (
            λ yes. kept_led settings h l i w x some (subst (λ z. IsLedKept (bands_by settings l) w x z) kept (subst (λ b. IsLedKept b w x k) own (is.0 yes))),
            λ leads. is.1 (subst (λ b. IsLedKept b w x k) (sym own) (subst (λ z. IsLedKept (bands_by settings l) w x z) (sym kept) (led_kept settings h l i w x some leads))),
          )

-- where it has none
pub none_leads : (settings : Settings) (h : History) (t : Tables) (i w x : ℕ) → IsHistory settings h → t ≡ tables_of settings h → standing_at t i ≡ None
    → (false ≡ true) ↔ LeadsBy settings h i w x
none_leads settings h t i w x is e found =
    by_listing (listing_at (listings h) i) refl where
      by_listing : (o : Option Listing) → listing_at (listings h) i ≡ o → (false ≡ true) ↔ LeadsBy settings h i w x
      by_listing None none = (λ f. absurd (let g : false ≡ true = f in cc), λ leads. absurd (none_leader w (subst (λ bs. leader bs ≡ Some w) (unlisted settings h i is none) leads.led)))
      by_listing (Some l) some =
          let f : Some (standing_of (bands_by settings l) (listed_opening l) (bids_on h l.item)) ≡ None =
          sym (ap (option_map (λ (row : ItemRow). row.standing)) (ap (option_map (row_now settings h)) some)) ∙ sym (standing_by settings h i) ∙ ap (λ (u : Tables). standing_at u i) (sym e) ∙ found in absurd cc
