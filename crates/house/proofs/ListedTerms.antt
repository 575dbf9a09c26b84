-- What is found of an item in the tables is what became of its listing.
use Rattle.std.proofs.Common.{◌≡◌, ℕ, refl, ◌∙◌, ap, sym, Option, Some, None}
use Rattle.std.specs.Prelude.{◌==◌, option_map}
use Rattle.house_rows.specs.declared.item.Terms.{Terms}
use Rattle.house_rows.specs.declared.settings.Settings.{Settings}
use Rattle.house_rows.specs.Found.{terms_at}
use Rattle.house_rows.specs.History.{History}
use Rattle.house_rows.specs.Items.{terms_now}
use Rattle.house_rows.specs.Listings.{Listing, is_seller, listing_at, listings}
use Rattle.house_rows.specs.Ratings.{other_party, party_against}
use Rattle.house_rows.specs.Tables.{ItemRow, row_now, tables_of}
use Rattle.house_rows.proofs.Shown.{row_found}

-- what the tables say of an item
pub terms_listed : (settings : Settings) (h : History) (i : ℕ) → terms_at (tables_of settings h) i ≡ option_map (terms_now settings h) (listing_at (listings h) i)
terms_listed settings h i = ap (option_map (λ (row : ItemRow). row.item.terms)) (row_found settings h i) ∙ by_listing (listing_at (listings h) i) where
  by_listing : (o : Option Listing) → option_map (λ (row : ItemRow). row.item.terms) (option_map (row_now settings h) o) ≡ option_map (terms_now settings h) o
  by_listing None = refl
  by_listing (Some l) = refl

-- the other party is given by the terms
pub party_is : (settings : Settings) (h : History) (i c : ℕ) (terms : Terms) → terms_at (tables_of settings h) i ≡ Some terms
    → party_against h (listing_at (listings h) i) c ≡ other_party terms.seller terms.leader c
party_is settings h i c terms found = by_listing (listing_at (listings h) i) (sym (terms_listed settings h i) ∙ found) where
  by_listing : (o : Option Listing) → option_map (terms_now settings h) o ≡ Some terms → party_against h o c ≡ other_party terms.seller terms.leader c
  by_listing None some = cc
  by_listing (Some l) some = let e : terms_now settings h l ≡ terms = cc in rw (← e) refl

-- the seller is given by the terms
pub seller_is : (settings : Settings) (h : History) (i c : ℕ) (terms : Terms) → terms_at (tables_of settings h) i ≡ Some terms → is_seller (listing_at (listings h) i) c ≡ (terms.seller == c)
seller_is settings h i c terms found = by_listing (listing_at (listings h) i) (sym (terms_listed settings h i) ∙ found) where
  by_listing : (o : Option Listing) → option_map (terms_now settings h) o ≡ Some terms → is_seller o c ≡ (terms.seller == c)
  by_listing None some = cc
  by_listing (Some l) some = let e : terms_now settings h l ≡ terms = cc in rw (← e) refl
