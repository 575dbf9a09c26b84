-- The auction of an item: its terms, and the standing of its bids.
use Rattle.std.proofs.Common.{◌≡◌, ℕ, ◌∙◌, ap, refl, sym, Option, Some, None, option_map}
use Rattle.house_rows.specs.declared.auction.Auction.{Auction}
use Rattle.house_rows.specs.Found.{auction_at, auction_of, row_at, standing_at, terms_at}
use Rattle.house_rows.specs.Tables.{ItemRow, Tables}

terms_of : (o : Option ItemRow) → option_map (λ (row : ItemRow). row.item.terms) o ≡ option_map (λ (a : Auction). a.terms) (option_map auction_of o)
terms_of None = refl
terms_of (Some row) = refl

standing_of : (o : Option ItemRow) → option_map (λ (row : ItemRow). row.standing) o ≡ option_map (λ (a : Auction). a.standing) (option_map auction_of o)
standing_of None = refl
standing_of (Some row) = refl

pub auction_terms : (t : Tables) (item : ℕ) (a : Auction) → Some a ≡ auction_at t item → terms_at t item ≡ Some a.terms
auction_terms t item a found = terms_of (row_at t item) ∙ ap (option_map (λ (x : Auction). x.terms)) (sym found)

pub auction_standing : (t : Tables) (item : ℕ) (a : Auction) → Some a ≡ auction_at t item → standing_at t item ≡ Some a.standing
auction_standing t item a found = standing_of (row_at t item) ∙ ap (option_map (λ (x : Auction). x.standing)) (sym found)

pub no_auction : (t : Tables) (item : ℕ) → None ≡ auction_at t item → terms_at t item ≡ None
no_auction t item none = terms_of (row_at t item) ∙ ap (option_map (λ (x : Auction). x.terms)) (sym none)
