-- An auction that was found, and its terms.
use Rattle.std.proofs.Common.{◌≡◌, Option, Some, None, IfSome, option_map, ap, subst, sym}
use Rattle.house_rows.specs.declared.auction.Auction.{Auction}
use Rattle.house_rows.specs.Editions.{BandTables}
use Rattle.house_rows.specs.Found.{auction_of}
use Rattle.house_rows.specs.Keeping.{IsKeptItemBy, IsKeptRowBy}
use Rattle.house_rows.specs.Tables.{ItemRow}

terms_same : (o : Option ItemRow) (found : Option Auction) → found ≡ option_map auction_of o → option_map (λ (a : Auction). a.terms) found ≡ option_map (λ (row : ItemRow). row.item.terms) o
terms_same None found e = ap (option_map (λ (a : Auction). a.terms)) e
terms_same (Some row) found e = ap (option_map (λ (a : Auction). a.terms)) e

pub terms_some : (o : Option ItemRow) (a : Auction) → Some a ≡ option_map auction_of o → Some a.terms ≡ option_map (λ (row : ItemRow). row.item.terms) o
terms_some o a e = terms_same o (Some a) e

pub terms_none : (o : Option ItemRow) → None ≡ option_map auction_of o → None ≡ option_map (λ (row : ItemRow). row.item.terms) o
terms_none o e = terms_same o None e

pub terms_found : (o : Option ItemRow) (a : Auction) → option_map auction_of o ≡ Some a → option_map (λ (row : ItemRow). row.item.terms) o ≡ Some a.terms
terms_found o a e = sym (terms_some o a (sym e))

-- where what is sealed goes with what is shown of the auction that was found, it does so of the row
pub row_is_kept : (editions : BandTables) (o : Option ItemRow) (found : Option Auction) → found ≡ option_map auction_of o → IfSome found (λ a. IsKeptItemBy editions a.terms a.standing) → IfSome o (IsKeptRowBy editions)
row_is_kept editions None found are kept = tt
row_is_kept editions (Some row) found are kept = subst (λ (x : Option Auction). IfSome x (λ a. IsKeptItemBy editions a.terms a.standing)) are kept
