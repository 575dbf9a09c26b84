-- An item that was found has the number that it was looked up by.
use Rattle.std.proofs.Common.{◌≡◌, ℕ, Bool, true, false, cond, List, [], ◌∷◌, find, Option, Some, None, option_map, ap, refl, sym, subst, arith, ◌∙◌}
use Rattle.std.specs.Prelude.{IfSome}
use Rattle.std.proofs.lemmas.Bool.Decides.{nat_tests}
use Rattle.sqlite_trees.specs.Tree.{Trees}
use Rattle.house_rows.specs.Changed.{is_item}
use Rattle.house_rows.specs.Editions.{BandTables}
use Rattle.house_rows.specs.Fits.{StandingFits, TermsFit}
use Rattle.house_rows.specs.Found.{auction_of}
use Rattle.house_rows.specs.Keeping.{IsConsistentBy, IsKeptItemBy}
use Rattle.house_rows.specs.Tables.{ItemRow}
use Rattle.house_rows.specs.declared.auction.Auction.{Auction}
use Rattle.store_rows.specs.ItemRows.{items_in}
use Rattle.store_items.specs.Seen.{IsThere}

-- what is found by a number has it
number_of : (number : ℕ) (rows : List ItemRow) → IfSome (option_map auction_of (find (is_item number) rows)) (λ a. a.terms.item ≡ number)
number_of number [] = tt
number_of number (row ∷ rows) = one (is_item number row) refl (number_of number rows)
  where
    one : (b : Bool) → is_item number row ≡ b → IfSome (option_map auction_of (find (is_item number) rows)) (λ a. a.terms.item ≡ number)
        → IfSome (option_map auction_of (cond b (Some row) (find (is_item number) rows))) (λ a. a.terms.item ≡ number)
    one true is later = grind (arith, nat_tests, is)
    one false is later = later

pub seen_there : (db : Trees) (editions : BandTables) (number : ℕ) (found : Option Auction) → found ≡ option_map auction_of (find (is_item number) (items_in db))
    → IfSome found (λ a. TermsFit a.terms × StandingFits a.standing) → IfSome found (λ a. IsConsistentBy editions a.terms)
    → IfSome found (λ a. IsKeptItemBy editions a.terms a.standing) → IfSome found (λ a. IsThere editions a.terms.item a db)
seen_there db editions number None is fits consistent kept = tt
seen_there db editions number (Some a) is fits consistent kept =
    let same : a.terms.item ≡ number = subst (λ (o : Option Auction). IfSome o (λ a. a.terms.item ≡ number)) (sym is) (number_of number (items_in db)) in
    record {
      found = ap (λ (n : ℕ). option_map auction_of (find (is_item n) (items_in db))) same ∙ sym is;
      fits = fits.0;
      is_consistent = consistent;
      kept = kept;
    }
